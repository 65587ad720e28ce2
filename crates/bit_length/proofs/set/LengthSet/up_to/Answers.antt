use Rattle.std.proofs.Common.{◌*◌, refl, arith}
use Rattle.std.proofs.lemmas.Result.{err_from_is_err_and}
use Rattle.bit_length.specs.Lengths.{Has, Multiples, Repeats, UpTo}
use Rattle.bit_length.proofs.MovedLemmas.{zero_alone}
use Rattle.bit_length.proofs.SetLemmas.{long_at, memory_short, ok_short, same_join}
use Rattle.bit_length.proofs.RepeatLemmas.{greatest_up_to, up_to_from, up_to_one_number}
use Rattle.bit_length.proofs.set.LengthSet.up_to.Goals as goal

pub returns-then-greatest-gt-LONGEST-clause-long :
    goal.returns-then-greatest-gt-LONGEST-clause-long
returns-then-greatest-gt-LONGEST-clause-long c =
    long_at (UpTo (Has c.args.self.now) c.args.n) (c.max.result * c.args.n) (greatest_up_to (Has c.args.self.now) c.max.result c.max.ensures.greatest c.args.n) (omega arith)

pub returns-in_err-join_within-clause-long : goal.returns-in_err-join_within-clause-long
returns-in_err-join_within-clause-long c =
    let p = err_from_is_err_and c.from_residual.result c.from_residual.ensures.1 in
    rw (p.1, p.2) (memory_short (UpTo (Has c.args.self.now) c.args.n) (c.max.result * c.args.n) (greatest_up_to (Has c.args.self.now) c.max.result c.max.ensures.greatest c.args.n) (omega arith))

pub multiples-requires-clause-short : goal.multiples-requires-clause-short
multiples-requires-clause-short c =
    let S = Has c.args.self.now in
    let w = (up_to_one_number c.in-Some.bits c.args.n S c.in-Some.ensures (c.in-Some.bits * c.args.n)).0 (c.args.n, omega arith, refl) in
    let l = (greatest_up_to S c.max.result c.max.ensures.greatest c.args.n).1 (c.in-Some.bits * c.args.n) w in omega arith

pub alone-requires-clause-some : goal.alone-requires-clause-some
alone-requires-clause-some c = (0, (c.multiples.ensures 0).1 (0, omega arith, omega arith))

pub alone-requires-clause-short : goal.alone-requires-clause-short
alone-requires-clause-short c = λ m h.
    let S = Has c.args.self.now in
    let w = (up_to_one_number c.in-Some.bits c.args.n S c.in-Some.ensures m).0 ((c.multiples.ensures m).0 h) in
    let l = (greatest_up_to S c.max.result c.max.ensures.greatest c.args.n).1 m w in omega arith

pub returns-then-bits-gt0-clause-members : goal.returns-then-bits-gt0-clause-members
returns-then-bits-gt0-clause-members c =
    let S = Has c.args.self.now in
    let M = Multiples c.in-Some.bits c.args.n in
    same_join (Has c.alone.result) M (UpTo S c.args.n) (same_join (Has c.alone.result) (Has c.multiples.result) M c.alone.ensures c.multiples.ensures) (up_to_one_number c.in-Some.bits c.args.n S c.in-Some.ensures)

pub returns-then-bits-gt0-clause-long : goal.returns-then-bits-gt0-clause-long
returns-then-bits-gt0-clause-long c =
    ok_short (UpTo (Has c.args.self.now) c.args.n) (c.max.result * c.args.n) c.alone.result (greatest_up_to (Has c.args.self.now) c.max.result c.max.ensures.greatest c.args.n) (omega arith)

pub repeat_within-requires : goal.repeat_within-requires
repeat_within-requires c = λ k h.
    let S = Has c.args.self.now in
    let w = (up_to_from S (Has c.in_ok-join_within.field-0) (Has c.alone-zero.result) c.args.n c.in_ok-join_within.ensures (zero_alone c.alone-zero.result c.of.result c.alone-zero.ensures c.of.ensures) k).0 h in
    let l = (greatest_up_to S c.max.result c.max.ensures.greatest c.args.n).1 k w in omega arith

pub returns-in_err-repeat_within-clause-long : goal.returns-in_err-repeat_within-clause-long
returns-in_err-repeat_within-clause-long c =
    let p = err_from_is_err_and c.from_residual-in_err-repeat_within.result c.from_residual-in_err-repeat_within.ensures.1 in
    rw (p.1, p.2) (memory_short (UpTo (Has c.args.self.now) c.args.n) (c.max.result * c.args.n) (greatest_up_to (Has c.args.self.now) c.max.result c.max.ensures.greatest c.args.n) (omega arith))

pub returns-clause-members : goal.returns-clause-members
returns-clause-members c =
    let S = Has c.args.self.now in
    same_join (Has c.in_ok-repeat_within.field-0) (Repeats (Has c.in_ok-join_within.field-0) c.args.n) (UpTo S c.args.n) c.in_ok-repeat_within.ensures (up_to_from S (Has c.in_ok-join_within.field-0) (Has c.alone-zero.result) c.args.n c.in_ok-join_within.ensures (zero_alone c.alone-zero.result c.of.result c.alone-zero.ensures c.of.ensures))

pub returns-clause-long : goal.returns-clause-long
returns-clause-long c =
    ok_short (UpTo (Has c.args.self.now) c.args.n) (c.max.result * c.args.n) c.in_ok-repeat_within.field-0 (greatest_up_to (Has c.args.self.now) c.max.result c.max.ensures.greatest c.args.n) (omega arith)

pub alone-zero-requires : goal.alone-zero-requires
alone-zero-requires c = record {
  some = (0, (c.of.ensures 0).1 refl);
  short = λ m h. let e = (c.of.ensures m).0 h in omega arith;
}
