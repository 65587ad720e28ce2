use Rattle.std.proofs.Common.{◌*◌, ◌-◌, ◌^◌, ◌≤◌, arith}
use Rattle.std.proofs.Math.Nat.{mul-le-mul_left}
use Rattle.bit_length.specs.Lengths.{Has, Repeats}
use Rattle.bit_length.specs.Moved.{Moved}
use Rattle.bit_length.proofs.SetLemmas.{done}
use Rattle.bit_length.proofs.MovedLemmas.{repeats_short, repeats_are, short_same}
use Rattle.bit_length.proofs.set.LengthSet.repeat_within.Goals as goal

pub repeat_within-requires : goal.repeat_within-requires
repeat_within-requires c = rw c.get.ensures.value (λ m h.
    let l = repeats_short c.self.inside.shift c.args.n c.self.inside.runs c.args.self.now c.self.view_is c.requires m h in omega arith)

pub overflow_mul-self-inside : goal.overflow_mul-self-inside
overflow_mul-self-inside c =
    let (m, h) = c.get.ensures.some in
    let short = c.self.invariant m h in
    let fits = c.ranges.n.fits in
    let l : c.self.inside.shift * c.args.n ≤ c.self.inside.shift * (2 ^ 32 - 1) = mul-le-mul_left c.self.inside.shift (omega arith) in
    omega arith

pub at-requires : goal.at-requires
at-requires c =
    let runs = Has c.in_ok-runs.runs in
    let own = Has c.self.inside.runs in
    let same = rw c.get.ensures.value at c.in_ok-runs.ensures in
    short_same (c.self.inside.shift * c.args.n) runs (Repeats own c.args.n) same (repeats_short c.self.inside.shift c.args.n c.self.inside.runs c.args.self.now c.self.view_is c.requires)

pub returns : goal.returns
returns c =
    let k = c.self.inside.shift in
    let n = c.args.n in
    let runs = Has c.in_ok-runs.runs in
    let same = rw c.get.ensures.value at c.in_ok-runs.ensures in
    done c.at.result (Moved (k * n) runs) (Repeats (Has c.args.self.now) n) (repeats_are k n runs c.self.inside.runs c.args.self.now c.self.view_is same) c.at.ensures
