use Rattle.std.proofs.Common.{arith}
use Rattle.bit_length.specs.Lengths.{Has, Joins}
use Rattle.bit_length.specs.Moved.{Moved}
use Rattle.bit_length.proofs.SetLemmas.{done, same_join}
use Rattle.bit_length.proofs.MovedLemmas.{value_moved, joins_short, joins_are, joins_turned}
use Rattle.bit_length.proofs.set.LengthSet.join_within.Goals as goal

pub join_moved-requires : goal.join_moved-requires
join_moved-requires c =
    rw c.get-b.ensures.value (λ n h. let l = c.o.invariant n h in omega arith)

pub at-requires : goal.at-requires
at-requires c =
    let joined = rw (c.get-a.ensures.value, c.get-b.ensures.value) at c.in_ok-join_moved.ensures in
    joins_short c.self.inside.shift c.o.inside.shift (Has c.in_ok-join_moved.field-0) (Has c.self.inside.runs) (Has c.o.inside.runs) (omega arith) joined c.self.invariant c.o.invariant

pub join_moved-requires-else-self-o : goal.join_moved-requires-else-self-o
join_moved-requires-else-self-o c =
    rw c.get-a.ensures.value (λ n h. let l = c.self.invariant n h in omega arith)

pub at-requires-else-self-o : goal.at-requires-else-self-o
at-requires-else-self-o c =
    let joined = rw (c.get-a.ensures.value, c.get-b.ensures.value) at c.in_ok-join_moved-2.ensures in
    joins_short c.o.inside.shift c.self.inside.shift (Has c.in_ok-join_moved-2.field-0) (Has c.o.inside.runs) (Has c.self.inside.runs) (omega arith) joined c.o.invariant c.self.invariant

pub returns-in_ok-join_moved : goal.returns-in_ok-join_moved
returns-in_ok-join_moved c =
    let k = c.self.inside.shift in
    let j = c.o.inside.shift in
    let own = Has c.args.self.now in
    let other = Has c.args.o.now in
    let runs = Has c.in_ok-join_moved.field-0 in
    let joined = rw (c.get-a.ensures.value, c.get-b.ensures.value) at c.in_ok-join_moved.ensures in
    done c.at.result (Moved k runs) (Joins own other) (joins_are k j runs (Has c.self.inside.runs) (Has c.o.inside.runs) own other (omega arith) joined (value_moved k c.self.inside.runs c.args.self.now c.self.view_is) (value_moved j c.o.inside.runs c.args.o.now c.o.view_is)) c.at.ensures

pub returns-in_ok-join_moved-2 : goal.returns-in_ok-join_moved-2
returns-in_ok-join_moved-2 c =
    let k = c.self.inside.shift in
    let j = c.o.inside.shift in
    let own = Has c.args.self.now in
    let other = Has c.args.o.now in
    let runs = Has c.in_ok-join_moved-2.field-0 in
    let joined = rw (c.get-a.ensures.value, c.get-b.ensures.value) at c.in_ok-join_moved-2.ensures in
    done c.at-else-self-o.result (Moved j runs) (Joins own other) (same_join (Moved j runs) (Joins other own) (Joins own other) (joins_are j k runs (Has c.o.inside.runs) (Has c.self.inside.runs) other own (omega arith) joined (value_moved j c.o.inside.runs c.args.o.now c.o.view_is) (value_moved k c.self.inside.runs c.args.self.now c.self.view_is)) (joins_turned other own)) c.at-else-self-o.ensures
