use Rattle.std.proofs.Common.{◌+◌, Some, None, arith}
use Rattle.bit_length.specs.Lengths.{Has}
use Rattle.bit_length.specs.Moved.{Moved}
use Rattle.bit_length.proofs.SetLemmas.{next_same}
use Rattle.bit_length.proofs.MovedLemmas.{value_moved, moved_next, moved_no_next}
use Rattle.bit_length.proofs.set.LengthSet.next.Goals as goal

pub overflow_add-result : goal.overflow_add-result
overflow_add-result c =
    let next = rw c.get.ensures.value at c.in-Some.ensures in
    let short = c.self.invariant c.in-Some.next next.0 in
    omega arith

pub returns-in-Some : goal.returns-in-Some
returns-in-Some c =
    let k = c.self.inside.shift in
    let xs = c.self.inside.runs in
    let n = c.args.n in
    let next = rw (c.get.ensures.value, c.saturating_sub.ensures) at c.in-Some.ensures in
    next_same (Moved k (Has xs)) (Has c.args.self.now) n (Some (k + c.in-Some.next)) (value_moved k xs c.args.self.now c.self.view_is) (moved_next k (Has xs) n c.in-Some.next next)

pub returns-in-None : goal.returns-in-None
returns-in-None c =
    let k = c.self.inside.shift in
    let xs = c.self.inside.runs in
    let n = c.args.n in
    let none = rw (c.get.ensures.value, c.saturating_sub.ensures) at c.in-None.ensures in
    next_same (Moved k (Has xs)) (Has c.args.self.now) n None (value_moved k xs c.args.self.now c.self.view_is) (moved_no_next k (Has xs) n none)
