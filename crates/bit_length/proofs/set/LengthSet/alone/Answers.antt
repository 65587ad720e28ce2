use Rattle.std.proofs.Common.{subst, sym}
use Rattle.bit_length.specs.Lengths.{Has, Same}
use Rattle.bit_length.specs.Moved.{Moved, moved}
use Rattle.bit_length.proofs.MovedLemmas.{has_moved, unmoved}
use Rattle.bit_length.proofs.SetLemmas.{same_join}
use Rattle.bit_length.proofs.set.LengthSet.alone.Goals as goal

pub invariant_of-result : goal.invariant_of-result
invariant_of-result c = rw c.alone.ensures c.requires.short

pub returns : goal.returns
returns c =
    let xs = c.args.runs in
    subst (λ ys. Same (Has (moved 0 ys)) (Has xs)) (sym c.alone.ensures) (same_join (Has (moved 0 xs)) (Moved 0 (Has xs)) (Has xs) (has_moved 0 xs) (unmoved (Has xs)))
