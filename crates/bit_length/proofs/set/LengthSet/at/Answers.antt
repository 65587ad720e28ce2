use Rattle.std.proofs.Common.{subst, sym}
use Rattle.bit_length.specs.Lengths.{Has, Same}
use Rattle.bit_length.specs.Moved.{Moved, moved}
use Rattle.bit_length.proofs.MovedLemmas.{has_moved}
use Rattle.bit_length.proofs.set.LengthSet.at.Goals as goal

pub invariant_of-result : goal.invariant_of-result
invariant_of-result c = rw c.in_ok-new.ensures c.requires

pub returns : goal.returns
returns c =
    subst (λ xs. Same (Has (moved c.args.shift xs)) (Moved c.args.shift (Has c.args.runs))) (sym c.in_ok-new.ensures) (has_moved c.args.shift c.args.runs)
