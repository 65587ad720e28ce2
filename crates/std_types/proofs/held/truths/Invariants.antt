use Rattle.std_types.specs.Held.{truth_of}
use Rattle.std_types.proofs.Rows.{Taken}
use Rattle.std_types.proofs.held.truths.Given as goal

abbrev pub invariant-loop-item : goal.invariant-loop-item
invariant-loop-item l = Taken (truth_of) l.item-items l.item-index l.truths.items
