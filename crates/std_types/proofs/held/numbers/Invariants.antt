use Rattle.std_types.specs.Held.{number_of}
use Rattle.std_types.proofs.Rows.{Taken}
use Rattle.std_types.proofs.held.numbers.Given as goal

abbrev pub invariant-loop-item : goal.invariant-loop-item
invariant-loop-item g l = Taken (λ v. g.T.Whole.nearest (number_of v)) l.item-items l.item-index l.numbers.items
