use Rattle.std_types.specs.Held.{raw_of}
use Rattle.std_types.proofs.Rows.{Taken}
use Rattle.std_types.proofs.held.floats.Given as goal

abbrev pub invariant-loop-item : goal.invariant-loop-item
invariant-loop-item g l = Taken (λ v. g.T.FloatBits.held (raw_of v)) l.item-items l.item-index l.floats.items
