use Rattle.dsdl_types.specs.Values.{Num}
use Rattle.std_types.proofs.Rows.{Written}
use Rattle.std_types.proofs.held.numbers_value.Given as goal

abbrev pub invariant-loop-number : goal.invariant-loop-number
invariant-loop-number g l = Written (λ n. Num (g.T.Whole.number n)) l.numbers l.number-index l.items.items
