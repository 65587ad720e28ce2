use Rattle.dsdl_types.specs.Values.{Truth}
use Rattle.std_types.proofs.Rows.{Written}
use Rattle.std_types.proofs.held.truths_value.Given as goal

abbrev pub invariant-loop-truth : goal.invariant-loop-truth
invariant-loop-truth l = Written (Truth) l.truths l.truth-index l.items.items
