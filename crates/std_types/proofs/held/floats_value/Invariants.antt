use Rattle.dsdl_types.specs.Values.{Raw}
use Rattle.std_types.proofs.Rows.{Written}
use Rattle.std_types.proofs.held.floats_value.Given as goal

abbrev pub invariant-loop-bits : goal.invariant-loop-bits
invariant-loop-bits g l = Written (λ n. Raw (g.T.FloatBits.bits n)) l.floats l.bits-index l.items.items
