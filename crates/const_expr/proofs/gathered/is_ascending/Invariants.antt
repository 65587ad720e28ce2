use Rattle.const_expr.proofs.SetLemmas.{AscendTo}
use Rattle.const_expr.proofs.gathered.is_ascending.Given as goal

-- the constants before this place ascend
abbrev pub invariant-loop-place : goal.invariant-loop-place
invariant-loop-place l = AscendTo l.constants l.place
