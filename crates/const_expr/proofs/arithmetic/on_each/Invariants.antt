use Rattle.std.proofs.Common.{◌≡◌, ◌++◌, drop, Ok}
use Rattle.const_expr.specs.Binary.{on_each}
use Rattle.const_expr.specs.Refusals.{and_then}
use Rattle.const_expr.specs.Steps.{with_operand}
use Rattle.const_expr.proofs.arithmetic.on_each.Given as goal

-- the results so far with those of the members that are left are the whole
abbrev pub invariant-loop-member : goal.invariant-loop-member
invariant-loop-member l =
    on_each (λ x. with_operand l.sign l.half x) l.set
    ≡ and_then (on_each (λ x. with_operand l.sign l.half x) (drop l.member-index l.set)) (λ rest. Ok (l.results ++ rest))
