use Rattle.std.proofs.Common.{◌≤◌, length, Ok}
use Rattle.dsdl_parse.specs.declared.expr.Expr.{size-Expr}
use Rattle.const_expr.specs.Operands.{IsOperand, constant_of}
use Rattle.const_expr.specs.Value.{value_of}
use Rattle.const_expr.proofs.EvalSpine.{Waits, ValuesSoFar}
use Rattle.const_expr.proofs.value.+eval.Given as goal

-- the value of the inner expression gives that of the whole one
abbrev pub invariant-eval-loop-left : goal.invariant-eval-loop-left
invariant-eval-loop-left l = record {
  waits : Waits l.scope l.expr l.waiting.items (value_of l.scope l.inner);
  no_deeper : size-Expr l.inner ≤ size-Expr l.expr;
}

-- this value gives that of the whole expression
abbrev pub invariant-eval-loop-outer : goal.invariant-eval-loop-outer
invariant-eval-loop-outer l = record {
  waits : Waits l.scope l.expr l.waiting.items (Ok (constant_of l.value));
  kept : IsOperand l.value;
}

abbrev pub decreases-eval-loop-outer : goal.decreases-eval-loop-outer
decreases-eval-loop-outer l = length l.waiting.items

abbrev pub invariant-eval_all-loop-expr : goal.invariant-eval_all-loop-expr
invariant-eval_all-loop-expr l = ValuesSoFar l.scope l.exprs l.expr-index l.values
