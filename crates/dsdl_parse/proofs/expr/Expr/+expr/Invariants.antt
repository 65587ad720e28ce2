use Rattle.std.proofs.Common.{◌≤◌}
use Rattle.dsdl_parse.specs.declared.expr.Expr.{size-Expr}
use Rattle.dsdl_parse.proofs.expr.Expr.+expr.Given as goal

abbrev pub invariant-loop-op : goal.invariant-loop-op
invariant-loop-op l = size-Expr l.self ≤ size-Expr l.initial.self
