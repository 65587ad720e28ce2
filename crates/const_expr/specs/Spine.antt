-- The left parts of an expression: the left operand of a binary operator, and what stands in front
-- of a point.
use Rattle.std.specs.Prelude.{◌≡◌, Bool, true, false, Ok}
use Rattle.dsdl_parse.specs.declared.expr.Span.{Span}
use Rattle.dsdl_parse.specs.declared.expr.Expr.{Expr, out-Expr}
use Rattle.dsdl_parse.specs.declared.expr.ExprNode.{ExprNode, out-ExprNode}
use Rattle.dsdl_parse.specs.declared.expr.ExprNode.TheOpen as e
use Rattle.const_expr.specs.declared.constant.Const.{Const}
use Rattle.const_expr.specs.declared.scope.Scope.{Scope}
use Rattle.const_expr.specs.Refusals.{at}
use Rattle.const_expr.specs.Binary.{binary}
use Rattle.const_expr.specs.Member.{member}
use Rattle.const_expr.specs.Value.{Valued, with_value, value_of}

abbrev pub node_has_left : e.ExprNode-F ExprNode Expr → Bool
node_has_left (e.Binary op left right) = true
node_has_left (e.Member left name) = true
node_has_left _ = false

-- whether an expression has a left part
abbrev pub has_left : Expr → Bool
has_left x = node_has_left (out-ExprNode (out-Expr x).node)

abbrev pub IsLeftIn : Expr → e.ExprNode-F ExprNode Expr → Type 0
IsLeftIn a (e.Binary op left right) = a ≡ left
IsLeftIn a (e.Member left name) = a ≡ left
IsLeftIn a _ = ⊥

-- an expression is the left part of another
abbrev pub IsLeftOf : Expr → Expr → Type 0
IsLeftOf a x = IsLeftIn a (out-ExprNode (out-Expr x).node)

-- the value of one layer of an expression whose left part is worth u; of an expression without a
-- left part u itself
abbrev pub onto_node : Scope → e.ExprNode-F ExprNode Expr → Span → Const → Valued
onto_node scope (e.Binary op left right) s u = with_value (value_of scope right) (λ v. at s (binary op u v))
onto_node scope (e.Member left name) s u = at s (member scope u name)
onto_node scope _ s u = Ok u

abbrev pub onto : Scope → Expr → Const → Valued
onto scope x u = onto_node scope (out-ExprNode (out-Expr x).node) (out-Expr x).span u
