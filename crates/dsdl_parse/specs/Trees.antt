-- The trees of expressions with their places in the line.
use Rattle.std.specs.Prelude.{ℕ, List}
use Rattle.dsdl_parse.specs.declared.expr.Span.{Span}
use Rattle.dsdl_parse.specs.declared.expr.Expr.{Expr, out-Expr, roll-Expr}
use Rattle.dsdl_parse.specs.declared.expr.ExprNode.{ExprNode}
use Rattle.dsdl_parse.specs.declared.expr.ExprNode.TheVariants as e
use Rattle.dsdl_parse.specs.Words.{Word}

-- an expression at a place
abbrev pub tree : Span → ExprNode → Expr
tree s n = roll-Expr (record { span = s; node = n })

-- the places of an expression's first byte and behind its last one
abbrev pub from_of : Expr → ℕ
from_of x = (out-Expr x).span.from

abbrev pub to_of : Expr → ℕ
to_of x = (out-Expr x).span.to

-- from the left operand to the right one
unfoldable pub binary : Word → Expr → Expr → Expr
binary op a b = tree (record { from = from_of a; to = to_of b }) (e.Binary op.text a b)

-- from the operator to its operand
unfoldable pub unary : Word → Expr → Expr
unary op a = tree (record { from = op.span.from; to = to_of a }) (e.Unary op.text a)

-- from the expression to the name behind the point
unfoldable pub member : Expr → Word → Expr
member a name = tree (record { from = from_of a; to = name.span.to }) (e.Member a name.text)

-- from brace to brace
unfoldable pub set_of : Word → List Expr → Word → Expr
set_of o xs c = tree (record { from = o.span.from; to = c.span.to }) (e.Set xs)
