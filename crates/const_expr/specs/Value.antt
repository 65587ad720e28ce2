-- The constant that an expression is worth, or the first refusal in it. Operands are valued left
-- before right, and both always.
use Rattle.std.specs.Prelude.{List, [], ◌∷◌, Result, Ok, Err}
use Rattle.dsdl_parse.specs.declared.expr.Span.{Span}
use Rattle.dsdl_parse.specs.declared.expr.Expr.{Expr, Expr-F}
use Rattle.dsdl_parse.specs.declared.expr.ExprNode.TheOpen as e
use Rattle.dsdl_parse.specs.declared.expr.ExprNode.TheFolds.{fold-Expr}
use Rattle.const_expr.specs.declared.constant.Const.{Const}
use Rattle.const_expr.specs.declared.constant.Const.TheVariants as c
use Rattle.const_expr.specs.declared.error.ExprError.{ExprError}
use Rattle.const_expr.specs.declared.scope.Scope.{Scope}
use Rattle.const_expr.specs.Refusals.{at}
use Rattle.const_expr.specs.Literal.{literal}
use Rattle.const_expr.specs.Binary.{binary}
use Rattle.const_expr.specs.Unary.{unary, set_of}
use Rattle.const_expr.specs.Member.{named, referred, member}

-- a constant, or a refusal with its place
abbrev pub Valued : Type 0
Valued = Result Const ExprError

-- what follows a value; a refusal stays
abbrev pub with_value : {A B : Type 0} → Result A ExprError → (A → Result B ExprError)
    → Result B ExprError
with_value (Ok a) next = next a
with_value (Err why) next = Err why

-- all values in order, or the first refusal
abbrev pub all_values : List Valued → Result (List Const) ExprError
all_values [] = Ok []
all_values (r ∷ rs) = with_value r (λ u. with_value (all_values rs) (λ us. Ok (u ∷ us)))

-- one layer of an expression at its place, with the values of its parts
abbrev pub at_node : Scope → e.ExprNode-F (Span → Valued) Valued → Span → Valued
at_node scope (e.Number text) s = at s (literal text)
at_node scope (e.Str text) s = Ok (c.Str text)
at_node scope (e.Truth b) s = Ok (c.Truth b)
at_node scope (e.Name name) s = at s (named scope name)
at_node scope (e.Reference r) s = at s (referred scope r)
at_node scope (e.Set values) s = with_value (all_values values) (λ us. at s (set_of us))
at_node scope (e.Unary op value) s = with_value value (λ u. at s (unary op u))
at_node scope (e.Binary op left right) s = with_value left (λ u. with_value right (λ v. at s (binary op u v)))
at_node scope (e.Member value name) s = with_value value (λ u. at s (member scope u name))

abbrev pub at_place : Expr-F (Span → Valued) Valued → Valued
at_place x = x.node x.span

-- the value of an expression
unfoldable pub value_of : Scope → Expr → Valued
value_of scope = fold-Expr (Span → Valued) Valued (at_node scope) at_place
