-- The leaves of an expression, in the order of the text.
use Rattle.std.specs.Prelude.{ℕ, Bool, false, List, [], ◌∷◌, ◌++◌, Option, Some, None, true}
use Rattle.std.specs.List.{filter_map, flat_map, list_any}
use Rattle.std.specs.Str.{bytes_eq}
use Rattle.dsdl_parse.specs.declared.expr.Reference.{Reference}
use Rattle.dsdl_parse.specs.declared.expr.Expr.{Expr, Expr-F, out-Expr}
use Rattle.dsdl_parse.specs.declared.expr.ExprNode.{ExprNode, out-ExprNode}
use Rattle.dsdl_parse.specs.declared.expr.ExprNode.TheVariants as v
use Rattle.dsdl_parse.specs.declared.expr.ExprNode.TheOpen as e
use Rattle.dsdl_parse.specs.declared.expr.ExprNode.TheFolds.{fold-Expr}

-- the leaves of one layer, with those of its parts; a name behind a point is none
abbrev pub leaves_at : e.ExprNode-F (List ExprNode) (List ExprNode) → List ExprNode
leaves_at (e.Number text) = v.Number text ∷ []
leaves_at (e.Str text) = v.Str text ∷ []
leaves_at (e.Truth b) = v.Truth b ∷ []
leaves_at (e.Name name) = v.Name name ∷ []
leaves_at (e.Reference r) = v.Reference r ∷ []
leaves_at (e.Set members) = flat_map (λ leaves. leaves) members
leaves_at (e.Unary op a) = a
leaves_at (e.Binary op a b) = a ++ b
leaves_at (e.Member a name) = a

abbrev pub leaves_in : Expr-F (List ExprNode) (List ExprNode) → List ExprNode
leaves_in x = x.node

-- numbers, strings, truth values, names and references
unfoldable pub leaves_of : Expr → List ExprNode
leaves_of = fold-Expr (List ExprNode) (List ExprNode) leaves_at leaves_in

-- the expressions right below a layer, in the order of the text
abbrev pub parts_at : e.ExprNode-F ExprNode Expr → List Expr
parts_at (e.Set members) = members
parts_at (e.Unary op a) = a ∷ []
parts_at (e.Binary op a b) = a ∷ b ∷ []
parts_at (e.Member a name) = a ∷ []
parts_at _ = []

abbrev pub parts_of : Expr → List Expr
parts_of x = parts_at (out-ExprNode (out-Expr x).node)

abbrev pub is_leaf_at : e.ExprNode-F ExprNode Expr → Bool
is_leaf_at (e.Set members) = false
is_leaf_at (e.Unary op a) = false
is_leaf_at (e.Binary op a b) = false
is_leaf_at (e.Member a name) = false
is_leaf_at _ = true

abbrev pub is_leaf : ExprNode → Bool
is_leaf n = is_leaf_at (out-ExprNode n)

-- the reference that a leaf is
abbrev pub reference_in : e.ExprNode-F ExprNode Expr → Option Reference
reference_in (e.Reference r) = Some r
reference_in _ = None

-- the references in an expression, in the order of the text
abbrev pub references_of : Expr → List Reference
references_of x = filter_map (λ leaf. reference_in (out-ExprNode leaf)) (leaves_of x)

-- a leaf is this name
abbrev pub is_name_in : List ℕ → e.ExprNode-F ExprNode Expr → Bool
is_name_in name (e.Name other) = bytes_eq other name
is_name_in name _ = false

abbrev pub is_name_at : List ℕ → ExprNode → Bool
is_name_at name leaf = is_name_in name (out-ExprNode leaf)

-- whether an expression names this, as `_offset_`
abbrev pub names_it : Expr → List ℕ → Bool
names_it x name = list_any (is_name_at name) (leaves_of x)
