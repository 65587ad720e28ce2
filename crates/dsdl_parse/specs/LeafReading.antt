-- Reading the tree of a single token.
use Rattle.std.specs.Prelude.{ℕ, ◌+◌, ◌-◌, Bool, ◌&&◌, ◌==◌, nat_lt, if◌then◌else◌, List, [], ◌∷◌}
use Rattle.std.specs.Prelude.{length, take, drop, Option, Some, None}
use Rattle.std.specs.List.{list_all, slice_split}
use Rattle.dsdl_lex.specs.declared.token.TokenKind.{TokenKind}
use Rattle.dsdl_lex.specs.declared.token.TokenKind.TheVariants as k
use Rattle.dsdl_lex.specs.Texts.{is_name, is_version, number_of}
use Rattle.dsdl_parse.specs.declared.expr.Expr.{Expr}
use Rattle.dsdl_parse.specs.declared.expr.ExprNode.{ExprNode}
use Rattle.dsdl_parse.specs.declared.expr.ExprNode.TheVariants as e
use Rattle.dsdl_parse.specs.declared.expr.Reference.{Reference}
use Rattle.dsdl_parse.specs.declared.expr.Span.{Span}
use Rattle.dsdl_parse.specs.Words.{Word}
use Rattle.dsdl_parse.specs.Trees.{tree}
use Rattle.dsdl_parse.specs.Leaves.{unquoted, name_node}

abbrev pub is_point : ℕ → Bool
is_point b = b == 46

-- the parts of a text between its points
abbrev pub parts_of : List ℕ → List (List ℕ)
parts_of text = slice_split is_point text

-- names, and decimal numbers that aren't both 0
abbrev pub are_parts : List (List ℕ) → List ℕ → List ℕ → Bool
are_parts names major minor =
    nat_lt 0 (length names) && (list_all is_name names && (is_version major && (is_version minor && nat_lt 0 (number_of major + number_of minor))))

abbrev pub versioned : List (List ℕ) → List ℕ → List ℕ → Option Reference
versioned names major minor =
    if are_parts names major minor then Some (record { names = names; major = number_of major; minor = number_of minor }) else None

-- the last two parts are the version
abbrev pub named : List (List ℕ) → List (List ℕ) → Option Reference
named names [] = None
named names (major ∷ []) = None
named names (major ∷ minor ∷ []) = versioned names major minor
named names (major ∷ minor ∷ more ∷ rest) = None

abbrev pub reference_in : List (List ℕ) → Option Reference
reference_in parts = named (take (length parts - 2) parts) (drop (length parts - 2) parts)

-- the reference that a text is
abbrev pub reference_of : List ℕ → Option Reference
reference_of text = reference_in (parts_of text)

abbrev pub reference_node : Option Reference → Option ExprNode
reference_node None = None
reference_node (Some r) = Some (e.Reference r)

abbrev pub leaf_node : TokenKind → List ℕ → Option ExprNode
leaf_node k.Number text = Some (e.Number text)
leaf_node k.Str text = Some (e.Str (unquoted text))
leaf_node k.Name text = Some (name_node text)
leaf_node k.Reference text = reference_node (reference_of text)
leaf_node k.Split text = None
leaf_node k.Sign text = None

abbrev pub with_span : Span → Option ExprNode → Option Expr
with_span s None = None
with_span s (Some n) = Some (tree s n)

-- a number, a string, a truth value, a reference or a name
unfoldable pub read_leaf : Word → Option Expr
read_leaf w = with_span w.span (leaf_node w.kind w.text)
