-- The trees of single tokens.
use Rattle.std.specs.Prelude.{◌≡◌, ℕ, ◌+◌, ◌-◌, ◌<◌, true, false, if◌then◌else◌, List, [], ◌∷◌}
use Rattle.std.specs.Prelude.{◌++◌, length, codes}
use Rattle.std.specs.List.{list_all, slice_range, join_with_byte}
use Rattle.std.specs.Str.{bytes_eq}
use Rattle.dsdl_lex.specs.declared.token.TokenKind.{TokenKind}
use Rattle.dsdl_lex.specs.declared.token.TokenKind.TheVariants as k
use Rattle.dsdl_lex.specs.Texts.{is_name, is_version, number_of}
use Rattle.dsdl_parse.specs.declared.expr.Expr.{Expr}
use Rattle.dsdl_parse.specs.declared.expr.ExprNode.{ExprNode}
use Rattle.dsdl_parse.specs.declared.expr.ExprNode.TheVariants as e
use Rattle.dsdl_parse.specs.declared.expr.Reference.{Reference}
use Rattle.dsdl_parse.specs.Words.{Word}
use Rattle.dsdl_parse.specs.Trees.{tree}

-- the text is the names and the decimal version with points (46) between them all; not version 0.0
pub record IsReferenceTo (text : List ℕ) (r : Reference) : Type 0 where
  pub major : List ℕ
  pub minor : List ℕ
  pub some_name : 0 < length r.names
  pub are_names : list_all is_name r.names ≡ true
  pub is_major : is_version major ≡ true
  pub is_minor : is_version minor ≡ true
  pub major_number : r.major ≡ number_of major
  pub minor_number : r.minor ≡ number_of minor
  pub some_version : 0 < r.major + r.minor
  pub is_text : text ≡ join_with_byte 46 (r.names ++ major ∷ minor ∷ [])

-- what stands between the first byte and the last one
abbrev pub unquoted : List ℕ → List ℕ
unquoted text = slice_range text 1 (length text - 1)

-- `true`, `false` or another name
abbrev pub name_node : List ℕ → ExprNode
name_node text = if bytes_eq text (codes "true") then e.Truth true else if bytes_eq text (codes "false") then e.Truth false else e.Name text

-- what a token of this kind and text is as an expression
abbrev pub IsNode : TokenKind → List ℕ → ExprNode → Type 0
IsNode k.Number text n = n ≡ e.Number text
IsNode k.Str text n = n ≡ e.Str (unquoted text)
IsNode k.Name text n = n ≡ name_node text
IsNode k.Reference text n = (r : Reference) × (n ≡ e.Reference r) × IsReferenceTo text r
IsNode k.Split text n = ⊥
IsNode k.Sign text n = ⊥

-- a number, a string, a truth value, a reference or a name
pub record IsLeaf (w : Word) (x : Expr) : Type 0 where
  pub node : ExprNode
  pub is_node : IsNode w.kind w.text node
  pub is_tree : x ≡ tree w.span node
