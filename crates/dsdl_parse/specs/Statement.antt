-- The grammar of a line: which lists of words are the text of which statement.
use Rattle.std.specs.Prelude.{◌≡◌, ℕ, true, List, [], ◌∷◌, ◌++◌, Option, Some, None, codes, ◌&&◌}
use Rattle.std.specs.Prelude.{Bool, length, nat_lt}
use Rattle.std.specs.Char.{is_ascii_digit}
use Rattle.std.specs.List.{list_all}
use Rattle.dsdl_lex.specs.declared.token.TokenKind.TheVariants as k
use Rattle.dsdl_parse.specs.declared.expr.Expr.{Expr}
use Rattle.dsdl_parse.specs.declared.expr.Reference.{Reference}
use Rattle.dsdl_parse.specs.declared.statement.Bound.{Bound}
use Rattle.dsdl_parse.specs.declared.statement.BoundSign.{BoundSign}
use Rattle.dsdl_parse.specs.declared.statement.BoundSign.TheVariants as sign
use Rattle.dsdl_parse.specs.declared.statement.Form.{Form}
use Rattle.dsdl_parse.specs.declared.statement.Prefix.{Prefix}
use Rattle.dsdl_parse.specs.declared.statement.Prefix.TheVariants as prefix
use Rattle.dsdl_parse.specs.declared.statement.Scalar.{Scalar}
use Rattle.dsdl_parse.specs.declared.statement.Scalar.TheVariants as scalar
use Rattle.dsdl_parse.specs.declared.statement.Statement.{Statement}
use Rattle.dsdl_parse.specs.declared.statement.Statement.TheVariants as statement
use Rattle.dsdl_parse.specs.Grammar.{IsExpression}
use Rattle.dsdl_parse.specs.Leaves.{IsReferenceTo}
use Rattle.dsdl_parse.specs.Words.{Word, is_in, just}

-- decimal digits, at least one
abbrev pub are_digits : List ℕ → Bool
are_digits text = nat_lt 0 (length text) && list_all is_ascii_digit text

-- the text is this word with these digits behind it
pub record IsNumbered (word digits text : List ℕ) : Type 0 where
  pub some_digits : are_digits digits ≡ true
  pub is_text : text ≡ word ++ digits

-- "bool" | "uint" digits | "int" digits | "float" digits
pub data IsPrimitive (name : List ℕ) : Type 0 where
  bool : name ≡ codes "bool" → IsPrimitive name
  uint : (digits : List ℕ) → IsNumbered (codes "uint") digits name → IsPrimitive name
  int : (digits : List ℕ) → IsNumbered (codes "int") digits name → IsPrimitive name
  float : (digits : List ℕ) → IsNumbered (codes "float") digits name → IsPrimitive name

-- ["saturated" | "truncated"]
pub data IsPrefix (ws : List Word) : Option Prefix → Type 0 where
  none : ws ≡ [] → IsPrefix ws None
  saturated : (w : Word) → w.kind ≡ k.Name → w.text ≡ codes "saturated" → ws ≡ w ∷ []
      → IsPrefix ws (Some prefix.Saturated)
  truncated : (w : Word) → w.kind ≡ k.Name → w.text ≡ codes "truncated" → ws ≡ w ∷ []
      → IsPrefix ws (Some prefix.Truncated)

-- "void" digits
pub record IsVoid (ws : List Word) (digits : List ℕ) : Type 0 where
  pub word : Word
  pub is_name : word.kind ≡ k.Name
  pub is_void : IsNumbered (codes "void") digits word.text
  pub alone : ws ≡ word ∷ []

-- ["saturated" | "truncated"] primitive | reference | void
pub data IsScalar (ws : List Word) : Scalar → Type 0 where
  primitive : {front : List Word} {p : Option Prefix} (w : Word) →
      IsPrefix front p → w.kind ≡ k.Name → IsPrimitive w.text → ws ≡ front ++ w ∷ [] → IsScalar ws (scalar.Primitive p w.text)
  reference : {r : Reference} (w : Word) → w.kind ≡ k.Reference → IsReferenceTo w.text r
      → ws ≡ w ∷ [] → IsScalar ws (scalar.Reference r)
  void : {digits : List ℕ} → IsVoid ws digits → IsScalar ws (scalar.Void digits)

-- ["<=" | "<"]
pub data IsBoundSign (ws : List Word) : BoundSign → Type 0 where
  exact : ws ≡ [] → IsBoundSign ws sign.Exact
  at_most : (w : Word) → is_in (just (codes "<=")) w ≡ true → ws ≡ w ∷ []
      → IsBoundSign ws sign.AtMost
  below : (w : Word) → is_in (just (codes "<")) w ≡ true → ws ≡ w ∷ [] → IsBoundSign ws sign.Below

-- "[" ["<=" | "<"] expression "]"
pub data IsBound (ws : List Word) : Bound → Type 0 where
  brackets : {front inside : List Word} {s : BoundSign} {x : Expr} (o c : Word) →
      is_in (just (codes "[")) o ≡ true → IsBoundSign front s → IsExpression 64 inside x → is_in (just (codes "]")) c ≡ true →
      ws ≡ o ∷ (front ++ (inside ++ c ∷ [])) → IsBound ws (record { sign = s; expr = x })

-- scalar | scalar bound
pub data IsForm (ws : List Word) : Form → Type 0 where
  one : {s : Scalar} → IsScalar ws s → IsForm ws (record { scalar = s; array = None })
  several : {front back : List Word} {s : Scalar} {b : Bound} →
      IsScalar front s → IsBound back b → ws ≡ front ++ back → IsForm ws (record { scalar = s; array = Some b })

-- [ "---" | "@" name [expression] | form name "=" expression | form name | void ]
pub data IsStatement (ws : List Word) : Statement → Type 0 where
  empty : ws ≡ [] → IsStatement ws statement.Empty
  split : (w : Word) → w.kind ≡ k.Split → ws ≡ w ∷ [] → IsStatement ws statement.Split
  directive : (at name : Word) → is_in (just (codes "@")) at ≡ true → name.kind ≡ k.Name →
      ws ≡ at ∷ name ∷ [] → IsStatement ws (statement.Directive name.text None)
  directive_of : {back : List Word} {x : Expr} (at name : Word) → is_in (just (codes "@")) at ≡ true
      → name.kind ≡ k.Name → IsExpression 64 back x →
      ws ≡ at ∷ name ∷ back → IsStatement ws (statement.Directive name.text (Some x))
  constant : {front back : List Word} {f : Form} {x : Expr} (name equals : Word) →
      IsForm front f → name.kind ≡ k.Name → is_in (just (codes "=")) equals ≡ true → IsExpression 64 back x →
      ws ≡ front ++ name ∷ equals ∷ back → IsStatement ws (statement.Constant f name.text x)
  field : {front : List Word} {f : Form} (name : Word) → IsForm front f → name.kind ≡ k.Name →
      ws ≡ front ++ name ∷ [] → IsStatement ws (statement.Field f name.text)
  padding : {digits : List ℕ} → IsVoid ws digits → IsStatement ws (statement.Padding digits)
