-- Reading the front of a list of words.
use Rattle.std.specs.Prelude.{ℕ, zero, suc, Bool, true, false, if◌then◌else◌, List, [], ◌∷◌, ◌++◌}
use Rattle.std.specs.Prelude.{length, Option, Some, None, codes}
use Rattle.dsdl_lex.specs.declared.token.TokenKind.{TokenKind}
use Rattle.dsdl_lex.specs.declared.token.TokenKind.TheVariants as k
use Rattle.dsdl_parse.specs.declared.expr.Expr.{Expr}
use Rattle.dsdl_parse.specs.Words.{Word, Signs, is_in, just, logics, orders, bit_signs, plus_minus}
use Rattle.dsdl_parse.specs.Words.{times}
use Rattle.dsdl_parse.specs.Trees.{binary, unary, member, set_of}
use Rattle.dsdl_parse.specs.LeafReading.{read_leaf}

infixl 10 ◌>>=◌
abbrev pub ◌>>=◌ : {A B : Type 0} → Option A → (A → Option B) → Option B
None >>= f = None
(Some x) >>= f = f x

abbrev pub Reader : Type 0 → Type 0
Reader A = List Word → Option (A × List Word)

-- the operators and operands behind a, of which there are at most n
abbrev pub chain : Signs → Reader Expr → ℕ → Expr → Reader Expr
chain op operand zero a ws = Some (a, ws)
chain op operand (suc n) a [] = Some (a, [])
chain op operand (suc n) a (w ∷ ws) =
    if is_in op w then operand ws >>= (λ r. chain op operand n (binary w a r.0) r.1) else Some (a, w ∷ ws)

abbrev pub read_chain : Signs → Reader Expr → Reader Expr
read_chain op operand ws = operand ws >>= λ r. chain op operand (length r.1) r.0 r.1

abbrev pub read_prefixed : Signs → Reader Expr → Reader Expr → Reader Expr
read_prefixed op inner plain [] = plain []
read_prefixed op inner plain (w ∷ ws) =
    if is_in op w then inner ws >>= (λ r. Some (unary w r.0, r.1)) else plain (w ∷ ws)

abbrev pub raise : Reader Expr → Expr → Reader Expr
raise exponent a [] = Some (a, [])
raise exponent a (w ∷ ws) =
    if is_in (just (codes "**")) w then exponent ws >>= (λ r. Some (binary w a r.0, r.1)) else Some (a, w ∷ ws)

abbrev pub read_power : Reader Expr → Reader Expr → Reader Expr
read_power base exponent ws = base ws >>= λ r. raise exponent r.0 r.1

abbrev pub is_name_kind : TokenKind → Bool
is_name_kind k.Name = true
is_name_kind _ = false

abbrev pub members : ℕ → Expr → Reader Expr
members zero a ws = Some (a, ws)
members (suc n) a [] = Some (a, [])
members (suc n) a (w ∷ []) = if is_in (just (codes ".")) w then None else Some (a, w ∷ [])
members (suc n) a (w ∷ name ∷ ws) =
    if is_in (just (codes ".")) w then (if is_name_kind name.kind then members n (member a name) ws else None) else Some (a, w ∷ name ∷ ws)

abbrev pub read_member : Reader Expr → Reader Expr
read_member atom ws = atom ws >>= λ r. members (length r.1) r.0 r.1

-- the sign, and what it closes
abbrev pub close : {A : Type 0} → Signs → A → List Word → Option ((A × Word) × List Word)
close s a [] = None
close s a (w ∷ ws) = if is_in s w then Some ((a, w), ws) else None

-- more behind a comma
abbrev pub comma : (List Expr → Reader (List Expr)) → List Expr → Reader (List Expr)
comma more xs [] = Some (xs, [])
comma more xs (w ∷ ws) = if is_in (just (codes ",")) w then more xs ws else Some (xs, w ∷ ws)

-- at most n items, behind those read so far
abbrev pub items : Reader Expr → ℕ → List Expr → Reader (List Expr)
items item zero xs ws = None
items item (suc n) xs ws = item ws >>= λ r. comma (items item n) (xs ++ r.0 ∷ []) r.1

abbrev pub read_items : Reader Expr → Reader (List Expr)
read_items item ws = items item (suc (length ws)) [] ws

abbrev pub end_parens : (Expr × Word) × List Word → Option (Expr × List Word)
end_parens c = Some (c.0.0, c.1)

abbrev pub end_braces : Word → (List Expr × Word) × List Word → Option (Expr × List Word)
end_braces o c = Some (set_of o c.0.0 c.0.1, c.1)

-- what stands behind a brace
abbrev pub in_items : Reader Expr → Word → Reader Expr
in_items item o ws = read_items item ws >>= λ r. close (just (codes "}")) r.0 r.1 >>= end_braces o

abbrev pub in_braces : Reader Expr → Word → Reader Expr
in_braces item o [] = in_items item o []
in_braces item o (w ∷ ws) =
    if is_in (just (codes "}")) w then Some (set_of o [] w, ws) else in_items item o (w ∷ ws)

abbrev pub in_parens : Reader Expr → Reader Expr
in_parens inner ws = inner ws >>= λ r. close (just (codes ")")) r.0 r.1 >>= end_parens

abbrev pub braces_where : Bool → Reader Expr → Word → Reader Expr
braces_where room inner o ws = if room then in_braces inner o ws else None

-- the first word as a leaf
abbrev pub read_one : Reader Expr
read_one [] = None
read_one (w ∷ ws) = read_leaf w >>= λ x. Some (x, ws)

abbrev pub read_atom : Bool → Reader Expr → Reader Expr
read_atom room inner [] = None
read_atom room inner (w ∷ ws) =
    if is_in (just (codes "(")) w then in_parens inner ws
    else if is_in (just (codes "{")) w then braces_where room inner w ws
    else read_leaf w >>= λ x. Some (x, ws)

pub record Readers : Type 0 where
  pub room : Bool
  pub expression : Reader Expr
  pub not : Reader Expr
  pub sign : Reader Expr
  pub power : Reader Expr

module _ (inner : Readers) where
  abbrev pub atom_of : Reader Expr
  atom_of = read_atom inner.room inner.expression

  abbrev pub braced : Word → Reader Expr
  braced = braces_where inner.room inner.expression

  abbrev pub power_of : Reader Expr
  power_of = read_power (read_member atom_of) inner.sign

  abbrev pub sign_of : Reader Expr
  sign_of = read_prefixed plus_minus inner.power power_of

  abbrev pub product_of : Reader Expr
  product_of = read_chain times sign_of

  abbrev pub sum_of : Reader Expr
  sum_of = read_chain plus_minus product_of

  abbrev pub bits_of : Reader Expr
  bits_of = read_chain bit_signs sum_of

  abbrev pub compare_of : Reader Expr
  compare_of = read_chain orders bits_of

  abbrev pub not_of : Reader Expr
  not_of = read_prefixed (just (codes "!")) inner.not compare_of

  abbrev pub expression_of : Reader Expr
  expression_of = read_chain logics not_of

  abbrev pub around : Readers
  around = record { room = true; expression = expression_of; not = not_of; sign = sign_of; power = power_of }

abbrev pub nothing : Reader Expr
nothing ws = None

abbrev pub nothings : Readers
nothings = record { room = false; expression = nothing; not = nothing; sign = nothing; power = nothing }

-- the readers of what nests at most n - 1 deep
unfoldable pub within : ℕ → Readers
within zero = nothings
within (suc n) = around (within n)

-- what the front of the words is as an expression, at the deepest nesting that is allowed
abbrev pub read_expression : Reader Expr
read_expression = expression_of (within 64)
