-- The grammar of expressions: which lists of words are the text of which tree. What nests is
-- parentheses, set literals, `!`, signs and the right sides of `**`.
use Rattle.std.specs.Prelude.{◌≡◌, ℕ, zero, suc, Bool, true, false, List, [], ◌∷◌, ◌++◌, codes}
use Rattle.dsdl_lex.specs.declared.token.TokenKind.TheVariants as k
use Rattle.dsdl_parse.specs.declared.expr.Expr.{Expr}
use Rattle.dsdl_parse.specs.Words.{Word, Signs, is_in, just, logics, orders, bit_signs, plus_minus}
use Rattle.dsdl_parse.specs.Words.{times}
use Rattle.dsdl_parse.specs.Trees.{binary, unary, member, set_of}
use Rattle.dsdl_parse.specs.Leaves.{IsLeaf}

-- which words stand for which tree
abbrev pub Rule : Type 1
Rule = List Word → Expr → Type 0

-- operand (op operand)*, grouped from the left
pub data Chain (op : Signs) (Operand : Rule) : List Word → Expr → Type 0 where
  one : {ws : List Word} {x : Expr} → Operand ws x → Chain op Operand ws x
  more : {ws front back : List Word} {a b : Expr} (w : Word) →
      Chain op Operand front a → is_in op w ≡ true → Operand back b → ws ≡ front ++ w ∷ back → Chain op Operand ws (binary w a b)

-- op inner | plain
pub data Prefixed (op : Signs) (Inner Plain : Rule) : List Word → Expr → Type 0 where
  plain : {ws : List Word} {x : Expr} → Plain ws x → Prefixed op Inner Plain ws x
  prefixed : {ws back : List Word} {x : Expr} (w : Word) →
      is_in op w ≡ true → Inner back x → ws ≡ w ∷ back → Prefixed op Inner Plain ws (unary w x)

-- base ["**" exponent]
pub data Power (Base Exponent : Rule) : List Word → Expr → Type 0 where
  base : {ws : List Word} {x : Expr} → Base ws x → Power Base Exponent ws x
  raised : {ws front back : List Word} {a b : Expr} (w : Word) →
      Base front a → is_in (just (codes "**")) w ≡ true → Exponent back b → ws ≡ front ++ w ∷ back → Power Base Exponent ws (binary w a b)

-- atom ("." name)*
pub data Member (Atom : Rule) : List Word → Expr → Type 0 where
  alone : {ws : List Word} {x : Expr} → Atom ws x → Member Atom ws x
  dotted : {ws front : List Word} {a : Expr} (dot name : Word) →
      Member Atom front a → is_in (just (codes ".")) dot ≡ true → name.kind ≡ k.Name → ws ≡ front ++ dot ∷ name ∷ [] → Member Atom ws (member a name)

-- item ("," item)*
pub data Listed (Item : Rule) : List Word → List Expr → Type 0 where
  single : {ws : List Word} {x : Expr} → Item ws x → Listed Item ws (x ∷ [])
  another : {ws front back : List Word} {x : Expr} {xs : List Expr} (w : Word) →
      Item front x → is_in (just (codes ",")) w ≡ true → Listed Item back xs → ws ≡ front ++ w ∷ back → Listed Item ws (x ∷ xs)

-- "(" inner ")" | "{" [inner ("," inner)*] "}" | a leaf; a set, an empty one too, needs room for
-- one more level of nesting
pub data Atom (room : Bool) (Inner : Rule) : List Word → Expr → Type 0 where
  parens : {ws inside : List Word} {x : Expr} (o c : Word) →
      is_in (just (codes "(")) o ≡ true → Inner inside x → is_in (just (codes ")")) c ≡ true → ws ≡ o ∷ (inside ++ c ∷ []) → Atom room Inner ws x
  empty : {ws : List Word} (o c : Word) →
      room ≡ true → is_in (just (codes "{")) o ≡ true → is_in (just (codes "}")) c ≡ true → ws ≡ o ∷ c ∷ [] → Atom room Inner ws (set_of o [] c)
  set : {ws inside : List Word} {xs : List Expr} (o c : Word) →
      room ≡ true → is_in (just (codes "{")) o ≡ true → Listed Inner inside xs → is_in (just (codes "}")) c ≡ true → ws ≡ o ∷ (inside ++ c ∷ []) → Atom room Inner ws (set_of o xs c)
  leaf : {ws : List Word} {x : Expr} (w : Word) → IsLeaf w x → ws ≡ w ∷ [] → Atom room Inner ws x

-- the rules for what stands one level of nesting further in
pub record Inner : Type 1 where
  -- whether there is such a level
  pub room : Bool
  pub expression : Rule
  pub not : Rule
  pub sign : Rule
  pub power : Rule

module _ (inner : Inner) where
  -- atom = "(" expression ")" | "{" [expression ("," expression)*] "}" | number | string | "true" |
  -- "false" | reference | name
  abbrev pub AtomOf : Rule
  AtomOf = Atom inner.room inner.expression

  -- member = atom ("." name)*, power = member ["**" sign]
  abbrev pub PowerOf : Rule
  PowerOf = Power (Member AtomOf) inner.sign

  -- sign = ["+" | "-"] power
  abbrev pub SignOf : Rule
  SignOf = Prefixed plus_minus inner.power PowerOf

  -- product = sign (("*" | "/" | "%") sign)*
  abbrev pub ProductOf : Rule
  ProductOf = Chain times SignOf

  -- sum = product (("+" | "-") product)*
  abbrev pub SumOf : Rule
  SumOf = Chain plus_minus ProductOf

  -- bits = sum (("|" | "^" | "&") sum)*
  abbrev pub BitsOf : Rule
  BitsOf = Chain bit_signs SumOf

  -- compare = bits (("==" | "!=" | "<=" | ">=" | "<" | ">") bits)*
  abbrev pub CompareOf : Rule
  CompareOf = Chain orders BitsOf

  -- not = "!" not | compare
  abbrev pub NotOf : Rule
  NotOf = Prefixed (just (codes "!")) inner.not CompareOf

  -- expression = not (("||" | "&&") not)*
  abbrev pub ExpressionOf : Rule
  ExpressionOf = Chain logics NotOf

  -- the rules one level further out
  abbrev pub around : Inner
  around = record { room = true; expression = ExpressionOf; not = NotOf; sign = SignOf; power = PowerOf }

-- no words at all
abbrev pub nowhere : Rule
nowhere ws x = ⊥

-- the rules for what stands inside one of n levels of nesting
unfoldable pub within : ℕ → Inner
within zero = record { room = false; expression = nowhere; not = nowhere; sign = nowhere; power = nowhere }
within (suc n) = around (within n)

-- the words are an expression whose nesting is at most n
abbrev pub IsExpression : ℕ → Rule
IsExpression n = ExpressionOf (within n)
