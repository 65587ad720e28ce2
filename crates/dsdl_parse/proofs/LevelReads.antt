-- All levels of an expression.
use Rattle.std.proofs.Common.{◌≡◌, ℕ, zero, suc, true, not, List, [], ◌++◌, codes, refl, sym, subst}
use Rattle.std.proofs.lemmas.Option.{none-some}
use Rattle.dsdl_parse.specs.declared.expr.Expr.{Expr}
use Rattle.dsdl_parse.specs.Words.{Word, Signs, any_of, just, logics, orders, bit_signs, plus_minus, times}
use Rattle.dsdl_parse.specs.Grammar as g
use Rattle.dsdl_parse.specs.Grammar.{Atom}
use Rattle.dsdl_parse.specs.Reading.{Readers, read_atom}
use Rattle.dsdl_parse.specs.Reading as r
use Rattle.dsdl_parse.proofs.Basics.{all_fail}
use Rattle.dsdl_parse.proofs.Readers.{Begins, Reads}
use Rattle.dsdl_parse.proofs.ChainReads.{chain_reads, chain_first}
use Rattle.dsdl_parse.proofs.PrefixedReads.{prefixed_reads, prefixed_first}
use Rattle.dsdl_parse.proofs.PowerReads.{power_reads, power_first}
use Rattle.dsdl_parse.proofs.MemberReads.{member_reads, member_first}
use Rattle.dsdl_parse.proofs.AtomReads.{atom_reads, atom_first, opens, opens_set, closes_set}

-- the signs by which a text of a level may go on
abbrev pub goes_power : Signs
goes_power = just (codes "**") ++ just (codes ".")

abbrev pub goes_product : Signs
goes_product = times ++ goes_power

abbrev pub goes_sum : Signs
goes_sum = plus_minus ++ goes_product

abbrev pub goes_bits : Signs
goes_bits = bit_signs ++ goes_sum

abbrev pub goes_compare : Signs
goes_compare = orders ++ goes_bits

abbrev pub goes_expression : Signs
goes_expression = logics ++ goes_compare

-- the readers one level of nesting further in read the rules there
pub record AllRead (p : Readers) (i : g.Inner) : Type 0 where
  pub room : p.room ≡ i.room
  pub expression : Reads p.expression i.expression goes_expression
  pub not : Reads p.not i.not goes_compare
  pub sign : Reads p.sign i.sign goes_power
  pub power : Reads p.power i.power goes_power
  pub first : (ws : List Word) (x : Expr) → i.expression ws x → Begins closes_set ws

module _ (p : Readers) (i : g.Inner) (all : AllRead p i) where
  firsts_power : (not : Signs) → all_fail opens (any_of not) ≡ true → all_fail opens_set (any_of not) ≡ true →
      (ws : List Word) (x : Expr) → g.PowerOf i ws x → Begins not ws
  firsts_power not a b ws x d = power_first not (λ ws x d. member_first not (λ ws x d. atom_first i.room i.expression not a b d) d) d

  firsts_compare : (not : Signs) → all_fail opens (any_of not) ≡ true → all_fail opens_set (any_of not) ≡ true → all_fail plus_minus (any_of not) ≡ true →
      (ws : List Word) (x : Expr) → g.CompareOf i ws x → Begins not ws
  firsts_compare not a b c ws x d =
      chain_first not (λ ws x d. chain_first not (λ ws x d. chain_first not (λ ws x d. chain_first not
      (λ ws x d. prefixed_first plus_minus not c (firsts_power not a b) d) d) d) d) d

  power_level : Reads (r.power_of p) (g.PowerOf i) goes_power
  power_level = power_reads _ _ _ _ (just (codes "."))
      (member_reads _ _ (subst (λ b. Reads (read_atom b p.expression) (Atom i.room i.expression) []) (sym all.room) (atom_reads i.room p.expression i.expression goes_expression all.expression all.first refl refl refl))) all.sign refl

  sign_level : Reads (r.sign_of p) (g.SignOf i) goes_power
  sign_level = prefixed_reads plus_minus _ _ _ _ goes_power all.power power_level (firsts_power plus_minus refl refl)

  compare_level : Reads (r.compare_of p) (g.CompareOf i) goes_compare
  compare_level = chain_reads orders _ _ goes_bits (chain_reads bit_signs _ _ goes_sum (chain_reads plus_minus _ _ goes_product
      (chain_reads times _ _ goes_power sign_level refl) refl) refl) refl

  not_level : Reads (r.not_of p) (g.NotOf i) goes_compare
  not_level = prefixed_reads (just (codes "!")) _ _ _ _ goes_compare all.not compare_level (firsts_compare (just (codes "!")) refl refl refl)

  around_read : AllRead (r.around p) (g.around i)
  around_read = record {
    room = refl;
    expression = chain_reads logics _ _ goes_compare not_level refl;
    not = not_level;
    sign = sign_level;
    power = power_level;
    first = λ ws x d. chain_first closes_set (λ ws x d. prefixed_first (just (codes "!")) closes_set refl (firsts_compare closes_set refl refl refl) d) d;
  }

nothing_reads : (goes : Signs) → Reads r.nothing g.nowhere goes
nothing_reads goes = record { sound = λ ws rest x e. absurd (none-some _ e); complete = λ front rest x d s. absurd d }

-- the readers take exactly the texts of the grammar, at each nesting
pub all_read : (n : ℕ) → AllRead (r.within n) (g.within n)
unfolding r.within g.within
all_read zero = record {
  room = refl;
  expression = nothing_reads goes_expression;
  not = nothing_reads goes_compare;
  sign = nothing_reads goes_power;
  power = nothing_reads goes_power;
  first = λ ws x d. absurd d;
}
all_read (suc n) = around_read _ _ (all_read n)

pub reads_expression : (n : ℕ) → Reads (r.expression_of (r.within n)) (g.IsExpression n) goes_expression
reads_expression n = (around_read _ _ (all_read n)).expression

-- an expression begins with a word, and with none of these signs where no operand and no sign in front of one does
pub expression_first : (n : ℕ) (not : Signs) → all_fail opens (any_of not) ≡ true → all_fail opens_set (any_of not) ≡ true →
    all_fail plus_minus (any_of not) ≡ true → all_fail (just (codes "!")) (any_of not) ≡ true →
    (ws : List Word) (x : Expr) → g.IsExpression n ws x → Begins not ws
expression_first n not a b c d ws x e =
    chain_first not (λ ws x e. prefixed_first (just (codes "!")) not d (firsts_compare _ _ (all_read n) not a b c) e) e
