-- A line has tokens, or a place at which none begins.
use Rattle.std.proofs.Common.{◌≡◌, ℕ, zero, suc, ◌+◌, ◌<◌, ◌≤◌, Bool, true, false, ◌&&◌, ◌==◌, List, [], length, take, drop, get_or, Option, Some, None, refl, sym, ◌∙◌, subst, ◌⊎◌, inl, inr, arith, length-drop, eq-eqb}
use Rattle.std.specs.List.{list_all}
use Rattle.std.proofs.lemmas.Bool.{and_parts, cases_lt, false≢true, eqb-true}
use Rattle.std.proofs.lemmas.Option.{none-some}
use Rattle.dsdl_lex.specs.declared.token.TokenKind.{TokenKind}
use Rattle.dsdl_lex.specs.declared.token.TokenKind.TheVariants as k
use Rattle.dsdl_lex.specs.declared.token.Token.{Token}
use Rattle.dsdl_lex.specs.declared.state.State.TheVariants.{Start}
use Rattle.dsdl_lex.specs.Bytes.{is_blank}
use Rattle.dsdl_lex.specs.Scans.{front_kind}
use Rattle.dsdl_lex.specs.Texts.{is_split}
use Rattle.dsdl_lex.specs.Tokens.{is_blank_end, IsToken, IsLongest, NoToken, Lexes, Stuck, ends, comment, blank, token, here, past_blank, past_token}
use Rattle.dsdl_lex.proofs.Fronts.{front_token, token_front}
use Rattle.dsdl_lex.proofs.KindLaw.{not_empty}

-- a token of n bytes, or none of so many
abbrev Some_of : List ℕ → ℕ → ℕ → Type 0
Some_of line at n = (kind : TokenKind) × IsToken line at kind n

abbrev None_of : List ℕ → ℕ → ℕ → Type 0
None_of line at n = (kind : TokenKind) → IsToken line at kind n → ⊥

module _ (line : List ℕ) (at : ℕ) (inside : at ≤ length line) where
  abbrev text : ℕ → List ℕ
  text n = take n (drop at line)

  abbrev splits : ℕ → Bool
  splits n = is_split (text n) && (list_all is_blank (take at line) && is_blank_end (drop (at + n) line))

  split_here : (n : ℕ) → at + n ≤ length line → splits n ≡ true → IsToken line at k.Split n
  split_here n le e =
      let p = and_parts (is_split (text n)) (list_all is_blank (take at line) && is_blank_end (drop (at + n) line)) e in
      record { within = le; is_kind = p.0; may_stand = and_parts (list_all is_blank (take at line)) (is_blank_end (drop (at + n) line)) p.1 }

  both : (a b c : Bool) → a ≡ true → b ≡ true → c ≡ true → (a && (b && c)) ≡ true
  both true true true p q r = refl
  both true true false p q r = r
  both true false c p q r = q
  both false b c p q r = p

  here_split : (n : ℕ) → IsToken line at k.Split n → splits n ≡ true
  here_split n h = both (is_split (text n)) (list_all is_blank (take at line)) (is_blank_end (drop (at + n) line)) h.is_kind h.may_stand.0 h.may_stand.1

  none_told : (n : ℕ) → splits n ≡ false → front_kind Start (drop at line) n ≡ None → None_of line at n
  none_told n e f k.Reference h = none-some k.Reference (sym f ∙ token_front line at inside k.Reference n tt h)
  none_told n e f k.Name h = none-some k.Name (sym f ∙ token_front line at inside k.Name n tt h)
  none_told n e f k.Number h = none-some k.Number (sym f ∙ token_front line at inside k.Number n tt h)
  none_told n e f k.Str h = none-some k.Str (sym f ∙ token_front line at inside k.Str n tt h)
  none_told n e f k.Split h = false≢true (sym e ∙ here_split n h)
  none_told n e f k.Sign h = none-some k.Sign (sym f ∙ token_front line at inside k.Sign n tt h)

  of_front : (n : ℕ) → at + n ≤ length line → splits n ≡ false → (o : Option TokenKind) → front_kind Start (drop at line) n ≡ o → Some_of line at n ⊎ None_of line at n
  of_front n le e None f = inr (none_told n e f)
  of_front n le e (Some kind) f = inl (kind, front_token line at inside kind n (omega (arith, length-drop at line)) f)

  of_split : (n : ℕ) → at + n ≤ length line → (t : Bool) → splits n ≡ t → Some_of line at n ⊎ None_of line at n
  of_split n le true e = inl (k.Split, split_here n le e)
  of_split n le false e = of_front n le e (front_kind Start (drop at line) n) refl

  -- a token of n bytes stands there or none
  decided : (n : ℕ) → Some_of line at n ⊎ None_of line at n
  decided n = elim (cases_lt (length line) (at + n)) [
    | inl lt ↦ inr (λ kind h. omega (arith, h.within))
    | inr le ↦ of_split n le (splits n) refl
  ]

  abbrev Above : ℕ → Type 0
  Above n = (kind : TokenKind) (m : ℕ) → n < m → IsToken line at kind m → ⊥

  no_more : (n : ℕ) → Above (suc n) → None_of line at (suc n) → Above n
  no_more n above none kind m lt h = elim (cases_lt (suc n) m) [
    | inl more ↦ above kind m more h
    | inr le ↦ let same : m ≡ suc n = omega arith in none kind (subst (λ v. IsToken line at kind v) same h)
  ]

  nothing : Above 0 → NoToken line at
  nothing above kind zero h = not_empty kind h.is_kind
  nothing above kind (suc n) h = above kind (suc n) (omega arith) h

  -- where no token of more than n bytes stands
  up_to : (n : ℕ) → Above n → ((kind : TokenKind) × (n : ℕ) × IsLongest line at kind n) ⊎ NoToken line at
  up_to zero above = inr (nothing above)
  up_to (suc n) above = elim (decided (suc n)) [
    | inl s ↦ inl (s.0, suc n, record { is_token = s.1; no_longer = above })
    | inr none ↦ up_to n (no_more n above none)
  ]

  -- a longest token begins at a place, or none
  longest_or_none : ((kind : TokenKind) × (n : ℕ) × IsLongest line at kind n) ⊎ NoToken line at
  longest_or_none = up_to (length line) (λ kind m lt h. omega (arith, h.within))

-- the tokens from a place on, or a place at which none begins
abbrev Answer : List ℕ → ℕ → Type 0
Answer line at = ((ts : List Token) × Lexes line at ts) ⊎ ((column : ℕ) × Stuck line at column)

module _ (line : List ℕ) (at : ℕ) (lt : at < length line) where
  behind_blank : is_blank (get_or line at 0) ≡ true → Answer line (at + 1) → Answer line at
  behind_blank b (inl (ts, d)) = inl (ts, blank lt b d)
  behind_blank b (inr (column, s)) = inr (column, past_blank lt b s)

  behind_token : (kind : TokenKind) (n : ℕ) → IsLongest line at kind n → Answer line (at + n) → Answer line at
  behind_token kind n h (inl (ts, d)) = inl (_, token h d)
  behind_token kind n h (inr (column, s)) = inr (column, past_token h s)

some_bytes : (line : List ℕ) (at n : ℕ) (kind : TokenKind) → IsLongest line at kind n → 0 < n
some_bytes line at zero kind h = absurd (not_empty kind h.is_token.is_kind)
some_bytes line at (suc n) kind h = omega arith

-- at a byte, where it is told what stands behind it
on_byte : (line : List ℕ) (at : ℕ) → at < length line → ((n : ℕ) → 0 < n → Answer line (at + n)) →
    (t : Bool) → (get_or line at 0 == 35) ≡ t → (u : Bool) → is_blank (get_or line at 0) ≡ u → Answer line at
on_byte line at lt behind true e u f = inl ([], comment lt (eqb-true (get_or line at 0) 35 e))
on_byte line at lt behind false e true f = behind_blank line at lt f (behind 1 (omega arith))
on_byte line at lt behind false e false f = elim (longest_or_none line at (omega arith)) [
  | inl s ↦ behind_token line at lt s.0 s.1 s.2 (behind s.1 (some_bytes line at s.1 s.0 s.2))
  | inr none ↦ inr (at, here lt f (λ same. false≢true (sym e ∙ eq-eqb (get_or line at 0) 35 same)) none)
]

-- from a place on with at most so many bytes behind it
from_place : (line : List ℕ) (fuel at : ℕ) → length line ≤ at + fuel → Answer line at
from_place line zero at le = inl ([], ends (omega arith))
from_place line (suc fuel) at le = elim (cases_lt at (length line)) [
  | inr ge ↦ inl ([], ends ge)
  | inl lt ↦ on_byte line at lt (λ n some. from_place line fuel (at + n) (omega arith)) (get_or line at 0 == 35) refl (is_blank (get_or line at 0)) refl
]

pub either : (line : List ℕ) → Answer line 0
either line = from_place line (length line) 0 (omega arith)
