-- What the loop over a line's tokens keeps.
use Rattle.std.proofs.Common.{◌≡◌, ℕ, zero, suc, ◌+◌, ◌<◌, ◌≤◌, true, false, ◌&&◌, ◌==◌, List, [], ◌∷◌, ◌++◌, length, take, drop, get_or, None, refl, sym, ap, ◌∙◌, subst, ◌⊎◌, inl, inr, arith, append_assoc, length-drop, add-one}
use Rattle.std.specs.List.{list_all}
use Rattle.std.specs.Prelude.{nat_le}
use Rattle.std.proofs.lemmas.Bool.{and_parts, false≢true, eqb-true, or_cases, cases_lt, leb-true}
use Rattle.std.proofs.lemmas.List.{length-take-le, get_or-drop}
use Rattle.std.proofs.lemmas.Option.{none-some}
use Rattle.dsdl_lex.specs.declared.token.TokenKind.{TokenKind}
use Rattle.dsdl_lex.specs.declared.token.TokenKind.TheVariants as k
use Rattle.dsdl_lex.specs.declared.token.Token.{Token}
use Rattle.dsdl_lex.specs.Bytes.{is_blank}
use Rattle.dsdl_lex.specs.Steps.{run, kind_of}
use Rattle.dsdl_lex.specs.declared.state.State.TheVariants.{Start}
use Rattle.dsdl_lex.specs.Texts.{is_dash}
use Rattle.dsdl_lex.specs.Tokens.{IsToken, IsLongest, NoToken, Lexes, Stuck, is_blank_end, ends, comment, blank, token, here, past_blank, past_token}
use Rattle.dsdl_lex.specs.Scans.{IsClear, NoSplit}
use Rattle.dsdl_lex.proofs.KindLaw.{kind_told, two_dashes}
use Rattle.dsdl_lex.proofs.Blanks.{between_all, blank_end_at}

pub record Going (line : List ℕ) (tokens : List Token) (at clear : ℕ) : Type 0 where
  pub within : at ≤ length line
  pub no_split : NoSplit line
  pub is_clear : IsClear line at clear
  pub more : (ts : List Token) → Lexes line at ts → Lexes line 0 (tokens ++ ts)
  pub stuck : (column : ℕ) → Stuck line at column → Stuck line 0 column

pub starts : (line : List ℕ) → NoSplit line → Going line [] 0 0
starts line s = record { within = omega arith; no_split = s; is_clear = λ place lo hi n h. omega arith; more = λ ts d. d; stuck = λ column d. d }

append_nil : {A : Type 0} (xs : List A) → xs ++ [] ≡ xs
append_nil [] = refl
append_nil (x ∷ xs) = ap (λ l. x ∷ l) (append_nil xs)

module _ (line : List ℕ) (tokens : List Token) (at clear : ℕ) (going : Going line tokens at clear) where
  done : Lexes line at [] → Lexes line 0 tokens
  done d = subst (Lexes line 0) (append_nil tokens) (going.more [] d)

  pub at_comment : at < length line → get_or line at 0 ≡ 35 → Lexes line 0 tokens
  at_comment lt e = done (comment lt e)

  pub at_end : length line ≤ at → Lexes line 0 tokens
  at_end le = done (ends le)

  pub go_blank : at < length line → is_blank (get_or line at 0) ≡ true → Going line tokens (at + 1) clear
  go_blank lt e = record {
    within = omega arith;
    no_split = going.no_split;
    is_clear = λ place lo hi. going.is_clear place (omega arith) hi;
    more = λ ts d. going.more ts (blank lt e d);
    stuck = λ column d. going.stuck column (past_blank lt e d);
  }

  pub go_token : (kind : TokenKind) (n clear' : ℕ) → IsLongest line at kind n → IsClear line at clear' → Going line (tokens ++ record { kind = kind; from = at; to = at + n } ∷ []) (at + n) clear'
  go_token kind n clear' h free = record {
    within = h.is_token.within;
    no_split = going.no_split;
    is_clear = λ place lo hi. free place (omega arith) hi;
    more = λ ts d. subst (Lexes line 0) (sym (append_assoc tokens (record { kind = kind; from = at; to = at + n } ∷ []) ts)) (going.more _ (token h d));
    stuck = λ column d. going.stuck column (past_token h d);
  }

  pub refuse : at < length line → is_blank (get_or line at 0) ≡ false → (get_or line at 0 ≡ 35 → ⊥) → NoToken line at → Stuck line 0 at
  refuse lt b c n = going.stuck at (here lt b c n)

-- ---- a line that is a split
-- blanks at the front give no tokens
front_blank : (line : List ℕ) (n at : ℕ) (ts : List Token) → at + n ≤ length line → ((i : ℕ) → at ≤ i → i < at + n → is_blank (get_or line i 0) ≡ true) → Lexes line (at + n) ts → Lexes line at ts
front_blank line zero at ts le h d = let e : at + 0 ≡ at = omega arith in subst (λ v. Lexes line v ts) e d
front_blank line (suc n) at ts le h d =
    let e : at + suc n ≡ (at + 1) + n = omega arith in
    blank (omega arith) (h at (omega arith) (omega arith)) (front_blank line n (at + 1) ts (omega arith) (λ i lo hi. h i (omega arith) (omega arith)) (subst (λ v. Lexes line v ts) e d))

end_byte : (line : List ℕ) (at : ℕ) → at < length line → is_blank_end (drop at line) ≡ true → (get_or line at 0 ≡ 35) ⊎ ((is_blank (get_or line at 0) ≡ true) × (is_blank_end (drop (at + 1) line) ≡ true))
end_byte line at lt e = elim (or_cases (get_or line at 0 == 35) (is_blank (get_or line at 0) && is_blank_end (drop (suc at) line)) (sym (blank_end_at line at lt) ∙ e)) [
  | inl h ↦ inl (eqb-true (get_or line at 0) 35 h)
  | inr h ↦
      let p = and_parts (is_blank (get_or line at 0)) (is_blank_end (drop (suc at) line)) h in
      inr (p.0, subst (λ v. is_blank_end (drop v line) ≡ true) (sym (add-one at)) p.1)
]

-- blanks and a comment at the end give none
end_blank : (line : List ℕ) (n at : ℕ) → length line ≤ at + n → is_blank_end (drop at line) ≡ true → Lexes line at []
end_blank line zero at le e = ends (omega arith)
end_blank line (suc n) at le e = elim (cases_lt at (length line)) [
  | inr ge ↦ ends ge
  | inl lt ↦ elim (end_byte line at lt e) [
    | inl h ↦ comment lt h
    | inr h ↦ blank lt h.0 (end_blank line n (at + 1) (omega arith) h.1)
  ]
]

-- a text of two or more dashes that goes on with another byte is no token
module _ (line : List ℕ) (at n : ℕ) (h : IsToken line at k.Split n) where
  dashes : (nat_le 3 (length (take n (drop at line))) ≡ true) × (list_all is_dash (take n (drop at line)) ≡ true)
  dashes = and_parts _ _ h.is_kind

  long : 3 ≤ n
  long = omega (arith, leb-true 3 (length (take n (drop at line))) dashes.0, length-take-le n (drop at line) (omega (arith, length-drop at line, h.within)))

  dash : (i : ℕ) → at ≤ i → i < at + n → get_or line i 0 ≡ 45
  dash i lo hi = eqb-true (get_or line i 0) 45 (between_all is_dash line at n h.within dashes.1 i lo hi)

  different : ◌≡◌ {A = ℕ} 45 35 → ⊥
  different e = omega arith

  no_more_dashes : (m : ℕ) → n < m → IsToken line at k.Split m → ⊥
  no_more_dashes m lt x =
      let byte : get_or line (at + n) 0 ≡ 45 = eqb-true (get_or line (at + n) 0) 45 (between_all is_dash line at m x.within (and_parts (nat_le 3 (length (take m (drop at line)))) (list_all is_dash (take m (drop at line))) x.is_kind).1 (at + n) (omega arith) (omega arith)) in
      elim (end_byte line (at + n) (omega (arith, x.within)) h.may_stand.1) [
        | inl e ↦ different (sym byte ∙ e)
        | inr e ↦ false≢true (sym (subst (λ v. is_blank v ≡ false) (sym byte) refl) ∙ e.0)
      ]

  two : (xs : List ℕ) (m : ℕ) → 2 ≤ m → m ≤ length xs → get_or xs 0 0 ≡ 45 → get_or xs 1 0 ≡ 45 → kind_of (run Start (take m xs)) ≡ None
  two [] m lo hi e f = absurd (omega arith)
  two (b ∷ []) m lo hi e f = absurd (omega arith)
  two (b ∷ c ∷ cs) zero lo hi e f = absurd (omega arith)
  two (b ∷ c ∷ cs) (suc zero) lo hi e f = absurd (omega arith)
  two (b ∷ c ∷ cs) (suc (suc m)) lo hi e f = two_dashes b c (take m cs) (subst (λ v. is_dash v ≡ true) (sym e) refl) (subst (λ v. is_dash v ≡ true) (sym f) refl)

  no_longer : (other : TokenKind) (m : ℕ) → n < m → IsToken line at other m → ⊥
  no_longer other m lt x = elim (kind_told (take m (drop at line)) other x.is_kind) [
    | inl e ↦ no_more_dashes m lt (subst (λ v. IsToken line at v m) e x)
    | inr e ↦ none-some other (sym (two (drop at line) m (omega (arith, long)) (omega (arith, length-drop at line, x.within))
        (get_or-drop at line 0 0 ∙ dash (at + 0) (omega arith) (omega (arith, long))) (get_or-drop at line 1 0 ∙ dash (at + 1) (omega arith) (omega (arith, long)))) ∙ e)
  ]

  pub split_longest : IsLongest line at k.Split n
  split_longest = record { is_token = h; no_longer = no_longer }

  pub split_lexes : Lexes line 0 (record { kind = k.Split; from = at; to = at + n } ∷ [])
  split_lexes =
      let e : at ≡ 0 + at = omega arith in
      let tokens : List Token = record { kind = k.Split; from = at; to = at + n } ∷ [] in
      front_blank line at 0 tokens (omega (arith, h.within)) (between_all is_blank line 0 at (omega (arith, h.within)) h.may_stand.0)
      (subst (λ v. Lexes line v tokens) e (token split_longest (end_blank line (length line) (at + n) (omega arith) h.may_stand.1)))
