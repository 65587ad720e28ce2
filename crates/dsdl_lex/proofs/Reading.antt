-- A line has one list of tokens, or one first place at which none begins, and not both.
use Rattle.std.proofs.Common.{◌≡◌, ℕ, zero, suc, ◌+◌, ◌<◌, ◌≤◌, Bool, true, false, ◌&&◌, ◌==◌, List, ◌∷◌, length, take, drop, get_or, refl, sym, ap, ◌∙◌, subst, inl, inr, arith}
use Rattle.std.specs.List.{list_all}
use Rattle.std.specs.Prelude.{nat_le}
use Rattle.std.proofs.Math.Seq.{drop-cons}
use Rattle.std.proofs.lemmas.Bool.{or_cases, cases_order, false≢true, eqb-true}
use Rattle.std.proofs.lemmas.Option.{none-some}
use Rattle.dsdl_lex.specs.declared.token.TokenKind.{TokenKind}
use Rattle.dsdl_lex.specs.declared.token.Token.{Token}
use Rattle.dsdl_lex.specs.declared.state.State.TheVariants.{Dead}
use Rattle.dsdl_lex.specs.declared.word.WordState.TheVariants as w
use Rattle.dsdl_lex.specs.Bytes.{is_blank}
use Rattle.dsdl_lex.specs.Steps.{run, kind_of, begin}
use Rattle.dsdl_lex.specs.Texts.{is_dash, is_split}
use Rattle.dsdl_lex.specs.Tokens.{IsKind, IsLongest, Lexes, Stuck, ends, comment, blank, token, here, past_blank, past_token}
use Rattle.dsdl_lex.proofs.Runs.{run_dead}
use Rattle.dsdl_lex.proofs.KindLaw.{one_kind, not_empty, kind_told}

-- a byte that begins no token
record Apart (b : ℕ) : Type 0 where
  dead : begin w.First b ≡ Dead
  no_dash : is_dash b ≡ false

blank_apart : (b : ℕ) → is_blank b ≡ true → Apart b
blank_apart b e = elim (or_cases (b == 32) (b == 9) e) [
  | inl h ↦ subst Apart (sym (eqb-true b 32 h)) (record { dead = refl; no_dash = refl })
  | inr h ↦ subst Apart (sym (eqb-true b 9 h)) (record { dead = refl; no_dash = refl })
]

hash_apart : (b : ℕ) → b ≡ 35 → Apart b
hash_apart b e = subst Apart (sym e) (record { dead = refl; no_dash = refl })

hash_no_blank : (b : ℕ) → b ≡ 35 → is_blank b ≡ false
hash_no_blank b e = subst (λ v. is_blank v ≡ false) (sym e) refl

no_split : (b : ℕ) (bs : List ℕ) → is_dash b ≡ false → is_split (b ∷ bs) ≡ true → ⊥
no_split b bs e h = go (nat_le 3 (length (b ∷ bs))) (is_dash b) e h
  where
    go : (t u : Bool) → u ≡ false → (t && (u && list_all is_dash bs)) ≡ true → ⊥
    go true true p q = false≢true (sym p)
    go true false p q = false≢true q
    go false u p q = false≢true q

-- no text that begins with such a byte is a token
none_of : (b : ℕ) (bs : List ℕ) (kind : TokenKind) → Apart b → IsKind kind (b ∷ bs) → ⊥
none_of b bs kind a h = elim (kind_told (b ∷ bs) kind h) [
  | inl p ↦ no_split b bs a.no_dash (subst (λ v. IsKind v (b ∷ bs)) p h)
  | inr p ↦ none-some kind (sym (ap (λ s. kind_of (run s bs)) a.dead ∙ ap kind_of (run_dead bs)) ∙ p)
]

none_in : (b : ℕ) (bs : List ℕ) (n : ℕ) (kind : TokenKind) → Apart b → IsKind kind (take n (b ∷ bs)) → ⊥
none_in b bs zero kind a h = not_empty kind h
none_in b bs (suc n) kind a h = none_of b (take n bs) kind a h

empty_kind : (kind : TokenKind) (n : ℕ) (xs : List ℕ) → n ≡ 0 → IsKind kind (take n xs) → ⊥
empty_kind kind n xs e h = not_empty kind (subst (λ v. IsKind kind (take v xs)) e h)

module _ (line : List ℕ) where
  no_token : (at n : ℕ) (kind : TokenKind) → at < length line → Apart (get_or line at 0) → IsLongest line at kind n → ⊥
  no_token at n kind lt a h = none_in (get_or line at 0) (drop (suc at) line) n kind a (subst (λ l. IsKind kind (take n l)) (drop-cons line at 0 lt) h.is_token.is_kind)

  past_end : (at n : ℕ) (kind : TokenKind) → length line ≤ at → IsLongest line at kind n → ⊥
  past_end at n kind le h = let z : n ≡ 0 = omega (arith, h.is_token.within) in empty_kind kind n (drop at line) z h.is_token.is_kind

  one_length : (at m n : ℕ) (i j : TokenKind) → IsLongest line at i m → IsLongest line at j n → (m ≡ n) × (i ≡ j)
  one_length at m n i j x y = elim (cases_order m n) [
    | inl e ↦ (e, one_kind (take n (drop at line)) i j (subst (λ v. IsKind i (take v (drop at line))) e x.is_token.is_kind) y.is_token.is_kind)
    | inr s ↦ elim s [
      | inl lt ↦ absurd (x.no_longer j n lt y.is_token)
      | inr lt ↦ absurd (y.no_longer i m lt x.is_token)
    ]
  ]

  abbrev made : TokenKind → ℕ → ℕ → Token
  made kind from to = record { kind = kind; from = from; to = to }

  pub one_list : {at : ℕ} {ts us : List Token} → Lexes line at ts → Lexes line at us → ts ≡ us
  one_list (ends le) (ends le') = refl
  one_list (ends le) (comment lt e) = absurd (omega arith)
  one_list (ends le) (blank lt e d) = absurd (omega arith)
  one_list (ends le) (token {at} {n} {ts = us} {kind} h d) = absurd (past_end at n kind le h)
  one_list (comment lt e) (ends le) = absurd (omega arith)
  one_list (comment lt e) (comment lt' e') = refl
  one_list (comment {at} lt e) (blank lt' b d) = absurd (false≢true (sym (hash_no_blank (get_or line at 0) e) ∙ b))
  one_list (comment {at} lt e) (token {at = at'} {n} {ts = us} {kind} h d) = absurd (no_token at n kind lt (hash_apart (get_or line at 0) e) h)
  one_list (blank lt b d) (ends le) = absurd (omega arith)
  one_list (blank {at} lt b d) (comment lt' e) = absurd (false≢true (sym (hash_no_blank (get_or line at 0) e) ∙ b))
  one_list (blank lt b d) (blank lt' b' d') = one_list d d'
  one_list (blank {at} lt b d) (token {at = at'} {n} {ts = us} {kind} h d') = absurd (no_token at n kind lt (blank_apart (get_or line at 0) b) h)
  one_list (token {at} {n} {ts} {kind} h d) (ends le) = absurd (past_end at n kind le h)
  one_list (token {at} {n} {ts} {kind} h d) (comment lt e) = absurd (no_token at n kind lt (hash_apart (get_or line at 0) e) h)
  one_list (token {at} {n} {ts} {kind} h d) (blank lt b d') = absurd (no_token at n kind lt (blank_apart (get_or line at 0) b) h)
  one_list (token {at} {n = m} {ts} {kind = i} h d) (token {at = at'} {n} {ts = us} {kind = j} h' d') =
      let p : (m ≡ n) × (i ≡ j) = one_length at m n i j h h' in
      ap (λ l. made i at (at + m) ∷ l) (one_list d (subst (λ v. Lexes line (at + v) us) (sym p.0) d'))
      ∙ ap (λ v. made i at (at + v) ∷ us) p.0 ∙ ap (λ v. made v at (at + n) ∷ us) p.1

  pub not_both : {at column : ℕ} {ts : List Token} → Stuck line at column → Lexes line at ts → ⊥
  not_both (here lt b c n) (ends le) = omega arith
  not_both (here lt b c n) (comment lt' e) = c e
  not_both (here lt b c n) (blank lt' b' d) = false≢true (sym b ∙ b')
  not_both (here {at} lt b c fails) (token {at = at'} {n} {ts = us} {kind} h d) = fails kind n h.is_token
  not_both (past_blank lt b s) (ends le) = omega arith
  not_both (past_blank {at} lt b s) (comment lt' e) = false≢true (sym (hash_no_blank (get_or line at 0) e) ∙ b)
  not_both (past_blank lt b s) (blank lt' b' d) = not_both s d
  not_both (past_blank {at} lt b s) (token {at = at'} {n} {ts = us} {kind} h d) = no_token at n kind lt (blank_apart (get_or line at 0) b) h
  not_both (past_token {at} {n} {column} {kind} h s) (ends le) = past_end at n kind le h
  not_both (past_token {at} {n} {column} {kind} h s) (comment lt e) = no_token at n kind lt (hash_apart (get_or line at 0) e) h
  not_both (past_token {at} {n} {column} {kind} h s) (blank lt b d) = no_token at n kind lt (blank_apart (get_or line at 0) b) h
  not_both (past_token {at} {n = m} {column} {kind = i} h s) (token {at = at'} {n} {ts = us} {kind = j} h' d) =
      let p : (m ≡ n) × (i ≡ j) = one_length at m n i j h h' in not_both s (subst (λ v. Lexes line (at + v) us) (sym p.0) d)

  pub one_place : {at p q : ℕ} → Stuck line at p → Stuck line at q → p ≡ q
  one_place (here lt b c n) (here lt' b' c' n') = refl
  one_place (here lt b c n) (past_blank lt' b' s) = absurd (false≢true (sym b ∙ b'))
  one_place (here lt b c fails) (past_token {at} {n} {column} {kind} h s) = absurd (fails kind n h.is_token)
  one_place (past_blank lt b s) (here lt' b' c n) = absurd (false≢true (sym b' ∙ b))
  one_place (past_blank lt b s) (past_blank lt' b' s') = one_place s s'
  one_place (past_blank {at} lt b s) (past_token {at = at'} {n} {column} {kind} h s') = absurd (no_token at n kind lt (blank_apart (get_or line at 0) b) h)
  one_place (past_token {at} {n} {column} {kind} h s) (here lt b c fails) = absurd (fails kind n h.is_token)
  one_place (past_token {at} {n} {column} {kind} h s) (past_blank lt b s') = absurd (no_token at n kind lt (blank_apart (get_or line at 0) b) h)
  one_place (past_token {at} {n = m} {column} {kind = i} h s) (past_token {at = at'} {n} {column = q} {kind = j} h' s') =
      let p : (m ≡ n) × (i ≡ j) = one_length at m n i j h h' in one_place s (subst (λ v. Stuck line (at + v) q) (sym p.0) s')
