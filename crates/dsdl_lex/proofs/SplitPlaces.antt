-- Where a split stands in a line.
use Rattle.std.proofs.Common.{◌≡◌, ℕ, ◌+◌, ◌-◌, ◌<◌, ◌≤◌, true, false, ◌==◌, List, length, take, drop, get_or, refl, sym, ◌∙◌, subst, inl, inr, arith, length-drop}
use Rattle.std.specs.List.{list_all}
use Rattle.std.specs.Prelude.{nat_le}
use Rattle.std.proofs.lemmas.Bool.{and_parts, false≢true, cases_lt, eqb-true, leb-true, le-leb}
use Rattle.std.proofs.lemmas.List.{length-take-le}
use Rattle.dsdl_lex.specs.declared.token.TokenKind.TheVariants as k
use Rattle.dsdl_lex.specs.Bytes.{is_blank}
use Rattle.dsdl_lex.specs.Texts.{is_dash}
use Rattle.dsdl_lex.specs.Tokens.{IsToken, is_blank_end}
use Rattle.dsdl_lex.specs.Scans.{BlanksTo, DashesTo}
use Rattle.dsdl_lex.proofs.Blanks.{all_between, between_all, blank_end_other}

dash_test : (b : ℕ) → b ≡ 45 → is_dash b ≡ true
dash_test b e = subst (λ v. is_dash v ≡ true) (sym e) refl

dash_no_blank : (b : ℕ) → b ≡ 45 → is_blank b ≡ false
dash_no_blank b e = subst (λ v. is_blank v ≡ false) (sym e) refl

-- a dash is no end of blanks
dash_no_end : (line : List ℕ) (at : ℕ) → at < length line → get_or line at 0 ≡ 45 → is_blank_end (drop at line) ≡ false
dash_no_end line at lt e = blank_end_other line at lt (dash_no_blank (get_or line at 0) e) ∙ subst (λ v. (v == 35) ≡ false) (sym e) refl

module _ (line : List ℕ) (from to : ℕ) (blanks : BlanksTo line 0 from) (dashes : DashesTo line from to) where
  pub split_here : 3 ≤ to - from → is_blank_end (drop to line) ≡ true → IsToken line from k.Split (to - from)
  split_here le e =
      let whole : from + (to - from) ≡ to = omega (arith, dashes.in_order) in
      let fits : from + (to - from) ≤ length line = omega (arith, whole, dashes.within) in
      let size : length (take (to - from) (drop from line)) ≡ to - from = length-take-le (to - from) (drop from line) (omega (arith, length-drop from line)) in
      let long : nat_le 3 (length (take (to - from) (drop from line))) ≡ true = subst (λ v. nat_le 3 v ≡ true) (sym size) (le-leb 3 (to - from) le) in
      let all : list_all is_dash (take (to - from) (drop from line)) ≡ true = all_between is_dash line from (to - from) fits (λ i lo hi. dash_test (get_or line i 0) (dashes.all_dashes i lo (omega arith))) in
      record {
        within = fits;
        is_kind = rw long all;
        may_stand = (
          all_between is_blank line 0 from (omega (arith, blanks.within)) (λ i lo hi. blanks.all_blank i lo (omega arith)),
          subst (λ v. is_blank_end (drop v line) ≡ true) (sym whole) e,
        );
      }

  module _ (at n : ℕ) (h : IsToken line at k.Split n) where
    parts : (nat_le 3 (length (take n (drop at line))) ≡ true) × (list_all is_dash (take n (drop at line)) ≡ true)
    parts = and_parts _ _ h.is_kind

    size : length (take n (drop at line)) ≡ n
    size = length-take-le n (drop at line) (omega (arith, length-drop at line, h.within))

    long : 3 ≤ n
    long = omega (arith, leb-true 3 (length (take n (drop at line))) parts.0, size)

    dash : (i : ℕ) → at ≤ i → i < at + n → get_or line i 0 ≡ 45
    dash i lo hi = eqb-true (get_or line i 0) 45 (between_all is_dash line at n h.within parts.1 i lo hi)

    blank_before : (i : ℕ) → i < at → is_blank (get_or line i 0) ≡ true
    blank_before i lt = between_all is_blank line 0 at (omega (arith, h.within)) h.may_stand.0 i (omega arith) (omega arith)

    same_from : at ≡ from
    same_from = elim (cases_lt at from) [
      | inl lt ↦ absurd (false≢true (sym (dash_no_blank (get_or line at 0) (dash at (omega arith) (omega (arith, long)))) ∙ blanks.all_blank at (omega arith) lt))
      | inr le ↦ elim (cases_lt from at) [
        | inl lt ↦ absurd (false≢true (sym (blanks.end (omega (arith, h.within))) ∙ blank_before from lt))
        | inr ge ↦ omega arith
      ]
    ]

    same_to : at + n ≡ to
    same_to = elim (cases_lt (at + n) to) [
      | inl lt ↦ absurd (false≢true (sym (dash_no_end line (at + n) (omega (arith, dashes.within)) (dashes.all_dashes (at + n) (omega (arith, same_from)) lt)) ∙ h.may_stand.1))
      | inr le ↦ elim (cases_lt to (at + n)) [
        | inl lt ↦ absurd (dashes.end (omega (arith, h.within)) (dash to (omega (arith, same_from, dashes.in_order)) lt))
        | inr ge ↦ omega arith
      ]
    ]

    pub enough : 3 ≤ to - from
    enough = omega (arith, long, same_from, same_to)

    pub blank_behind : is_blank_end (drop to line) ≡ true
    blank_behind = subst (λ v. is_blank_end (drop v line) ≡ true) same_to h.may_stand.1
