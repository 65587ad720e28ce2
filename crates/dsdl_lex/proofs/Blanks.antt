-- Runs of blanks and of dashes, by places and as lists.
use Rattle.std.proofs.Common.{◌≡◌, ℕ, zero, suc, ◌+◌, ◌-◌, ◌<◌, ◌≤◌, Bool, true, false, ◌&&◌, ◌||◌, ◌==◌, List, [], ◌∷◌, length, take, drop, get_or, refl, sym, ap, ◌∙◌, subst, arith, length-drop, add-one}
use Rattle.std.specs.List.{list_all}
use Rattle.std.proofs.Math.Seq.{drop-cons}
use Rattle.std.proofs.lemmas.Bool.{and_parts}
use Rattle.std.proofs.lemmas.Bool.Decides.{nat_tests}
use Rattle.std.proofs.lemmas.List.{get_or-drop}
use Rattle.dsdl_lex.specs.Bytes.{is_blank}
use Rattle.dsdl_lex.specs.Tokens.{is_blank_end}
use Rattle.dsdl_lex.specs.Scans.{BlanksTo}

-- what holds at each place holds of the list, and the other way round
pub all_of : (t : ℕ → Bool) (n : ℕ) (xs : List ℕ) → n ≤ length xs → ((i : ℕ) → i < n → t (get_or xs i 0) ≡ true) → list_all t (take n xs) ≡ true
all_of t zero xs le h = refl
all_of t (suc n) [] le h = absurd (omega arith)
all_of t (suc n) (x ∷ xs) le h = rw (h 0 (omega arith)) (all_of t n xs (omega arith) (λ i lt. h (suc i) (omega arith)))

pub of_all : (t : ℕ → Bool) (n : ℕ) (xs : List ℕ) → n ≤ length xs → list_all t (take n xs) ≡ true → (i : ℕ) → i < n → t (get_or xs i 0) ≡ true
of_all t zero xs le e i lt = absurd (omega arith)
of_all t (suc n) [] le e i lt = absurd (omega arith)
of_all t (suc n) (x ∷ xs) le e zero lt = (and_parts (t x) (list_all t (take n xs)) e).0
of_all t (suc n) (x ∷ xs) le e (suc i) lt = of_all t n xs (omega arith) (and_parts (t x) (list_all t (take n xs)) e).1 i (omega arith)

-- the same from a place of a line on
pub all_between : (t : ℕ → Bool) (line : List ℕ) (at n : ℕ) → at + n ≤ length line → ((i : ℕ) → at ≤ i → i < at + n → t (get_or line i 0) ≡ true) → list_all t (take n (drop at line)) ≡ true
all_between t line at n le h = all_of t n (drop at line) (omega (arith, length-drop at line)) (λ i lt. subst (λ v. t v ≡ true) (sym (get_or-drop at line i 0)) (h (at + i) (omega arith) (omega arith)))

pub between_all : (t : ℕ → Bool) (line : List ℕ) (at n : ℕ) → at + n ≤ length line → list_all t (take n (drop at line)) ≡ true → (i : ℕ) → at ≤ i → i < at + n → t (get_or line i 0) ≡ true
between_all t line at n le e i lo hi =
    let same : at + (i - at) ≡ i = omega arith in
    subst (λ v. t (get_or line v 0) ≡ true) same (subst (λ v. t v ≡ true) (get_or-drop at line (i - at) 0) (of_all t n (drop at line) (omega (arith, length-drop at line)) e (i - at) (omega arith)))

-- ---- blanks, and then nothing or a comment
pub blank_end_at : (line : List ℕ) (at : ℕ) → at < length line → is_blank_end (drop at line) ≡ ((get_or line at 0 == 35) || (is_blank (get_or line at 0) && is_blank_end (drop (suc at) line)))
blank_end_at line at lt = ap is_blank_end (drop-cons line at 0 lt)

blank_no_hash : (b : ℕ) → is_blank b ≡ true → (b == 35) ≡ false
blank_no_hash b e = grind (arith, nat_tests)

-- over a blank
pub over_blank : (line : List ℕ) (at : ℕ) → at < length line → is_blank (get_or line at 0) ≡ true → is_blank_end (drop at line) ≡ is_blank_end (drop (at + 1) line)
over_blank line at lt e = blank_end_at line at lt ∙ (rw (blank_no_hash (get_or line at 0) e) (rw e (ap (λ v. is_blank_end (drop v line)) (sym (add-one at)))))

over_blanks : (line : List ℕ) (n from to : ℕ) → from + n ≡ to → to ≤ length line → ((i : ℕ) → from ≤ i → i < to → is_blank (get_or line i 0) ≡ true) → is_blank_end (drop from line) ≡ is_blank_end (drop to line)
over_blanks line zero from to e le h = let same : from ≡ to = omega arith in ap (λ v. is_blank_end (drop v line)) same
over_blanks line (suc n) from to e le h =
    over_blank line from (omega arith) (h from (omega arith) (omega arith)) ∙ over_blanks line n (from + 1) to (omega arith) le (λ i lo hi. h i (omega arith) hi)

drop_all : (n : ℕ) (xs : List ℕ) → length xs ≤ n → drop n xs ≡ []
drop_all zero [] le = refl
drop_all zero (x ∷ xs) le = absurd (omega arith)
drop_all (suc n) [] le = refl
drop_all (suc n) (x ∷ xs) le = drop_all n xs (omega arith)

-- at the line's end
pub blank_end_nothing : (line : List ℕ) (at : ℕ) → length line ≤ at → is_blank_end (drop at line) ≡ true
blank_end_nothing line at le = ap is_blank_end (drop_all at line le)

or_false : (t : Bool) → (t || false) ≡ t
or_false true = refl
or_false false = refl

-- at a byte that is no blank
pub blank_end_other : (line : List ℕ) (at : ℕ) → at < length line → is_blank (get_or line at 0) ≡ false → is_blank_end (drop at line) ≡ (get_or line at 0 == 35)
blank_end_other line at lt e = blank_end_at line at lt ∙ rw e (or_false (get_or line at 0 == 35))

module _ (line : List ℕ) (from to : ℕ) (h : BlanksTo line from to) where
  pub end_nothing : to ≡ length line → is_blank_end (drop from line) ≡ true
  end_nothing e = over_blanks line (to - from) from to (omega (arith, h.in_order)) h.within h.all_blank ∙ blank_end_nothing line to (omega arith)

  pub end_other : (to ≡ length line → ⊥) → is_blank_end (drop from line) ≡ (get_or line to 0 == 35)
  end_other ne =
      let lt : to < length line = omega (arith, h.within, ne) in
      over_blanks line (to - from) from to (omega (arith, h.in_order)) h.within h.all_blank ∙ blank_end_other line to lt (h.end lt)
