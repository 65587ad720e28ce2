-- Lemmas on numbers.
use Rattle.std.proofs.Common.{◌≡◌, ◌∙◌, ◌<◌, ◌≤◌, ◌+◌, ◌*◌, ◌-◌, ℕ, Bool, true, false, List, [], ◌∷◌, Some, None, refl, sym, ap, arith, length, drop, get_or, min, ⊎_elim}
use Rattle.std.proofs.lemmas.Bool.{cases_lt}
use Rattle.std.specs.Prelude.{if◌then◌else◌, ◌||◌, nat_lt}
use Rattle.std.proofs.lemmas.Bool.Decides.{nat_tests}
use Rattle.std.proofs.lemmas.List.{drop_more}
use Rattle.dsdl_names.specs.Words.{decimal_from, at_most}

-- a number above the greatest one
at_most-above : (most n : ℕ) → most < n → at_most most (Some n) ≡ None
at_most-above most n h = grind (arith, nat_tests)

min-step : (n d most : ℕ) → min (n * 10 + d) most ≡ min (min n most * 10 + d) most
min-step n d most = omega arith

min-low : (n most : ℕ) → n ≤ most → n ≡ min n most
min-low n most h = omega arith

-- a number above the greatest one may be any number above it
pub at_most-min : (most large : ℕ) → most < large → (s : List ℕ) (n : ℕ)
    → at_most most (decimal_from n s) ≡ at_most most (decimal_from (min n large) s)
at_most-min most large h [] n = ⊎_elim
    (λ (lt : large < n). at_most-above most n (omega arith) ∙ sym (at_most-above most (min n large) (omega arith)))
    (λ (le : n ≤ large). ap (λ k. at_most most (Some k)) (min-low n large le))
    (cases_lt large n)
at_most-min most large h (b ∷ s) n =
    of_test (nat_lt b 48 || nat_lt 57 b) (n * 10 + (b - 48)) (min n large * 10 + (b - 48))
    (at_most-min most large h s (n * 10 + (b - 48))
    ∙ ap (λ k. at_most most (decimal_from k s)) (min-step n (b - 48) large)
    ∙ sym (at_most-min most large h s (min n large * 10 + (b - 48))))
  where
    of_test : (t : Bool) (x y : ℕ) → at_most most (decimal_from x s) ≡ at_most most (decimal_from y s)
        → at_most most (if t then None else decimal_from x s) ≡ at_most most (if t then None else decimal_from y s)
    of_test true x y e = refl
    of_test false x y e = e

digit-yes : (b n : ℕ) (s : List ℕ) → 48 ≤ b → b ≤ 57 → decimal_from n (b ∷ s) ≡ decimal_from (n * 10 + (b - 48)) s
digit-yes b n s low high = grind (arith, nat_tests)

-- the next digit
pub decimal_from-more : (s : List ℕ) (i n : ℕ) → i < length s → 48 ≤ get_or s i 0 → get_or s i 0 ≤ 57
    → decimal_from n (drop i s) ≡ decimal_from (n * 10 + (get_or s i 0 - 48)) (drop (i + 1) s)
decimal_from-more s i n h low high =
    ap (decimal_from n) (drop_more s i 0 h) ∙ digit-yes (get_or s i 0) n (drop (i + 1) s) low high
