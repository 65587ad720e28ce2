-- Lemmas on numbers.
use Rattle.std.proofs.Common.{◌≡◌, ◌∙◌, ◌<◌, ◌≤◌, ◌+◌, ◌*◌, ◌-◌, ℕ, Bool, true, false, List, [], ◌∷◌, Some, None, refl, sym, ap, arith, length, drop, get_or, min, ⊎_elim, ◌⊎◌}
use Rattle.std.proofs.lemmas.Bool.{cases_lt}
use Rattle.std.specs.Prelude.{if◌then◌else◌, ◌||◌, nat_lt}
use Rattle.std.proofs.lemmas.Bool.Decides.{nat_tests}
use Rattle.std.proofs.lemmas.List.{drop_more}
use Rattle.node_plan.specs.declared.words.Number.TheVariants as number
use Rattle.node_plan.specs.Words.{decimal_from, ranged}

-- a number above the range
ranged-above : (low high n : ℕ) → high < n → ranged low high (Some n) ≡ number.Outside
ranged-above low high n h = grind (arith, nat_tests)

min-step : (n d most : ℕ) → min (n * 10 + d) most ≡ min (min n most * 10 + d) most
min-step n d most = omega arith

min-low : (n most : ℕ) → n ≤ most → n ≡ min n most
min-low n most h = omega arith

-- a number above the range may be any number above it
pub ranged-min : (low high most : ℕ) → high < most → (s : List ℕ) (n : ℕ)
    → ranged low high (decimal_from n s) ≡ ranged low high (decimal_from (min n most) s)
ranged-min low high most h [] n = ⊎_elim
    (λ (lt : most < n). ranged-above low high n (omega arith) ∙ sym (ranged-above low high (min n most) (omega arith)))
    (λ (le : n ≤ most). ap (λ k. ranged low high (Some k)) (min-low n most le))
    (cases_lt most n)
ranged-min low high most h (b ∷ s) n =
    of_test (nat_lt b 48 || nat_lt 57 b) (n * 10 + (b - 48)) (min n most * 10 + (b - 48))
    (ranged-min low high most h s (n * 10 + (b - 48))
    ∙ ap (λ k. ranged low high (decimal_from k s)) (min-step n (b - 48) most)
    ∙ sym (ranged-min low high most h s (min n most * 10 + (b - 48))))
  where
    of_test : (t : Bool) (x y : ℕ) → ranged low high (decimal_from x s) ≡ ranged low high (decimal_from y s)
        → ranged low high (if t then None else decimal_from x s) ≡ ranged low high (if t then None else decimal_from y s)
    of_test true x y e = refl
    of_test false x y e = e

pub digit-yes : (b n : ℕ) (s : List ℕ) → 48 ≤ b → b ≤ 57 → decimal_from n (b ∷ s) ≡ decimal_from (n * 10 + (b - 48)) s
digit-yes b n s low high = grind (arith, nat_tests)

digit-no : (b n : ℕ) (s : List ℕ) → (b < 48) ⊎ (57 < b) → decimal_from n (b ∷ s) ≡ None
digit-no b n s h = grind (arith, nat_tests)

-- the next digit
pub decimal_from-more : (s : List ℕ) (i n : ℕ) → i < length s → 48 ≤ get_or s i 0 → get_or s i 0 ≤ 57
    → decimal_from n (drop i s) ≡ decimal_from (n * 10 + (get_or s i 0 - 48)) (drop (i + 1) s)
decimal_from-more s i n h low high =
    ap (decimal_from n) (drop_more s i 0 h) ∙ digit-yes (get_or s i 0) n (drop (i + 1) s) low high
