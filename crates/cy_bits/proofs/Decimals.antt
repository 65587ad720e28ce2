-- Numbers of digits, up to a greatest one
use Rattle.std.proofs.Common.{◌≡◌, ◌∙◌, ◌<◌, ◌≤◌, ◌+◌, ◌*◌, ◌-◌, ℕ, Bool, true, false, List, [], ◌∷◌, Some, None, refl, ap, arith, length, drop, get_or, min}
use Rattle.std.proofs.lemmas.Bool.Decides.{nat_tests}
use Rattle.std.proofs.lemmas.List.{drop_more}
use Rattle.std.specs.Prelude.{if◌then◌else◌, ◌||◌, nat_lt, option_map, Option}
use Rattle.cy_bits.specs.Numbers.{decimal_from}

abbrev pub up_to : ℕ → Option ℕ → Option ℕ
up_to most n = option_map (λ k. min most k) n

min_step : (n d most : ℕ) → min most (n * 10 + d) ≡ min most (min (n * 10 + d) most)
min_step n d most = omega arith

-- of a number above the greatest one any number above it may be kept
pub up_to_min : (most : ℕ) (s : List ℕ) (n m : ℕ) → min most n ≡ min most m → up_to most (decimal_from n s) ≡ up_to most (decimal_from m s)
up_to_min most [] n m e = ap Some e
up_to_min most (b ∷ s) n m e = of_test (nat_lt b 48 || nat_lt 57 b) (up_to_min most s (n * 10 + (b - 48)) (m * 10 + (b - 48)) (omega arith))
  where
    of_test : (t : Bool) → up_to most (decimal_from (n * 10 + (b - 48)) s) ≡ up_to most (decimal_from (m * 10 + (b - 48)) s)
        → up_to most (if t then None else decimal_from (n * 10 + (b - 48)) s) ≡ up_to most (if t then None else decimal_from (m * 10 + (b - 48)) s)
    of_test true f = refl
    of_test false f = f

digit_yes : (b n : ℕ) (s : List ℕ) → 48 ≤ b → b ≤ 57 → decimal_from n (b ∷ s) ≡ decimal_from (n * 10 + (b - 48)) s
digit_yes b n s low high = grind (arith, nat_tests)

-- the next digit
pub next_digit : (most : ℕ) (s : List ℕ) (i n : ℕ) → i < length s → 48 ≤ get_or s i 0 → get_or s i 0 ≤ 57
    → up_to most (decimal_from n (drop i s)) ≡ up_to most (decimal_from (min (n * 10 + (get_or s i 0 - 48)) most) (drop (i + 1) s))
next_digit most s i n h low high =
    ap (λ l. up_to most (decimal_from n l)) (drop_more s i 0 h)
    ∙ ap (up_to most) (digit_yes (get_or s i 0) n (drop (i + 1) s) low high)
    ∙ up_to_min most (drop (i + 1) s) (n * 10 + (get_or s i 0 - 48)) (min (n * 10 + (get_or s i 0 - 48)) most) (omega arith)
