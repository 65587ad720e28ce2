-- Numbers of three digits or more.
use Rattle.std.proofs.Common.{◌≡◌, ℕ, ◌+◌, ◌-◌, ◌*◌, ◌<◌, ◌≤◌, ◌||◌, ◌==◌, Bool, true, false, List, [], ◌∷◌, length, nat_lt, Option, Some, None, refl, arith}
use Rattle.std.specs.Prelude.{cond}
use Rattle.std.proofs.lemmas.Bool.Decides.{nat_tests}
use Rattle.dsdl_names.specs.Words.{decimal_from, number_to, at_most}

by_digit : (t : Bool) (n m k : ℕ) (s : List ℕ) → n ≤ k → (decimal_from k s ≡ Some m → k ≤ m) → cond t None (decimal_from k s) ≡ Some m → n ≤ m
by_digit true n m k s le f e = absurd (cc)
by_digit false n m k s le f e = omega (arith, f e)

-- more digits make no smaller number
grows : (s : List ℕ) (n m : ℕ) → decimal_from n s ≡ Some m → n ≤ m
grows [] n m e = let same : n ≡ m = cc in omega arith
grows (b ∷ s) n m e = by_digit (nat_lt b 48 || nat_lt 57 b) n m (n * 10 + (b - 48)) s (omega arith) (grows s (n * 10 + (b - 48)) m) e

too_great : (r : Option ℕ) (n : ℕ) → 64 < n → ((m : ℕ) → r ≡ Some m → n ≤ m) → at_most 64 r ≡ None
too_great None n lt h = refl
too_great (Some m) n lt h = let le : n ≤ m = h m refl in grind (arith, nat_tests)

above : (s : List ℕ) (n : ℕ) → 64 < n → at_most 64 (decimal_from n s) ≡ None
above s n lt = too_great (decimal_from n s) n lt (λ m e. grows s n m e)

skip : (t : Bool) (r : Option ℕ) → at_most 64 r ≡ None → at_most 64 (cond t None r) ≡ None
skip true r h = refl
skip false r h = h

from_one : (c d : ℕ) (s : List ℕ) (n : ℕ) → 1 ≤ n → at_most 64 (decimal_from n (c ∷ d ∷ s)) ≡ None
from_one c d s n le =
    skip (nat_lt c 48 || nat_lt 57 c) _ (skip (nat_lt d 48 || nat_lt 57 d) _ (above s ((n * 10 + (c - 48)) * 10 + (d - 48)) (omega arith)))

digit : (k : ℕ) → (k == 48) ≡ false → (nat_lt k 48 || nat_lt 57 k) ≡ false → 1 ≤ 0 * 10 + (k - 48)
digit k g h = grind (arith, nat_tests)

first_digit : (b c d : ℕ) (s : List ℕ) → (b == 48) ≡ false → (t : Bool) → (nat_lt b 48 || nat_lt 57 b) ≡ t → at_most 64 (cond t None (decimal_from (0 * 10 + (b - 48)) (c ∷ d ∷ s))) ≡ None
first_digit b c d s e true f = refl
first_digit b c d s e false f = from_one c d s (0 * 10 + (b - 48)) (digit b e f)

by_zero : (b c d : ℕ) (s : List ℕ) (t : Bool) → (b == 48) ≡ t → at_most 64 (cond t None (decimal_from 0 (b ∷ c ∷ d ∷ s))) ≡ None
by_zero b c d s true e = refl
by_zero b c d s false e = first_digit b c d s e (nat_lt b 48 || nat_lt 57 b) refl

-- no number of three digits or more without leading zeros is at most 64
pub long_none : (s : List ℕ) → 3 ≤ length s → number_to 64 s ≡ None
long_none [] le = absurd (omega arith)
long_none (b ∷ []) le = absurd (omega arith)
long_none (b ∷ c ∷ []) le = absurd (omega arith)
long_none (b ∷ c ∷ d ∷ s) le = by_zero b c d s (b == 48) refl
