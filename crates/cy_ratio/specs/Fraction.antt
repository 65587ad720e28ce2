-- Fractions in lowest terms, and the answer of each operation by the numbers that its rule names.
use Rattle.std.specs.Prelude.{◌≡◌, ℕ, zero, suc, ◌*◌, ◌/◌, ◌%◌, ◌^◌, ◌<◌, ℤ, pos, negsuc, neg_ℤ}
use Rattle.std.specs.Prelude.{◌+ℤ◌, ◌-ℤ◌, ◌*ℤ◌, unsigned_abs, int_div, nat_lt, Bool, true, false}
use Rattle.std.specs.Prelude.{if◌then◌else◌, List, [], ◌∷◌, Result, Ok, Err}
use Rattle.std.specs.Int.{int_div_euclid}
use Rattle.std.specs.Ordering.{int_cmp}
use Rattle.std.specs.declared.cmp.Ordering.{Ordering}
use Rattle.cy_ratio.specs.declared.RatioError.{RatioError}
use Rattle.cy_ratio.specs.declared.RatioError.TheVariants.{Range, Zero}

-- num / den
pub record Fraction : Type 0 where
  pub num : ℤ
  pub den : ℕ

-- Euclid's algorithm, by at most n divisions
unfoldable pub divisor_by : ℕ → ℕ → ℕ → ℕ
divisor_by zero a b = a
divisor_by (suc n) a zero = a
divisor_by (suc n) a (suc b) = divisor_by n (suc b) (a % suc b)

-- the greatest common divisor; with 0 it is the other number
unfoldable pub gcd : ℕ → ℕ → ℕ
gcd a b = divisor_by b a b

-- what each fraction of this crate keeps
abbrev pub IsReduced : Fraction → Type 0
IsReduced f = (0 < f.den) × (f.den < 2 ^ 127) × (gcd (unsigned_abs f.num) f.den ≡ 1)

-- n / d in lowest terms, for d above 0
abbrev pub lowest : ℤ → ℕ → Fraction
lowest n d = let g = gcd (unsigned_abs n) d in record { num = int_div n (pos g); den = d / g }

-- a number's size with a sign
abbrev pub signed : Bool → ℕ → ℤ
signed false n = pos n
signed true n = neg_ℤ (pos n)

-- whether a number lies within i128
abbrev pub fits : ℤ → Bool
fits (pos n) = nat_lt n (2 ^ 127)
fits (negsuc n) = nat_lt n (2 ^ 127)

-- a number that a rule names, or Range where it leaves i128
abbrev pub named : ℤ → Result ℤ RatioError
named z = if fits z then Ok z else Err Range

-- the answer, or Range where a number that its rule names leaves i128
abbrev pub where_fit : List ℤ → Result Fraction RatioError → Result Fraction RatioError
where_fit [] answer = answer
where_fit (z ∷ named) answer = if fits z then where_fit named answer else Err Range

-- the fraction, whose two parts are named
abbrev pub within : Fraction → Result Fraction RatioError
within f = where_fit (f.num ∷ pos f.den ∷ []) (Ok f)

-- what follows a fraction; a refusal stays
abbrev pub and_then : Result Fraction RatioError → (Fraction → Result Fraction RatioError)
    → Result Fraction RatioError
and_then (Ok f) next = next f
and_then (Err why) next = Err why

-- the fraction with the other sign
abbrev pub negated : Fraction → Fraction
negated f = record { num = neg_ℤ f.num; den = f.den }

-- n / d
abbrev pub fraction_of : ℤ → ℤ → Result Fraction RatioError
fraction_of n (pos zero) = Err Zero
fraction_of n (pos (suc d)) = within (lowest n (suc d))
fraction_of n (negsuc d) = within (negated (lowest n (suc d)))

-- a/b + c/d, with g the greatest common divisor of b and d
abbrev pub sum_of : Fraction → Fraction → Result Fraction RatioError
sum_of x y = let g = gcd x.den y.den in
    let left = x.num *ℤ pos (y.den / g) in
    let right = y.num *ℤ pos (x.den / g) in
    let below = x.den * (y.den / g) in
    where_fit (left ∷ right ∷ (left +ℤ right) ∷ pos below ∷ []) (fraction_of (left +ℤ right) (pos below))

-- a/b - c/d
abbrev pub difference_of : Fraction → Fraction → Result Fraction RatioError
difference_of x y = let g = gcd x.den y.den in
    let left = x.num *ℤ pos (y.den / g) in
    let right = y.num *ℤ pos (x.den / g) in
    let below = x.den * (y.den / g) in
    where_fit (left ∷ right ∷ (left -ℤ right) ∷ pos below ∷ []) (fraction_of (left -ℤ right) (pos below))

-- a/b * c/d, with g the greatest common divisor of a and d, and h that of c and b
abbrev pub product_of : Fraction → Fraction → Result Fraction RatioError
product_of x y = let g = gcd (unsigned_abs x.num) y.den in
    let h = gcd (unsigned_abs y.num) x.den in
    let above = int_div x.num (pos g) *ℤ int_div y.num (pos h) in
    let below = x.den / h * (y.den / g) in
    within (record { num = above; den = below })

-- d/c, the reciprocal of c/d
abbrev pub turned : ℤ → ℕ → Result Fraction RatioError
turned (pos zero) d = Err Zero
turned (pos (suc c)) d = within (record { num = pos d; den = suc c })
turned (negsuc c) d = within (record { num = neg_ℤ (pos d); den = suc c })

abbrev pub reciprocal_of : Fraction → Result Fraction RatioError
reciprocal_of x = turned x.num x.den

-- x / y
abbrev pub quotient_of : Fraction → Fraction → Result Fraction RatioError
quotient_of x y = and_then (reciprocal_of y) (λ r. product_of x r)

-- the greatest whole number not above x, as a fraction
abbrev pub floor_of : Fraction → Fraction
floor_of x = record { num = int_div_euclid x.num (pos x.den); den = 1 }

-- x - y * f, with f the greatest whole number not above x / y
abbrev pub remainder_of : Fraction → Fraction → Result Fraction RatioError
remainder_of x y = and_then (quotient_of x y) (λ q. and_then (product_of y (floor_of q)) (λ p. difference_of x p))

-- z to the power n
abbrev pub power : ℤ → ℕ → ℤ
power z zero = pos 1
power z (suc n) = power z n *ℤ z

-- the numerators and denominators of the powers of x from 1 to n
abbrev pub powers : Fraction → ℕ → List ℤ
powers x zero = []
powers x (suc n) = power x.num (suc n) ∷ pos (x.den ^ suc n) ∷ powers x n

-- x to the power n, where all powers up to it stay within i128
abbrev pub raised : Fraction → ℕ → Result Fraction RatioError
raised x n = where_fit (powers x n) (Ok (record { num = power x.num n; den = x.den ^ n }))

-- x to the power e, from -127 to 127; below 0 it is the reciprocal of a power
abbrev pub power_of : Fraction → ℤ → Result Fraction RatioError
power_of x (pos n) = if nat_lt n 128 then raised x n else Err Range
power_of x (negsuc n) = if nat_lt n 127 then and_then (raised x (suc n)) reciprocal_of else Err Range

-- a denominator, which is 1 or more
abbrev pub divisor : ℕ → ℕ
divisor zero = 1
divisor (suc d) = suc d

-- the order of fractions: that of the products across
abbrev pub order_of : Fraction → Fraction → Ordering
order_of x y = int_cmp (x.num *ℤ pos (divisor y.den)) (y.num *ℤ pos (divisor x.den))
