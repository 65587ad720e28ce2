-- The value of a number as it is written.
use Rattle.std.specs.Prelude.{ℕ, suc, ◌*◌, ◌^◌, ◌==◌, ℤ, pos, negsuc, neg_ℤ, ◌-ℤ◌, Bool, not, ◌||◌}
use Rattle.std.specs.Prelude.{nat_lt, List, [], ◌∷◌, ◌++◌, length, filter, drop, Result, Ok, Err}
use Rattle.std.specs.Prelude.{if◌then◌else◌}
use Rattle.std.specs.List.{before_first, after_first}
use Rattle.std.specs.Str.Parse.{digits_value}
use Rattle.cy_ratio.specs.Fraction.{fraction_of}
use Rattle.const_expr.specs.declared.constant.Const.{Const}
use Rattle.const_expr.specs.declared.constant.Const.TheVariants as c
use Rattle.const_expr.specs.declared.why.Why.{Why}
use Rattle.const_expr.specs.declared.why.Why.TheVariants as why
use Rattle.const_expr.specs.Constants.{whole, number_of}

-- all but `_`
abbrev pub digits : List ℕ → List ℕ
digits text = filter (λ b. not (b == 95)) text

-- a whole number within i128
abbrev pub natural_within : ℕ → Result Const Why
natural_within n = if nat_lt n (2 ^ 127) then Ok (c.Number (whole (pos n))) else Err why.Range

-- m times 10 to the x, for x from -38 to 38
abbrev pub scaled : ℕ → ℤ → Result Const Why
scaled m (pos x) = if nat_lt 38 x then Err why.Range else natural_within (m * 10 ^ x)
scaled m (negsuc x) = if nat_lt 37 x then Err why.Range else number_of (fraction_of (pos m) (pos (10 ^ suc x)))

abbrev pub scaled_within : ℕ → ℤ → Result Const Why
scaled_within m x = if nat_lt m (2 ^ 127) then scaled m x else Err why.Range

-- an exponent behind its `e`, with or without a sign
abbrev pub exponent_of : List ℕ → ℤ
exponent_of [] = pos 0
exponent_of (b ∷ text) =
    if b == 45 then neg_ℤ (pos (digits_value 10 (digits text)))
    else if b == 43 then pos (digits_value 10 (digits text))
    else pos (digits_value 10 (digits (b ∷ text)))

abbrev pub is_point : ℕ → Bool
is_point b = b == 46

-- `e` or `E`
abbrev pub is_exponent_sign : ℕ → Bool
is_exponent_sign b = (b == 101) || (b == 69)

-- digits before and behind a point, and an exponent: the digits without the point times 10 to the
-- exponent less the number of those behind the point
abbrev pub decimal : List ℕ → List ℕ → ℤ → Result Const Why
decimal front back exponent = scaled_within (digits_value 10 (front ++ back)) (exponent -ℤ pos (length back))

abbrev pub decimal_of : List ℕ → Result Const Why
decimal_of text = let mantissa = before_first is_exponent_sign text in
    decimal (digits (before_first is_point mantissa)) (digits (after_first is_point mantissa)) (exponent_of (after_first is_exponent_sign text))

-- the base that the letter behind the first `0` stands for; 10 where it stands for none
abbrev pub base_of : List ℕ → ℕ
base_of (zero_digit ∷ letter ∷ text) =
    if zero_digit == 48 then
    (if (letter == 98) || (letter == 66) then 2
    else if (letter == 111) || (letter == 79) then 8
    else if (letter == 120) || (letter == 88) then 16
    else 10)
    else 10
base_of _ = 10

abbrev pub in_base : ℕ → List ℕ → Result Const Why
in_base base text = if base == 10 then decimal_of text else natural_within (digits_value base (digits (drop 2 text)))

-- The value of a number: digits of the base 2, 8 or 16 behind `0b`, `0o` or `0x`, else decimal
-- digits with a point and an exponent. Range where a number on the way leaves i128, or the exponent
-- with the point in it leaves -38 to 38.
unfoldable pub literal : List ℕ → Result Const Why
literal text = in_base (base_of text) text
