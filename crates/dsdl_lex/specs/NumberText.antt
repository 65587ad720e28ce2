-- The texts that are numbers.
use Rattle.std.specs.Prelude.{ℕ, Bool, true, false, ◌&&◌, ◌||◌, if◌then◌else◌, ◌==◌, nat_le, List}
use Rattle.std.specs.Prelude.{[], ◌∷◌}
use Rattle.dsdl_lex.specs.Bytes.{is_digit, is_plus_minus, is_exponent_letter}

abbrev pub is_binary : ℕ → Bool
is_binary b = nat_le 48 b && nat_le b 49

abbrev pub is_octal : ℕ → Bool
is_octal b = nat_le 48 b && nat_le b 55

abbrev pub is_hexadecimal : ℕ → Bool
is_hexadecimal b = is_digit b || (nat_le 97 b && nat_le b 102) || (nat_le 65 b && nat_le b 70)

abbrev pub is_nothing : List ℕ → Bool
is_nothing [] = true
is_nothing (b ∷ bs) = false

-- more digits or none, a single `_` before each that has one, and what `behind` takes; `begun`
-- behind a digit
abbrev pub digits_from : Bool → (ℕ → Bool) → (List ℕ → Bool) → List ℕ → Bool
digits_from true digit behind [] = behind []
digits_from true digit behind (b ∷ bs) = if digit b then digits_from true digit behind bs else if b == 95 then digits_from false digit behind bs else behind (b ∷ bs)
digits_from false digit behind [] = false
digits_from false digit behind (b ∷ bs) = if digit b then digits_from true digit behind bs else false

-- one digit or more, a single `_` between two of them or none, and then what `behind` takes
abbrev pub digits_then : (ℕ → Bool) → (List ℕ → Bool) → List ℕ → Bool
digits_then digit behind text = digits_from false digit behind text

-- digits with a sign in front of them or none
abbrev pub is_signed : List ℕ → Bool
is_signed [] = false
is_signed (b ∷ bs) = if is_plus_minus b then digits_then is_digit is_nothing bs else digits_then is_digit is_nothing (b ∷ bs)

-- nothing, or an exponent: `e` or `E`, and digits with a sign or none
abbrev pub is_exponent : List ℕ → Bool
is_exponent [] = true
is_exponent (b ∷ bs) = is_exponent_letter b && is_signed bs

-- what stands behind a point that has digits in front of it: digits with an exponent or none, or
-- nothing
abbrev pub is_fraction : List ℕ → Bool
is_fraction [] = true
is_fraction (b ∷ bs) = digits_then is_digit is_exponent (b ∷ bs)

-- what stands behind whole digits: an exponent or none, or a point with what is behind it
abbrev pub is_whole_end : List ℕ → Bool
is_whole_end [] = true
is_whole_end (b ∷ bs) = if b == 46 then is_fraction bs else is_exponent (b ∷ bs)

-- digits behind the prefix of a base, maybe with one `_` in front of them
abbrev pub is_based : (ℕ → Bool) → List ℕ → Bool
is_based digit [] = false
is_based digit (b ∷ bs) = if b == 95 then digits_then digit is_nothing bs else digits_then digit is_nothing (b ∷ bs)

-- what stands behind a first 0: the letter of a base and its digits, or what is behind a decimal
-- digit
abbrev pub is_zero_end : List ℕ → Bool
is_zero_end [] = true
is_zero_end (b ∷ bs) =
    if b == 98 || b == 66 then is_based is_binary bs else
    if b == 111 || b == 79 then is_based is_octal bs else
    if b == 120 || b == 88 then is_based is_hexadecimal bs else
    digits_from true is_digit is_whole_end (b ∷ bs)

-- `0b`, `0o` or `0x` and digits of the base; or `1`, `1.`, `1.5` or `.5`, all but `1.` with an
-- exponent or none
abbrev pub is_number : List ℕ → Bool
is_number [] = false
is_number (b ∷ bs) =
    if b == 48 then is_zero_end bs else
    if b == 46 then digits_then is_digit is_exponent bs else
    digits_then is_digit is_whole_end (b ∷ bs)
