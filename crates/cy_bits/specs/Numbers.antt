-- Numbers of decimal digits.
use Rattle.std.specs.Prelude.{ℕ, ◌+◌, ◌*◌, ◌-◌, ◌||◌, nat_lt, if◌then◌else◌, List, [], ◌∷◌, Option}
use Rattle.std.specs.Prelude.{Some, None}

-- the number whose decimal digits are those of n and then these
abbrev pub decimal_from : ℕ → List ℕ → Option ℕ
decimal_from n [] = Some n
decimal_from n (b ∷ s) = if nat_lt b 48 || nat_lt 57 b then None else decimal_from (n * 10 + (b - 48)) s
