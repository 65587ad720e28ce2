-- Whole numbers by sign and magnitude.
use Rattle.std.specs.Prelude.{ℕ, Bool, true, false, ℤ, pos, negsuc}

abbrev pub is_negative : ℤ → Bool
is_negative (pos n) = false
is_negative (negsuc n) = true

-- n for n and for -(n + 1)
abbrev pub magnitude : ℤ → ℕ
magnitude (pos n) = n
magnitude (negsuc n) = n
