-- What a fraction is worth.
use Rattle.std.specs.Prelude.{◌≡◌, ℕ, ◌*◌, ◌<◌, ℤ, pos, ◌*ℤ◌}
use Rattle.cy_ratio.specs.Fraction.{Fraction}

-- x is worth n / d: the products across are equal
abbrev pub IsWorth : Fraction → ℤ → ℤ → Type 0
IsWorth x n d = x.num *ℤ d ≡ n *ℤ pos x.den

-- r is a part of y, none of it or more but not the whole: it has the sign of y and is nearer to 0
pub record IsPart (r y : Fraction) : Type 0 where
  pub part : ℕ
  pub whole : ℕ
  pub below : part < whole
  pub share : IsWorth r (y.num *ℤ pos part) (pos (y.den * whole))
