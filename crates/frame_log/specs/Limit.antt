-- How far the moments of a log may reach.
use Rattle.std.specs.Prelude.{◌+◌, ◌-◌, ◌^◌, ℕ, Option, Some, None, min}

-- the first moment that is too far from the first record's, up to the end of a u64; 0 where there
-- is no record
abbrev pub limit_of : Option ℕ → ℕ
limit_of None = 0
limit_of (Some first) = min (first + 100_000_000_001) (2 ^ 64 - 1)
