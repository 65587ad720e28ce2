-- Lines that are too long to be a value's.
use Rattle.std.specs.Prelude.{ℕ, ◌^◌, Bool, List, length, nat_lt}

-- the most bytes of a line, without its newline
abbrev pub longest_line : ℕ
longest_line = 2 ^ 20

abbrev pub is_long : List ℕ → Bool
is_long line = nat_lt longest_line (length line)
