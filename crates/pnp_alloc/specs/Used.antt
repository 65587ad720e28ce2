-- Which numbers an allocator marks as used.
use Rattle.std.specs.Prelude.{◌≡◌, ℕ, ◌<◌, ◌≤◌, Bool, true, not, List, slice_index_or}

-- whether the number n isn't used
abbrev pub is_open : List Bool → ℕ → Bool
is_open used n = not (slice_index_or used n true)

-- all numbers above this one, to 125, are used
abbrev pub IsUsedAbove : ℕ → List Bool → Type 0
IsUsedAbove top used = (n : ℕ) → top < n → n ≤ 125 → slice_index_or used n true ≡ true
