-- Ascending lists of numbers.
use Rattle.std.specs.Prelude.{ℕ, ◌<◌, List, AllPairs}

-- each number is below those behind it
abbrev pub Ascend : List ℕ → Type 0
Ascend ns = AllPairs (λ a b. a < b) ns
