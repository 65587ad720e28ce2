-- The order of paths: by their bytes, a front before what it begins.
use Rattle.std.specs.Prelude.{ℕ, List, map}
use Rattle.std.specs.declared.cmp.Ordering.{Ordering}
use Rattle.std.specs.Ordering.{nat_cmp}
use Rattle.std.specs.Cmp.Lexicographic.{slice_cmp}
use Rattle.std.specs.List.Sorted.{IsStrictlySortedBy}
use Rattle.std.specs.FinMap as finite

abbrev pub by_bytes : List ℕ → List ℕ → Ordering
by_bytes = slice_cmp nat_cmp

-- each path is below those behind it
abbrev pub IsAscending : List (List ℕ) → Type 0
IsAscending = IsStrictlySortedBy by_bytes

-- a path with nothing beside it
abbrev pub alone : List ℕ → List ℕ × Unit {0}
alone path = (path, tt)

-- these paths in their order, each once
abbrev pub ascending : List (List ℕ) → List (List ℕ)
ascending paths = finite.keys (finite.from_entries {R = by_bytes} (map alone paths))
