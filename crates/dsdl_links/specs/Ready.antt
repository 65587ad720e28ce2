-- Files that can be valued, as a set of their numbers.
use Rattle.std.specs.Prelude.{◌≡◌, ◌&&◌, ◌||◌, ◌<◌, ℕ, Bool, true, List}
use Rattle.std.specs.BTreeSet.{BTreeSet, contains}
use Rattle.std.specs.Ordering.{nat_cmp}
use Rattle.dsdl_links.specs.Order.{is_among}
use Rattle.dsdl_links.specs.Marks.{is_open}

-- a file is in a set
abbrev pub has : BTreeSet ℕ → ℕ → Bool
has files k = contains nat_cmp files k

-- the set has those of so many files that are open, and no other number
pub record AreOpen (count : ℕ) (links : List (List ℕ)) (marks : List Bool) (ready : BTreeSet ℕ)
    : Type 0 where
  pub within : (k : ℕ) → has ready k ≡ true → k < count
  pub each : (k : ℕ) → k < count → has ready k ≡ is_open links marks k

-- those of these files that are open came into the set, and no other number
abbrev pub AddsOpen : List (List ℕ) → List Bool → List ℕ → BTreeSet ℕ → BTreeSet ℕ → Type 0
AddsOpen links marks files old new = (k : ℕ) →
    has new k ≡ (has old k || (is_among files k && is_open links marks k))
