-- The order in which files are valued, and the first file that reaches itself. Files are numbered
-- in path order, from 0.
use Rattle.std.specs.Prelude.{◌≡◌, ◌==◌, ◌&&◌, ◌<◌, ℕ, Bool, true, false, not, List, [], ◌∷◌, ◌++◌}
use Rattle.std.specs.Prelude.{length, slice_index_or}
use Rattle.std.specs.List.{list_any, list_all}

-- a number is one of these
abbrev pub is_among : List ℕ → ℕ → Bool
is_among files i = list_any (λ k. i == k) files

-- the files that a file refers to
abbrev pub links_at : List (List ℕ) → ℕ → List ℕ
links_at links i = slice_index_or links i []

-- each link leads to a file
abbrev pub AreWithin : List (List ℕ) → Type 0
AreWithin links = (i j : ℕ) → is_among (links_at links i) j ≡ true → j < length links

-- A file that isn't valued, and that refers only to files that are.
abbrev pub is_ready : List (List ℕ) → List ℕ → ℕ → Bool
is_ready links valued i = not (is_among valued i) && list_all (is_among valued) (links_at links i)

-- the next file: the first in path order that is ready
pub record IsNext (links : List (List ℕ)) (valued : List ℕ) (i : ℕ) : Type 0 where
  pub within : i < length links
  pub ready : is_ready links valued i ≡ true
  pub earlier : (k : ℕ) → k < i → is_ready links valued k ≡ false

-- the files that are valued, in the order in which they were
pub data Valued (links : List (List ℕ)) : List ℕ → Type 0 where
  begin : Valued links []
  next : {valued : List ℕ} {i : ℕ} → Valued links valued → IsNext links valued i
      → Valued links (valued ++ i ∷ [])

-- the order of all files
pub record IsOrder (links : List (List ℕ)) (order : List ℕ) : Type 0 where
  pub valued : Valued links order
  pub all : length order ≡ length links

-- one file reaches another through references
pub data Reaches (links : List (List ℕ)) : ℕ → ℕ → Type 0 where
  refers : {i j : ℕ} → is_among (links_at links i) j ≡ true → Reaches links i j
  through : {i k j : ℕ} → is_among (links_at links i) k ≡ true → Reaches links k j
      → Reaches links i j

-- Cycle: the first file in path order that reaches itself.
pub record IsCycle (links : List (List ℕ)) (i : ℕ) : Type 0 where
  pub within : i < length links
  pub cycle : Reaches links i i
  pub earlier : (k : ℕ) → k < i → Reaches links k k → ⊥
