-- Marked files, by their numbers.
use Rattle.std.specs.Prelude.{◌≡◌, ◌⊎◌, ◌+◌, ◌<◌, ◌≤◌, ◌&&◌, ℕ, suc, Bool, true, false, not, List}
use Rattle.std.specs.Prelude.{[], ◌∷◌, take, length, slice_index, slice_index_or}
use Rattle.std.specs.List.{list_all}
use Rattle.dsdl_links.specs.Order.{is_among, links_at}

-- a file is marked
abbrev pub is_marked : List Bool → ℕ → Bool
is_marked marks k = slice_index_or marks k false

abbrev pub are_marked : List Bool → List ℕ → Bool
are_marked marks files = list_all (is_marked marks) files

-- a file that isn't marked, and that refers only to files that are
abbrev pub is_open : List (List ℕ) → List Bool → ℕ → Bool
is_open links marks i = not (is_marked marks i) && are_marked marks (links_at links i)

-- the first so many links of each file are marked
abbrev pub KnowsFronts : List (List ℕ) → List Bool → List ℕ → Type 0
KnowsFronts links marks known = (i : ℕ) → (slice_index known i ≤ length (links_at links i)) × (are_marked marks (take (slice_index known i) (links_at links i)) ≡ true)

-- the first file that is open
pub record IsFirstOpen (links : List (List ℕ)) (marks : List Bool) (i : ℕ) : Type 0 where
  pub within : i < length links
  pub is : is_open links marks i ≡ true
  pub earlier : (k : ℕ) → k < i → is_open links marks k ≡ false

-- how many aren't marked
abbrev pub unmarked : List Bool → ℕ
unmarked [] = 0
unmarked (true ∷ marks) = unmarked marks
unmarked (false ∷ marks) = suc (unmarked marks)

-- these files were marked, and those of them that weren't yet wait now
pub record Marks (files : List ℕ) (old new : List Bool) (waited waits : List ℕ) : Type 0 where
  pub all : are_marked new files ≡ true
  pub kept : (k : ℕ) → is_marked old k ≡ true → is_marked new k ≡ true
  pub no_more : (k : ℕ) → is_marked new k ≡ true
      → (is_marked old k ≡ true) ⊎ ((is_among files k ≡ true) × (is_among waits k ≡ true))
  pub still : (k : ℕ) → is_among waited k ≡ true → is_among waits k ≡ true
  pub waiting : (k : ℕ) → is_among waits k ≡ true
      → (is_among waited k ≡ true) ⊎ (is_among files k ≡ true)
  pub count : unmarked new + length waits ≡ unmarked old + length waited
