-- Remainders of numbers, and tables that are made of them: of how many remainders follow one
-- another by a step, and of marks.
use Rattle.std.specs.Prelude.{◌≡◌, ℕ, ◌+◌, ◌*◌, ◌%◌, ◌<◌, ◌≤◌, ◌==◌, ◌⊎◌, ◌↔◌, Bool, true, false}
use Rattle.std.specs.Prelude.{List, length, slice_index_or}
use Rattle.std.specs.List.{list_any}
use Rattle.bit_length.specs.Lengths.{Numbers, Has, Same, SomeLeaves}
use Rattle.bit_length.specs.Runs.{numbers_below}

-- what the numbers of a list leave modulo k, ascending
abbrev pub residues_of : List ℕ → ℕ → List ℕ
residues_of ns k = numbers_below k (λ r. list_any (λ n. n % k == r) ns)

-- whether a number is marked
abbrev pub is_marked : List Bool → ℕ → Bool
is_marked marks r = slice_index_or marks r false

-- the numbers that are marked, ascending
abbrev pub marked_of : List Bool → List ℕ
marked_of marks = numbers_below (length marks) (is_marked marks)

-- no number is marked
abbrev pub AreNone : List Bool → Type 0
AreNone marks = (r : ℕ) → is_marked marks r ≡ true → ⊥

-- a number is marked too, where some are left
abbrev pub MarksAt : List Bool → List Bool → ℕ → ℕ → Type 0
MarksAt old new at left =
    (r : ℕ) → (is_marked new r ≡ true) ↔ ((is_marked old r ≡ true) ⊎ ((0 < left) × (r ≡ at)))

-- how many remainders follow one another from a number on, which are reached from there
abbrev pub reach_at : List ℕ → ℕ → ℕ
reach_at reaches r = slice_index_or reaches r 0

-- no number reaches further than so far
abbrev pub AreAtMost : List ℕ → ℕ → Type 0
AreAtMost reaches most = (r : ℕ) → reach_at reaches r ≤ most

-- r is reached from some number, step by step
abbrev pub IsReached : List ℕ → ℕ → ℕ → Type 0
IsReached reaches step r =
    (b : ℕ) × (i : ℕ) × (b < length reaches) × (i < reach_at reaches b) × ((b + step * i) % length reaches ≡ r)

-- what the members of a set leave is reached too
abbrev pub Notes : ℕ → List ℕ → List ℕ → Numbers → Type 0
Notes step old new S =
    (r : ℕ) → IsReached new step r ↔ (IsReached old step r ⊎ SomeLeaves S (length old) r)

-- what is reached from the numbers of a round is marked, and nothing that isn't reached
pub record MarksReached (reaches : List ℕ) (step from round : ℕ) (old new : List Bool) : Type 0 where
  pub only : (r : ℕ) → is_marked new r ≡ true → (is_marked old r ≡ true) ⊎ IsReached reaches step r
  pub kept : (r : ℕ) → is_marked old r ≡ true → is_marked new r ≡ true
  pub all : (j i : ℕ) → j < round → i < reach_at reaches ((from + step * j) % length old) → is_marked new ((from + step * (j + i)) % length old) ≡ true

-- nothing is reached from the numbers of a round any more; the others stay
pub record Forgets (step from round : ℕ) (old new : List ℕ) : Type 0 where
  pub each : (r : ℕ) → (reach_at new r ≡ reach_at old r) ⊎ ((reach_at new r ≡ 0) × ((j : ℕ) × (j < round) × (r ≡ (from + step * j) % length old)))
  pub first : reach_at new from ≡ 0

-- a list of what the members of a set leave modulo k, ascending
abbrev pub AreResidues : List ℕ → ℕ → Numbers → Type 0
AreResidues residues k S = (ns : List ℕ) → Same (Has ns) S → residues ≡ residues_of ns k
