-- Runs of one common step, and the numbers that they mean.
use Rattle.std.specs.Prelude.{◌≡◌, ℕ, zero, suc, ◌+◌, ◌*◌, ◌/◌, ◌%◌, ◌^◌, ◌<◌, ◌≤◌, ◌==◌, ◌⊎◌}
use Rattle.std.specs.Prelude.{nat_le, nat_lt, Bool, ◌||◌, ◌&&◌, if◌then◌else◌, List, [], ◌∷◌, ◌++◌}
use Rattle.std.specs.Prelude.{All, AllPairs, Option, MatchOption}
use Rattle.std.specs.List.{list_any}
use Rattle.bit_length.specs.declared.run.Run.{Run}
use Rattle.bit_length.specs.Lengths.{Numbers, Same, Joins, IsWithin}

-- whether a number is in a run
abbrev pub in_run : ℕ → ℕ → Run → Bool
in_run step n r = (n % step == r.residue) && (nat_le r.first (n / step) && nat_le (n / step) r.last)

-- whether two runs are the same
abbrev pub is_same : Run → Run → Bool
is_same r s = (r.residue == s.residue) && ((r.first == s.first) && (r.last == s.last))

-- whether a run stands no later than one of a residue that begins at a quotient
abbrev pub starts_by : ℕ → ℕ → Run → Bool
starts_by residue quotient r =
    nat_lt r.residue residue || ((r.residue == residue) && nat_le r.first quotient)

-- a run that a set with this step may have
abbrev pub IsRun : ℕ → Run → Type 0
IsRun step r = (r.residue < step) × (r.first ≤ r.last) × (r.residue + step * r.last ≤ 2 ^ 32)

-- the order of runs: by residue, then by the first quotient
abbrev pub IsAtMost : Run → Run → Type 0
IsAtMost r s = (r.residue < s.residue) ⊎ ((r.residue ≡ s.residue) × (r.first ≤ s.first))

-- every member of one run stands before every member of the other, or leaves another residue
abbrev pub IsBefore : Run → Run → Type 0
IsBefore r s = (r.residue < s.residue) ⊎ ((r.residue ≡ s.residue) × (r.last < s.first))

-- runs without a common member
pub record AreRuns (step : ℕ) (runs : List Run) : Type 0 where
  pub each : All (IsRun step) runs
  pub apart : AllPairs IsBefore runs

-- the numbers below n that pass a test, ascending
unfoldable pub numbers_below : ℕ → (ℕ → Bool) → List ℕ
numbers_below zero test = []
numbers_below (suc n) test = numbers_below n test ++ (if test n then n ∷ [] else [])

-- the members of some runs, ascending
unfoldable pub members_of : ℕ → List Run → List ℕ
members_of step runs = numbers_below (2 ^ 32 + 1) (λ n. list_any (in_run step n) runs)

-- the same as a relation: n is of a run
abbrev pub InRun : ℕ → Run → ℕ → Type 0
InRun step r n = (q : ℕ) × (r.first ≤ q) × (q ≤ r.last) × (n ≡ r.residue + step * q)

-- n is of some run
abbrev pub InSome : ℕ → List Run → ℕ → Type 0
InSome step [] n = ⊥
InSome step (r ∷ rs) n = InRun step r n ⊎ InSome step rs n

-- the new list means the old numbers and those of S, and each of its runs can be one of a set, if
-- each of the old could
pub record Adds (step : ℕ) (old new : List Run) (S : Numbers) : Type 0 where
  pub each : All (IsRun step) old → All (IsRun step) new
  pub same : Same (InSome step new) (Joins (InSome step old) S)

-- what merging has made of the runs that it has taken
pub record MergesInto (step : ℕ) (taken others : List Run) (last : Run) : Type 0 where
  pub same : Same (InSome step (others ++ last ∷ [])) (InSome step taken)
  pub each : All (IsRun step) (others ++ last ∷ [])
  pub apart : AllPairs IsBefore others
  pub before : All (λ r. IsBefore r last) others

-- one more run, which doesn't stand before the last, is merged
abbrev pub TakesRun : List Run → Run → Run → List Run → Run → Type 0
TakesRun others last next new_others new_last =
    (step : ℕ) (taken : List Run) → MergesInto step taken others last → IsRun step next → IsAtMost last next → MergesInto step (taken ++ next ∷ []) new_others new_last

-- the runs without a common member have the members of the others
abbrev pub IsMerged : List Run → List Run → Type 0
IsMerged old new = (step : ℕ) → All (IsRun step) old → AreRuns step new × Same (InSome step new) (InSome step old)

-- some runs and the set of numbers that they mean
pub record AreRunsOf (step : ℕ) (runs : List Run) (S : Numbers) : Type 0 where
  pub each : All (IsRun step) runs
  pub same : Same (InSome step runs) S

-- the members at every `period`th quotient of a run, from one on, are of the set
abbrev pub HasClass : Numbers → ℕ → Run → ℕ → ℕ → Type 0
HasClass S step r period from =
    (j : ℕ) → from + period * j ≤ r.last → S (r.residue + step * (from + period * j))

-- an end up to which a number and each further one by a stride are of the set, or none where the
-- number isn't
abbrev pub IsReach : Numbers → ℕ → ℕ → Option ℕ → Type 0
IsReach S n stride o =
    MatchOption o (S n → ⊥) (λ end. (n ≤ end) × (end ≤ 2 ^ 32) × ((k : ℕ) → n + stride * k ≤ end → S (n + stride * k)))

-- one of some runs, with a number
pub record IsRunOf (step : ℕ) (runs : List Run) (n : ℕ) (r : Run) : Type 0 where
  pub run : IsRun step r
  pub has : InRun step r n
  pub within : IsWithin (InRun step r) (InSome step runs)

-- if each run of a list can be one of a set, so can each of another list
abbrev pub KeepsRuns : ℕ → List Run → List Run → Type 0
KeepsRuns step old new = All (IsRun step) old → All (IsRun step) new
