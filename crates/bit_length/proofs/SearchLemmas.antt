-- Which of some runs in order can have a number.
use Rattle.std.proofs.Common.{◌≡◌, ℕ, suc, ◌-◌, ◌/◌, ◌%◌, ◌<◌, ◌≤◌, ◌⊎◌, inl, inr, true, false, List, [], ◌∷◌, length, get_or, sym, ◌∙◌, subst, arith}
use Rattle.std.specs.List.Sorted.{IsPartitionPoint, IsPartitionedBy}
use Rattle.std.proofs.lemmas.Bool.{cases_lt, false≢true}
use Rattle.std.proofs.lemmas.Bool.Decides.{nat_tests}
use Rattle.std.proofs.lemmas.List.Elements.{All-get_or}
use Rattle.bit_length.specs.declared.run.Run.{Run}
use Rattle.bit_length.specs.Lengths.{IsWithin}
use Rattle.bit_length.specs.Runs.{starts_by, IsRun, IsBefore, InRun, InSome, AreRuns}
use Rattle.bit_length.proofs.MemberLemmas.{quotient_of, remainder_of}
use Rattle.bit_length.proofs.SetLemmas.{no_run, InSome-at}

-- what the test says
starts_is : (residue quotient : ℕ) (r : Run) → starts_by residue quotient r ≡ true → (r.residue < residue) ⊎ ((r.residue ≡ residue) × (r.first ≤ quotient))
starts_is residue quotient r e = elim (cases_lt r.residue residue) [
  | inl h ↦ inl h
  | inr h ↦ inr (grind (arith, nat_tests))
]

starts_from : (residue quotient : ℕ) (r : Run) → (r.residue < residue) ⊎ ((r.residue ≡ residue) × (r.first ≤ quotient)) → starts_by residue quotient r ≡ true
starts_from residue quotient r (inl h) = grind (arith, nat_tests)
starts_from residue quotient r (inr h) = grind (arith, nat_tests)

earlier : (residue quotient : ℕ) (a b : Run) → a.first ≤ a.last → IsBefore a b → starts_by residue quotient b ≡ true → starts_by residue quotient a ≡ true
earlier residue quotient a b le before e =
    starts_from residue quotient a (place before (starts_is residue quotient b e))
  where
    place : IsBefore a b → (b.residue < residue) ⊎ ((b.residue ≡ residue) × (b.first ≤ quotient)) → (a.residue < residue) ⊎ ((a.residue ≡ residue) × (a.first ≤ quotient))
    place (inl h) (inl k) = inl (omega arith)
    place (inl h) (inr k) = inl (omega arith)
    place (inr h) (inl k) = inl (omega arith)
    place (inr h) (inr k) = inr (omega arith, omega arith)

-- those that begin no later than a place stand first
pub starts_parted : (s residue quotient : ℕ) (runs : List Run) → AreRuns s runs → IsPartitionedBy (starts_by residue quotient) runs
starts_parted s residue quotient runs set i j d le len e = elim (cases_lt i j) [
  | inl h ↦ earlier residue quotient (get_or runs i d) (get_or runs j d) (All-get_or (IsRun s) runs i d (omega arith) set.each).1 (set.apart i j d h len) e
  | inr h ↦ let same : j ≡ i = omega arith in
      subst (λ k. starts_by residue quotient (get_or runs k d) ≡ true) same e
]

-- a run that begins later doesn't have the number
later : (s n : ℕ) (r : Run) → IsRun s r → starts_by (n % s) (n / s) r ≡ false → InRun s r n → ⊥
later s n r run e (q, low, high, f) =
    let a = quotient_of r.residue s q n run.0 f in
    let b = remainder_of r.residue s q n run.0 f in
    false≢true (sym e ∙ starts_from (n % s) (n / s) r (inr (sym b, omega arith)))

-- nor does one before another that begins no later
over : (s n : ℕ) (a b : Run) → IsRun s a → IsBefore a b → starts_by (n % s) (n / s) b ≡ true → InRun s a n → ⊥
over s n a b run before e (q, low, high, f) =
    let x = quotient_of a.residue s q n run.0 f in
    let y = remainder_of a.residue s q n run.0 f in
    place x y before (starts_is (n % s) (n / s) b e)
  where
    place : n / s ≡ q → n % s ≡ a.residue → IsBefore a b → (b.residue < n % s) ⊎ ((b.residue ≡ n % s) × (b.first ≤ n / s)) → ⊥
    place x y (inl h) (inl k) = omega arith
    place x y (inl h) (inr k) = omega arith
    place x y (inr h) (inl k) = omega arith
    place x y (inr h) (inr k) = omega arith

InSome-where : (s : ℕ) (runs : List Run) (n : ℕ) → InSome s runs n → (i : ℕ) × (i < length runs) × InRun s (get_or runs i no_run) n
InSome-where s [] n h = absurd h
InSome-where s (r ∷ runs) n (inl h) = (0, omega arith, h)
InSome-where s (r ∷ runs) n (inr h) =
    let (i, lt, k) = InSome-where s runs n h in (suc i, omega arith, k)

-- the last run that begins no later than the number is the only one that can have it
pub only_before : (s n before : ℕ) (runs : List Run) → AreRuns s runs → IsPartitionPoint (λ r. starts_by (n % s) (n / s) r ≡ true) (λ r. starts_by (n % s) (n / s) r ≡ false) runs before → before ≤ length runs → InSome s runs n → (0 < before) × InRun s (get_or runs (before - 1) no_run) n
only_before s n before runs set point le h =
    let (i, lt, k) = InSome-where s runs n h in
    let run = All-get_or (IsRun s) runs i no_run lt set.each in
    elim (cases_lt i before) [
      | inr x ↦ absurd (later s n (get_or runs i no_run) run (point.1 i no_run x lt) k)
      | inl x ↦ elim (cases_lt i (before - 1)) [
        | inr y ↦ let e : i ≡ before - 1 = omega arith in (omega arith, subst (λ t. InRun s (get_or runs t no_run) n) e k)
        | inl y ↦ absurd (over s n (get_or runs i no_run) (get_or runs (before - 1) no_run) run (set.apart i (before - 1) no_run y (omega arith)) (point.0 (before - 1) no_run (omega arith) (omega arith)) k)
      ]
    ]

pub run_within : (s : ℕ) (runs : List Run) (i : ℕ) → i < length runs → IsWithin (InRun s (get_or runs i no_run)) (InSome s runs)
run_within s runs i lt n h = InSome-at s runs i n lt h
