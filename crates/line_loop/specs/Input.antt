-- What was taken of an input.
use Rattle.std.specs.Prelude.{◌≡◌, ◌++◌, ℕ, List, [], Option, Some, None, MatchOption, ⊤}

-- these bytes were taken, and those stand behind them; where the input tells its bytes, these are
-- its bytes
abbrev pub IsTaken : Option (List ℕ) → Option (List ℕ) → List ℕ → List ℕ → Type 0
IsTaken None new taken rest = new ≡ None
IsTaken (Some left) new taken rest = (left ≡ taken ++ rest) × (new ≡ Some rest)

-- the same, whatever stands behind them
abbrev pub Took : Option (List ℕ) → Option (List ℕ) → List ℕ → Type 0
Took left new taken = (rest : List ℕ) × IsTaken left new taken rest

-- nothing is left, where it is told
abbrev pub IsEnd : Option (List ℕ) → Type 0
IsEnd left = MatchOption left ⊤ (λ more. more ≡ [])
