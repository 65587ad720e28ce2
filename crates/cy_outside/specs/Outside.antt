-- What a read and a write do, and when they fail.
use Rattle.std.specs.Prelude.{◌≡◌, ◌<◌, ◌≤◌, ◌⊎◌, ◌++◌, ◌-◌, ◌^◌, ℕ, List, [], Option, Some, None}
use Rattle.std.specs.Prelude.{Result, length, take, drop, MatchResult}

-- the count of faults rose, or stands at its end
abbrev pub Rose : ℕ → ℕ → Type 0
Rose old new = (old < new) ⊎ (new ≡ 2 ^ 64 - 1)

-- a call failed only where its count rose, and every other answer leaves the count as it was
abbrev pub HasCause : {T E : Type 0} → ℕ → ℕ → Result T E → Type 0
HasCause old new result = MatchResult result (λ _. new ≡ old) (λ _. Rose old new)

-- a read of n bytes: the first n of those left, none only at the end of input or into an empty
-- buffer
abbrev pub Takes : Option (List ℕ) → Option (List ℕ) → List ℕ → List ℕ → ℕ → Type 0
Takes None new before after n = new ≡ None
Takes (Some left) new before after n = (n ≤ length left) × (take n after ≡ take n left)
    × (new ≡ Some (drop n left)) × (n ≡ 0 → 0 < length before → left ≡ [])

-- a write of the first n bytes
abbrev pub Adds : Option (List ℕ) → Option (List ℕ) → List ℕ → ℕ → Type 0
Adds None new bytes n = new ≡ None
Adds (Some written) new bytes n = new ≡ Some (written ++ take n bytes)
