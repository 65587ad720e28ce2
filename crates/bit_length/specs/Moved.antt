-- Sets of numbers, moved up by a number.
use Rattle.std.specs.Prelude.{◌≡◌, ℕ, ◌+◌, ◌%◌, ◌^◌, ◌≤◌, List, map}
use Rattle.bit_length.specs.Lengths.{Numbers}

-- each number of a list, moved up
abbrev pub moved : ℕ → List ℕ → List ℕ
moved by ns = map (λ n. by + n) ns

-- each member of a set, moved up
abbrev pub Moved : ℕ → Numbers → Numbers
Moved by S n = (m : ℕ) × S m × (n ≡ by + m)

-- no member, moved up, is above 2^32
abbrev pub IsShortAt : ℕ → Numbers → Type 0
IsShortAt by S = (n : ℕ) → S n → by + n ≤ 2 ^ 32

-- there is a member
abbrev pub HasSome : Numbers → Type 0
HasSome S = (n : ℕ) × S n

-- all members are multiples of a number
abbrev pub AreMultiples : Numbers → ℕ → Type 0
AreMultiples S to = (n : ℕ) → S n → n % to ≡ 0
