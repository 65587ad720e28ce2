-- Sets of numbers, by what their members are.
use Rattle.std.specs.Prelude.{◌≡◌, ℕ, zero, suc, ◌+◌, ◌-◌, ◌*◌, ◌/◌, ◌%◌, ◌^◌, ◌<◌, ◌≤◌, ◌⊎◌, ◌↔◌}
use Rattle.std.specs.Prelude.{List, Contains, Option, MatchOption, Result, Err}
use Rattle.bit_length.specs.declared.LengthError.{LengthError}
use Rattle.bit_length.specs.declared.LengthError.TheVariants as error

-- a set of numbers
abbrev pub Numbers : Type 1
Numbers = ℕ → Type 0

-- the members of a set of lengths, which contracts see as the ascending list of its members
abbrev pub Has : List ℕ → Numbers
Has s n = Contains s n

-- two sets with the same members
abbrev pub Same : Numbers → Numbers → Type 0
Same S T = (n : ℕ) → (S n ↔ T n)

-- one number
abbrev pub Only : ℕ → Numbers
Only k n = n ≡ k

-- 32, the bits of a delimiter header, and each multiple of 8 from 0 to the extent
abbrev pub Delimited : ℕ → Numbers
Delimited extent n = (k : ℕ) × (8 * k ≤ extent) × (n ≡ 32 + 8 * k)

-- each multiple of a step from 0 to `most` of it: the bits of up to so many items of one length
abbrev pub Multiples : ℕ → ℕ → Numbers
Multiples step most n = (k : ℕ) × (k ≤ most) × (n ≡ step * k)

-- all sums of a member each
abbrev pub Sums : Numbers → Numbers → Numbers
Sums S T n = (a : ℕ) × (b : ℕ) × S a × T b × (n ≡ a + b)

-- the members of either
abbrev pub Joins : Numbers → Numbers → Numbers
Joins S T n = S n ⊎ T n

-- all sums of k members
abbrev pub Repeats : Numbers → ℕ → Numbers
Repeats S zero n = n ≡ 0
Repeats S (suc k) n = Sums S (Repeats S k) n

-- all sums of at most k members
abbrev pub UpTo : Numbers → ℕ → Numbers
UpTo S k n = (m : ℕ) × (m ≤ k) × Repeats S m n

-- the least multiple of `to` that is no less than n
abbrev pub padded : ℕ → ℕ → ℕ
padded to n = (n + (to - 1)) / to * to

-- each member, brought up to a multiple of `to`
abbrev pub Pads : Numbers → ℕ → Numbers
Pads S to n = (m : ℕ) × S m × (n ≡ padded to m)

abbrev pub IsGreatest : Numbers → ℕ → Type 0
IsGreatest S g = S g × ((n : ℕ) → S n → n ≤ g)

-- Long comes exactly where the set's greatest member is above 2^32 bits, and names that member
abbrev pub IsLongBeyond : Result (List ℕ) LengthError → Numbers → Type 0
IsLongBeyond result S = (g : ℕ) → (result ≡ Err (error.Long g)) ↔ (IsGreatest S g × (2 ^ 32 < g))

abbrev pub IsLeast : Numbers → ℕ → Type 0
IsLeast S l = S l × ((n : ℕ) → S n → l ≤ n)

-- the least member that is no less than n, or none where every member is less
abbrev pub IsNext : Numbers → ℕ → Option ℕ → Type 0
IsNext S n o = MatchOption o ((k : ℕ) → S k → k < n) (λ m. S m × (n ≤ m) × ((k : ℕ) → S k → n ≤ k → m ≤ k))

-- some member is r modulo k
abbrev pub SomeLeaves : Numbers → ℕ → ℕ → Type 0
SomeLeaves S k r = (n : ℕ) × S n × (n % k ≡ r)

-- each member of one set is a member of the other
abbrev pub IsWithin : Numbers → Numbers → Type 0
IsWithin S T = (n : ℕ) → S n → T n
