-- Lines, words and numbers of a text.
use Rattle.std.specs.Prelude.{◌≡◌, ◌⊎◌, ℕ, pos, neg_ℤ, ◌^◌, List, [], ◌∷◌, ◌++◌, ◌+◌, ◌*◌, ◌-◌, ◌≤◌}
use Rattle.std.specs.Prelude.{◌==◌, ◌||◌, Option, Some, None, if◌then◌else◌, nat_lt}
use Rattle.node_plan.specs.declared.words.Number.{Number}
use Rattle.node_plan.specs.declared.words.Number.TheVariants as number
use Rattle.node_plan.specs.declared.words.Whole.{Whole}
use Rattle.node_plan.specs.declared.words.Whole.TheVariants as whole

-- a byte in front of the first part
abbrev pub with_first : ℕ → List (List ℕ) → List (List ℕ)
with_first b [] = (b ∷ []) ∷ []
with_first b (p ∷ ps) = (b ∷ p) ∷ ps

-- the parts of a text before, between and behind its bytes c
abbrev pub parts_of : ℕ → List ℕ → List (List ℕ)
parts_of c [] = [] ∷ []
parts_of c (b ∷ s) = if b == c then [] ∷ parts_of c s else with_first b (parts_of c s)

-- the words of a line, with one space between them; where there are two in a row, an empty one
-- stands between them
abbrev pub words_of : List ℕ → List (List ℕ)
words_of line = parts_of 32 line

-- the number whose decimal digits are those of n and then these
abbrev pub decimal_from : ℕ → List ℕ → Option ℕ
decimal_from n [] = Some n
decimal_from n (b ∷ s) = if nat_lt b 48 || nat_lt 57 b then None
    else decimal_from (n * 10 + (b - 48)) s

-- the number of a word of decimal digits without leading zeros
abbrev pub number_of : List ℕ → Option ℕ
number_of [] = None
number_of (b ∷ []) = decimal_from 0 (b ∷ [])
number_of (b ∷ c ∷ s) = if b == 48 then None else decimal_from 0 (b ∷ c ∷ s)

-- a number, where one from low to high stands
abbrev pub ranged : ℕ → ℕ → Option ℕ → Number
ranged low high None = number.NoNumber
ranged low high (Some n) = if nat_lt n low || nat_lt high n then number.Outside else number.Within n

-- a word, where a number from low to high stands
abbrev pub number_in : ℕ → ℕ → List ℕ → Number
number_in low high word = ranged low high (number_of word)

-- a number that was found lies in its range
abbrev pub IsWithin : ℕ → ℕ → Number → Type 0
IsWithin low high (number.Within n) = (low ≤ n) × (n ≤ high)
IsWithin low high other = Unit {0}

-- a number with a `-` in front, and one without
abbrev pub below : Number → Whole
below number.NoNumber = whole.NoNumber
below number.Outside = whole.Outside
below (number.Within n) = whole.Within (neg_ℤ (pos n))

abbrev pub above : Number → Whole
above number.NoNumber = whole.NoNumber
above number.Outside = whole.Outside
above (number.Within n) = whole.Within (pos n)

-- a word, where a whole number from -2^63 to 2^64 - 1 stands
abbrev pub whole_in : List ℕ → Whole
whole_in [] = whole.NoNumber
whole_in (b ∷ s) = if b == 45 then below (ranged 0 (2 ^ 63) (number_of s))
    else above (ranged 0 (2 ^ 64 - 1) (number_of (b ∷ s)))

-- a number, where an MTU stands: 8 or 64
abbrev pub mtu_of : Number → Number
mtu_of (number.Within n) = if n == 8 || n == 64 then number.Within n else number.Outside
mtu_of other = other

-- a word, where an MTU stands
abbrev pub mtu_in : List ℕ → Number
mtu_in word = mtu_of (number_in 0 64 word)

-- a number that was found is an MTU
abbrev pub IsMtuWord : Number → Type 0
IsMtuWord (number.Within n) = (n ≡ 8) ⊎ (n ≡ 64)
IsMtuWord other = Unit {0}

-- parts with a byte c between each two
abbrev pub joined : ℕ → List (List ℕ) → List ℕ
joined c [] = []
joined c (part ∷ []) = part
joined c (part ∷ next ∷ parts) = part ++ c ∷ joined c (next ∷ parts)
