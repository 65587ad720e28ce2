-- Values of hex digits, many at a time.
use Rattle.std.specs.Prelude.{◌≡◌, ◌≤◌, ℕ, Bool, not, ◌+◌, ◌*◌, ◌%◌, nat_lt, List, [], ◌∷◌, bit_or}

-- the value of a digit
abbrev pub is_digit : ℕ → Bool
is_digit x = not (nat_lt 15 x)

-- the bytes of pairs of values
abbrev pub bytes_of_pairs : List ℕ → List ℕ
bytes_of_pairs [] = []
bytes_of_pairs (a ∷ []) = []
bytes_of_pairs (a ∷ b ∷ s) = bit_or (a * 16 % 256) b ∷ bytes_of_pairs s

-- the numbers of pairs of decimal digits' values, as bytes
abbrev pub numbers_of_pairs : List ℕ → List ℕ
numbers_of_pairs [] = []
numbers_of_pairs (a ∷ []) = []
numbers_of_pairs (a ∷ b ∷ s) = (a * 10 % 256 + b) % 256 ∷ numbers_of_pairs s

-- a decimal digit
abbrev pub IsDecimal : ℕ → Type 0
IsDecimal b = (48 ≤ b) × (b ≤ 57)

-- six decimal digits, `)` and a space stand in front
abbrev pub IsMicros : List ℕ → Type 0
IsMicros (a ∷ b ∷ c ∷ d ∷ e ∷ f ∷ g ∷ h ∷ _) = IsDecimal a × IsDecimal b × IsDecimal c × IsDecimal d × IsDecimal e × IsDecimal f × (g ≡ 41) × (h ≡ 32)
IsMicros _ = ⊥
