-- Hex digits, and the bytes of pairs of them.
use Rattle.std.specs.Prelude.{◌≡◌, ◌≤◌, ◌<◌, ◌+◌, ◌*◌, ◌%◌, ◌++◌, ℕ, List, [], ◌∷◌, length, take}
use Rattle.std.specs.Prelude.{bit_or, Option, Some, None, Ok}
use Rattle.hex.specs.Hex.{decode_of, hex_digit_value}

abbrev pub or_sixteen : Option ℕ → ℕ
or_sixteen (Some value) = value
or_sixteen None = 16

-- the value of a hex digit of either case, and 16 of any other byte
abbrev pub digit : ℕ → ℕ
digit c = or_sixteen (hex_digit_value c)

-- values of digits
abbrev pub AreDigits : List ℕ → Type 0
AreDigits [] = Unit {0}
AreDigits (value ∷ values) = (value < 16) × AreDigits values

-- the bytes of pairs of values
abbrev pub bytes_of_pairs : List ℕ → List ℕ
bytes_of_pairs [] = []
bytes_of_pairs (high ∷ []) = []
bytes_of_pairs (high ∷ low ∷ values) = bit_or (high * 16 % 256) low ∷ bytes_of_pairs values

-- these digits are the hex of these bytes
abbrev pub IsHexOf : List ℕ → List ℕ → Type 0
IsHexOf [] [] = Unit {0}
IsHexOf [] (byte ∷ bytes) = ⊥
IsHexOf (high ∷ []) bytes = ⊥
IsHexOf (high ∷ low ∷ digits) [] = ⊥
IsHexOf (high ∷ low ∷ digits) (byte ∷ bytes) =
    ((digit high < 16) × (digit low < 16)) × ((byte ≡ digit high * 16 + digit low) × IsHexOf digits bytes)

-- the bytes of which these digits are the hex were put
pub record PutsHex (digits old new : List ℕ) : Type 0 where
  pub bytes : List ℕ
  pub hex : IsHexOf digits bytes
  pub put : new ≡ old ++ bytes

-- a text is the hex of so many bytes, the first of these, behind which sixteen more stand
pub record IsRead (text : List ℕ) (count : ℕ) (bytes : List ℕ) : Type 0 where
  pub hex : decode_of text ≡ Ok (take count bytes)
  pub slack : count + 16 ≤ length bytes
