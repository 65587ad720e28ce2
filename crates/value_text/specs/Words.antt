-- The parts that texts of values are made of.
use Rattle.std.specs.Prelude.{ℕ, zero, suc, Bool, true, false, ◌*◌, ◌^◌, ◌/◌, ◌%◌, List, [], ◌∷◌}
use Rattle.std.specs.Prelude.{◌++◌, codes, slice_index}
use Rattle.hex.specs.Hex.{upper_digits}

-- texts with a comma and a space in front of each
abbrev pub following : List (List ℕ) → List ℕ
following [] = []
following (text ∷ texts) = codes ", " ++ (text ++ following texts)

-- texts with a comma and a space between each two
abbrev pub separated : List (List ℕ) → List ℕ
separated [] = []
separated (text ∷ texts) = text ++ following texts

-- what is in front of a text, as the first one or a later one
abbrev pub lead : Bool → List ℕ
lead true = []
lead false = codes ", "

-- a text in braces, and one in brackets
abbrev pub in_braces : List ℕ → List ℕ
in_braces text = codes "{" ++ (text ++ codes "}")

abbrev pub in_brackets : List ℕ → List ℕ
in_brackets text = codes "[" ++ (text ++ codes "]")

-- a name with the text of its value
abbrev pub entry : List ℕ → List ℕ → List ℕ
entry name text = name ++ (codes ": " ++ text)

-- so many hex digits of a number, the highest first
unfoldable pub hex_digits : ℕ → ℕ → List ℕ
hex_digits zero n = []
hex_digits (suc k) n = slice_index upper_digits (n / 2 ^ (4 * k) % 16) ∷ hex_digits k n
