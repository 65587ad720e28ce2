-- The words of a line.
use Rattle.std.specs.Prelude.{ℕ, ◌+◌, ◌/◌, ◌%◌, List, [], ◌∷◌, ◌++◌, decimal}
use Rattle.hex.specs.Hex.{encode_upper}

-- the last decimal digit of a number
abbrev pub digit : ℕ → ℕ
digit n = 48 + n % 10

-- a number below a million, as six digits
abbrev pub six_digits : ℕ → List ℕ
six_digits n = digit (n / 100000) ∷ digit (n / 10000) ∷ digit (n / 1000) ∷ digit (n / 100) ∷ digit (n / 10) ∷ digit n ∷ []

-- microseconds as seconds, a point, and six digits
abbrev pub moment_text : ℕ → List ℕ
moment_text moment = decimal (moment / 1000000) ++ 46 ∷ six_digits (moment % 1000000)

-- a number below 2^32, as eight hex digits, letters in upper case
abbrev pub ident_text : ℕ → List ℕ
ident_text ident = encode_upper (ident / 0x1000000 ∷ ident / 0x10000 % 256 ∷ ident / 256 % 256 ∷ ident % 256 ∷ [])

-- words with one space between them, and a newline
abbrev pub line_of : List (List ℕ) → List ℕ
line_of [] = 10 ∷ []
line_of (word ∷ []) = word ++ 10 ∷ []
line_of (word ∷ next ∷ words) = word ++ 32 ∷ line_of (next ∷ words)

-- words with a space behind each
abbrev pub spaced : List (List ℕ) → List ℕ
spaced [] = []
spaced (word ∷ words) = word ++ 32 ∷ spaced words

-- words before a text, with a space behind each
abbrev pub in_front : List (List ℕ) → List ℕ → List ℕ
in_front [] rest = rest
in_front (word ∷ words) rest = word ++ 32 ∷ in_front words rest
