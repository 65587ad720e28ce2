-- The text of a set of numbers.
use Rattle.std.specs.Prelude.{◌≡◌, ℕ, nat_lt, Bool, if◌then◌else◌, List, [], ◌∷◌, ◌++◌, length}
use Rattle.std.specs.Prelude.{codes, decimal}
use Rattle.bit_length.specs.Ascending.{Ascend}
use Rattle.bit_length.specs.Lengths.{Numbers, Has, Same}

-- numbers with a comma and a space between each two
abbrev pub listed : List ℕ → List ℕ
listed [] = []
listed (n ∷ []) = decimal n
listed (n ∷ m ∷ ns) = decimal n ++ codes ", " ++ listed (m ∷ ns)

-- a number, and a comma and a space where it isn't the last
abbrev pub member_text : ℕ → Bool → List ℕ
member_text n last = decimal n ++ (if last then [] else codes ", ")

-- the first of some numbers
abbrev pub first : List ℕ → ℕ
first [] = 0
first (n ∷ ns) = n

-- the last of some numbers
abbrev pub last : List ℕ → ℕ
last [] = 0
last (n ∷ []) = n
last (n ∷ m ∷ ns) = last (m ∷ ns)

-- two numbers, and how many there are from one to the other
abbrev pub ends_text : ℕ → ℕ → ℕ → List ℕ
ends_text least greatest count = decimal least ++ codes ".." ++ decimal greatest ++ codes " count " ++ decimal count

-- the first and the last number, and how many there are
abbrev pub range_text : List ℕ → List ℕ
range_text ns = ends_text (first ns) (last ns) (length ns)

-- at most 16 numbers are listed
abbrev pub members_text : List ℕ → List ℕ
members_text ns = if nat_lt 16 (length ns) then range_text ns else listed ns

abbrev pub set_text : List ℕ → List ℕ
set_text ns = codes "{" ++ members_text ns ++ codes "}"

-- the text is that of the set's members, ascending
pub record IsSetText (S : Numbers) (text : List ℕ) : Type 0 where
  pub members : List ℕ
  pub ascending : Ascend members
  pub same : Same (Has members) S
  pub is : text ≡ set_text members
