-- What JSON texts are made of (RFC 8259), without blanks.
use Rattle.std.specs.Prelude.{ℕ, ◌==◌, ◌||◌, ◌&&◌, nat_le, Bool, true, false, if◌then◌else◌, List}
use Rattle.std.specs.Prelude.{[], ◌∷◌, ◌++◌, codes}
use Rattle.hex.specs.Hex.{encode_upper}
use Rattle.value_json.specs.Pieces.{Piece, Exact, exact}

-- texts with a comma in front of each
abbrev pub following : List (List Piece) → List Piece
following [] = []
following (text ∷ texts) = Exact (codes ",") ∷ (text ++ following texts)

-- texts with a comma between each two
abbrev pub separated : List (List Piece) → List Piece
separated [] = []
separated (text ∷ texts) = text ++ following texts

-- texts that are left, of which the next is the first of all or not
abbrev pub rest_of : Bool → List (List Piece) → List Piece
rest_of true texts = separated texts
rest_of false texts = following texts

-- what is in front of a text, as the first one or a later one
abbrev pub lead : Bool → List Piece
lead true = []
lead false = exact (codes ",")

-- an object of these members, and an array of these items
abbrev pub in_braces : List Piece → List Piece
in_braces members = Exact (codes "{") ∷ (members ++ exact (codes "}"))

abbrev pub in_brackets : List Piece → List Piece
in_brackets items = Exact (codes "[") ∷ (items ++ exact (codes "]"))

-- a string of bytes that need no escape, as those of a name
abbrev pub quoted : List ℕ → List ℕ
quoted bytes = 34 ∷ (bytes ++ 34 ∷ [])

-- a member's name, with the colon
abbrev pub name_text : List ℕ → List ℕ
name_text name = quoted name ++ 58 ∷ []

-- a member of an object
abbrev pub member : List ℕ → List Piece → List Piece
member name text = Exact (name_text name) ∷ text

-- `"` and `\`
abbrev pub is_escaped : ℕ → Bool
is_escaped byte = (byte == 34) || (byte == 92)

-- bytes with `\` in front of `"` and of `\`
abbrev pub escaped : List ℕ → List ℕ
escaped [] = []
escaped (byte ∷ bytes) = if is_escaped byte then 92 ∷ byte ∷ escaped bytes else byte ∷ escaped bytes

-- bytes that are all 20 to 7E hex
abbrev pub are_printable : List ℕ → Bool
are_printable [] = true
are_printable (byte ∷ bytes) = (nat_le 32 byte && nat_le byte 126) && are_printable bytes

-- Bytes are two hex digits each, and where all are printable their text too.
abbrev pub bytes_text : List ℕ → List ℕ
bytes_text bytes = if are_printable bytes then codes ",\"text\":" ++ quoted (escaped bytes) else []

abbrev pub bytes_json : List ℕ → List ℕ
bytes_json bytes = codes "{\"hex\":" ++ (quoted (encode_upper bytes) ++ (bytes_text bytes ++ codes "}"))
