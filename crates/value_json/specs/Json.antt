-- The JSON text of a value.
use Rattle.std.specs.Prelude.{ℕ, zero, suc, ◌^◌, ◌<◌, ◌&&◌, Bool, true, false, if◌then◌else◌, List}
use Rattle.std.specs.Prelude.{[], ◌∷◌, codes, pos}
use Rattle.std.specs.Float.{Float, nan, inf, fin}
use Rattle.std.specs.Fmt.{signed_decimal}
use Rattle.dsdl_types.specs.Schemas.{Sch, Flds, Simple, Fixed, Var, Struct, Union, End, Pad, Field}
use Rattle.dsdl_types.specs.Schemas.{width}
use Rattle.dsdl_types.specs.Values.{Val, Vals, Truth, Num, Raw, Empty, More, items_of, parts_of}
use Rattle.dsdl_types.specs.Values.{tag_of, inner_of, first, others}
use Rattle.value_text.specs.Texts.{are_bytes, is_uint8, truth_text}
use Rattle.value_json.specs.Floats.{float_of}
use Rattle.value_json.specs.Pieces.{Piece, Number, exact}
use Rattle.value_json.specs.Words.{bytes_json, in_braces, in_brackets, member, separated}

abbrev pub infinity_text : Bool → List ℕ
infinity_text false = codes "\"Infinity\""
infinity_text true = codes "\"-Infinity\""

-- A float is a number; what is none is a string.
abbrev pub float_json : ℕ → Float → List Piece
float_json w nan = exact (codes "\"NaN\"")
float_json w (inf negative) = exact (infinity_text negative)
float_json w (fin negative m e) = Number w (fin negative m e) ∷ []

-- A truth value is `true` or `false`, and a number is decimal.
abbrev pub plain_text : Val → List ℕ
plain_text (Truth b) = truth_text b
plain_text (Num z) = signed_decimal z
plain_text _ = []

-- the text of a value that has no parts
abbrev pub simple_json : ℕ → Val → List Piece
simple_json w (Truth b) = exact (truth_text b)
simple_json w (Num z) = exact (signed_decimal z)
simple_json w (Raw bits) = float_json w (float_of w bits)
simple_json w _ = []

-- Raw bits are of the width.
abbrev pub HasRawBits : ℕ → Val → Type 0
HasRawBits w (Raw bits) = bits < 2 ^ w
HasRawBits w _ = Unit {0}

-- the number of a byte
abbrev pub byte_of : Val → ℕ
byte_of (Num (pos n)) = n
byte_of _ = 0

abbrev pub bytes_of : Vals → List ℕ
bytes_of Empty = []
bytes_of (More v vs) = byte_of v ∷ bytes_of vs

-- the texts of values
abbrev pub texts : (Val → List Piece) → Vals → List (List Piece)
texts f Empty = []
texts f (More v vs) = f v ∷ texts f vs

-- An array of bytes is an object of their hex and, where they are printable, their text. An array
-- of the type of bytes with an item that is none, and any other array, is an array.
abbrev pub array_json : Bool → (Val → List Piece) → Vals → List Piece
array_json bytes f vs = if bytes && are_bytes vs then exact (bytes_json (bytes_of vs)) else in_brackets (separated (texts f vs))

-- A structure is an object of its fields that aren't padding, and a union one of its variant.
abbrev mutual
  pub json_of : Sch → Val → List Piece
  json_of (Simple t) v = simple_json (width t) v
  json_of (Fixed s n) v = array_json (is_uint8 s) (λ x. json_of s x) (items_of v)
  json_of (Var s cap) v = array_json (is_uint8 s) (λ x. json_of s x) (items_of v)
  json_of (Struct fs o) v = in_braces (separated (field_members fs (parts_of v)))
  json_of (Union fs o) v = in_braces (variant_member fs (tag_of v) (inner_of v))

  pub field_members : Flds → Vals → List (List Piece)
  field_members End vs = []
  field_members (Pad n fs) vs = field_members fs vs
  field_members (Field name s fs) vs = member name (json_of s (first vs)) ∷ field_members fs (others vs)

  -- the member of variant number k of these
  pub variant_member : Flds → ℕ → Val → List Piece
  variant_member End k v = []
  variant_member (Pad n fs) k v = variant_member fs k v
  variant_member (Field name s fs) zero v = member name (json_of s v)
  variant_member (Field name s fs) (suc k) v = variant_member fs k v
