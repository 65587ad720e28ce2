-- The one text of a value.
use Rattle.std.specs.Prelude.{ℕ, zero, suc, ◌/◌, ◌==◌, ◌&&◌, nat_lt, Bool, true, false}
use Rattle.std.specs.Prelude.{if◌then◌else◌, List, [], ◌∷◌, ◌++◌, codes, pos}
use Rattle.std.specs.Fmt.{signed_decimal}
use Rattle.dsdl_types.specs.Schemas.{Sch, Flds, PUint, Simple, Fixed, Var, Struct, Union, End, Pad}
use Rattle.dsdl_types.specs.Schemas.{Field, width}
use Rattle.dsdl_types.specs.Values.{Val, Vals, Truth, Num, Raw, Empty, More, items_of, parts_of}
use Rattle.dsdl_types.specs.Values.{tag_of, inner_of, first, others}
use Rattle.value_text.specs.Words.{separated, in_braces, in_brackets, entry, hex_digits}

abbrev pub truth_text : Bool → List ℕ
truth_text true = codes "true"
truth_text false = codes "false"

-- A truth value is `true` or `false`, a number is decimal, and the raw bits of a float are all hex
-- digits of the width w behind `0x`.
abbrev pub simple_text : ℕ → Val → List ℕ
simple_text w (Truth b) = truth_text b
simple_text w (Num z) = signed_decimal z
simple_text w (Raw n) = codes "0x" ++ hex_digits (w / 4) n
simple_text w _ = []

-- the type of bytes
abbrev pub is_uint8 : Sch → Bool
is_uint8 (Simple (PUint w c)) = w == 8
is_uint8 _ = false

-- a number from 0 to 255
abbrev pub is_byte : Val → Bool
is_byte (Num (pos n)) = nat_lt n 256
is_byte _ = false

abbrev pub are_bytes : Vals → Bool
are_bytes Empty = true
are_bytes (More v vs) = is_byte v && are_bytes vs

-- two hex digits of a number
abbrev pub byte_text : Val → List ℕ
byte_text (Num (pos n)) = hex_digits 2 n
byte_text _ = []

-- the texts of values
abbrev pub texts : (Val → List ℕ) → Vals → List (List ℕ)
texts f Empty = []
texts f (More v vs) = f v ∷ texts f vs

-- the texts of values in a row
abbrev pub in_a_row : (Val → List ℕ) → Vals → List ℕ
in_a_row f Empty = []
in_a_row f (More v vs) = f v ++ in_a_row f vs

-- An array of bytes is `#` and hex. An array of the type of bytes with an item that is none, and
-- any other array, is its items in brackets.
abbrev pub array_text : Bool → (Val → List ℕ) → Vals → List ℕ
array_text bytes f vs = if bytes && are_bytes vs then codes "#" ++ in_a_row byte_text vs else in_brackets (separated (texts f vs))

-- A structure is its fields that aren't padding, and a union its variant, each behind its name, in
-- braces.
abbrev mutual
  pub value_text : Sch → Val → List ℕ
  value_text (Simple t) v = simple_text (width t) v
  value_text (Fixed s n) v = array_text (is_uint8 s) (λ x. value_text s x) (items_of v)
  value_text (Var s cap) v = array_text (is_uint8 s) (λ x. value_text s x) (items_of v)
  value_text (Struct fs o) v = in_braces (separated (field_texts fs (parts_of v)))
  value_text (Union fs o) v = in_braces (variant_text fs (tag_of v) (inner_of v))

  pub field_texts : Flds → Vals → List (List ℕ)
  field_texts End vs = []
  field_texts (Pad n fs) vs = field_texts fs vs
  field_texts (Field name s fs) vs = entry name (value_text s (first vs)) ∷ field_texts fs (others vs)

  -- the text of variant number k of these
  pub variant_text : Flds → ℕ → Val → List ℕ
  variant_text End k v = []
  variant_text (Pad n fs) k v = variant_text fs k v
  variant_text (Field name s fs) zero v = entry name (value_text s v)
  variant_text (Field name s fs) (suc k) v = variant_text fs k v
