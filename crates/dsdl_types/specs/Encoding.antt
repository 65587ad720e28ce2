-- The serialized form of a value: a list of bits, least significant first (Cyphal Specification,
-- section 3.7).
use Rattle.std.specs.Prelude.{ℕ, zero, suc, ◌+◌, ◌-◌, ◌^◌, ◌/◌, Bool, true, false, List, [], ◌++◌}
use Rattle.std.specs.Prelude.{length, pos, negsuc}
use Rattle.cy_bits.specs.Bits.{bits_of, zeros, gap}
use Rattle.dsdl_types.specs.Schemas.{Prim, Sch, Flds, Simple, Fixed, Var, Struct, Union, End, Pad}
use Rattle.dsdl_types.specs.Schemas.{Field, is_aligned, is_delimited, length_field_bits, tag_bits}
use Rattle.dsdl_types.specs.Schemas.{width, variants}
use Rattle.dsdl_types.specs.Values.{Val, Vals, Truth, Num, Raw, Empty, More, count, items_of}
use Rattle.dsdl_types.specs.Values.{parts_of, tag_of, inner_of, first, others}
use Rattle.dsdl_types.specs.Cast.{cast_simple}

-- The raw bits of a value in the range of w bits, as a number. A negative number is in two's
-- complement; `negsuc n` is -(n + 1).
abbrev pub raw : ℕ → Val → ℕ
raw w (Truth true) = 1
raw w (Truth false) = 0
raw w (Num (pos n)) = n
raw w (Num (negsuc n)) = 2 ^ w - 1 - n
raw w (Raw n) = n
raw w _ = 0

abbrev pub simple_bits : Prim → Val → List Bool
simple_bits t v = bits_of (width t) (raw (width t) (cast_simple t v))

-- the bits of one value after the other
abbrev pub each : (Val → List Bool) → Vals → List Bool
each f Empty = []
each f (More v vs) = f v ++ each f vs

-- bits behind a delimiter header, if they have one: their number of bytes, in 32 bits
abbrev pub with_header : Bool → List Bool → List Bool
with_header false l = l
with_header true l = bits_of 32 (length l / 8) ++ l

-- with zeros up to a multiple of 8 at its end
abbrev pub padded : List Bool → List Bool
padded l = l ++ zeros (gap (length l))

-- the zeros in front of a part at this place, if it begins at a multiple of 8
abbrev pub lead : Bool → ℕ → List Bool
lead false p = []
lead true p = zeros (gap p)

-- A type's own bits, without a delimiter header. An array is its items in a row; one of variable
-- length has its length field in front. A structure is its fields in order. A union is its tag and
-- then its variant. A composite is padded to a multiple of 8 bits at its end.
abbrev mutual
  pub own_bits : Sch → Val → List Bool
  own_bits (Simple t) v = simple_bits t v
  own_bits (Fixed s n) v = each (λ x. with_header (is_delimited s) (own_bits s x)) (items_of v)
  own_bits (Var s cap) v = bits_of (length_field_bits cap) (count (items_of v)) ++ each (λ x. with_header (is_delimited s) (own_bits s x)) (items_of v)
  own_bits (Struct fs o) v = padded (field_bits fs 0 (parts_of v))
  own_bits (Union fs o) v = padded (bits_of (tag_bits (variants fs)) (tag_of v) ++ variant_bits fs (tag_of v) (inner_of v))

  -- the bits of fields that begin at the place p of their structure
  pub field_bits : Flds → ℕ → Vals → List Bool
  field_bits End p vs = []
  field_bits (Pad n fs) p vs = zeros n ++ field_bits fs (p + n) vs
  field_bits (Field name s fs) p vs =
      lead (is_aligned s) p ++ (with_header (is_delimited s) (own_bits s (first vs))
      ++ field_bits fs (p + (length (lead (is_aligned s) p) + length (with_header (is_delimited s) (own_bits s (first vs))))) (others vs))

  -- the bits of variant number k of these
  pub variant_bits : Flds → ℕ → Val → List Bool
  variant_bits End k v = []
  variant_bits (Pad n fs) k v = variant_bits fs k v
  variant_bits (Field name s fs) zero v = with_header (is_delimited s) (own_bits s v)
  variant_bits (Field name s fs) (suc k) v = variant_bits fs k v

-- a value as a part of another type: behind its delimiter header, where it has one
abbrev pub part_bits : Sch → Val → List Bool
part_bits s v = with_header (is_delimited s) (own_bits s v)
