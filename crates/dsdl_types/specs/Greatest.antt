-- The greatest length of a schema, in bits.
use Rattle.std.specs.Prelude.{ℕ, ◌+◌, ◌*◌, ◌-◌, max, Bool, true, false}
use Rattle.cy_bits.specs.Bits.{gap}
use Rattle.dsdl_types.specs.Schemas.{Sch, Flds, Simple, Fixed, Var, Struct, Union, End, Pad, Field}
use Rattle.dsdl_types.specs.Schemas.{is_aligned, is_delimited, extent_of, length_field_bits}
use Rattle.dsdl_types.specs.Schemas.{tag_bits, width, variants}

-- as a part: of a delimited composite the delimiter header and the extent
abbrev pub as_part : Bool → ℕ → ℕ → ℕ
as_part false extent own = own
as_part true extent own = 32 + extent

-- the next multiple of 8
abbrev pub up : ℕ → ℕ
up n = n + gap n

-- where a part begins that may have to begin at a multiple of 8
abbrev pub from_lead : Bool → ℕ → ℕ
from_lead false p = p
from_lead true p = up p

abbrev mutual
  pub longest : Sch → ℕ
  longest (Simple t) = width t
  longest (Fixed s n) = n * as_part (is_delimited s) (extent_of s) (longest s)
  longest (Var s cap) = length_field_bits cap + cap * as_part (is_delimited s) (extent_of s) (longest s)
  longest (Struct fs o) = up (longest_fields fs 0)
  longest (Union fs o) = up (tag_bits (variants fs) + longest_variant fs)

  -- where fields end at most that begin at the place p
  pub longest_fields : Flds → ℕ → ℕ
  longest_fields End p = p
  longest_fields (Pad n fs) p = longest_fields fs (p + n)
  longest_fields (Field name s fs) p = longest_fields fs (from_lead (is_aligned s) p + as_part (is_delimited s) (extent_of s) (longest s))

  pub longest_variant : Flds → ℕ
  longest_variant End = 0
  longest_variant (Pad n fs) = longest_variant fs
  longest_variant (Field name s fs) = max (as_part (is_delimited s) (extent_of s) (longest s)) (longest_variant fs)
