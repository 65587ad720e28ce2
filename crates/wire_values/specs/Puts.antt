-- What a writer of the code does to a buffer.
use Rattle.std.specs.Prelude.{◌≡◌, ℕ, ◌+◌, ◌*◌, ◌^◌, ◌≤◌, ◌++◌, List, Bool, length}
use Rattle.cy_bits.specs.Bits.{bits, bits_of}
use Rattle.cy_bits.specs.Put.{put_bits}
use Rattle.dsdl_types.specs.Encoding.{each, lead, part_bits, variant_bits}
use Rattle.dsdl_types.specs.Schemas.{Sch, Flds, is_aligned, length_field_bits, tag_bits, variants}
use Rattle.dsdl_types.specs.Values.{Val, Vals, count}
use Rattle.cy_bits.specs.declared.bit_writer.BitWriter.{BitWriter}

-- the buffer has room for these bits from a place on
pub record HasRoom (out : List ℕ) (place : ℕ) (l : List Bool) : Type 0 where
  pub room : place + length l ≤ 8 * length out
  pub small : length out ≤ 2 ^ 37

-- these bits were put between two places, and all others stay
pub record Puts (old : List ℕ) (from : ℕ) (new : List ℕ) (to : ℕ) (l : List Bool) : Type 0 where
  pub place : to ≡ from + length l
  pub written : bits new ≡ put_bits (bits old) from l

-- the same from where a writer is, and between where it was and is
abbrev pub HasRoomAt : List ℕ → BitWriter → List Bool → Type 0
HasRoomAt out to l = HasRoom out to.place l

abbrev pub PutsAt : List ℕ → BitWriter → List ℕ → BitWriter → List Bool → Type 0
PutsAt old from new to l = Puts old from.place new to.place l

-- items behind their length field
abbrev pub counted_items : Sch → ℕ → Vals → List Bool
counted_items s cap vs = bits_of (length_field_bits cap) (count vs) ++ each (part_bits s) vs

-- a part behind the zeros in front of it, at a place
abbrev pub led_part : Sch → ℕ → Val → List Bool
led_part s p v = lead (is_aligned s) p ++ part_bits s v

-- a variant behind its tag
abbrev pub tagged_bits : Flds → ℕ → Val → List Bool
tagged_bits fs tag v = bits_of (tag_bits (variants fs)) tag ++ variant_bits fs tag v
