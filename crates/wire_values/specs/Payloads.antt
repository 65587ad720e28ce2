-- What a payload is read as (Cyphal Specification, section 3.7).
use Rattle.std.specs.Prelude.{ℕ, ◌/◌, List, take, Option, Some, None}
use Rattle.cy_bits.specs.Bits.{bits}
use Rattle.dsdl_types.specs.Reading.{Read, Got, Bad, own}
use Rattle.dsdl_types.specs.Schemas.{Sch, extent_of}
use Rattle.dsdl_types.specs.Values.{Val}

abbrev pub value_in : Read Val → Option Val
value_in (Got v place rest) = Some v
value_in (Bad path why) = None

-- the value that a payload, cut to the type's extent, is read as, if it can be
unfoldable pub payload_value : Sch → List ℕ → Option Val
payload_value s payload = value_in (own s 0 (bits (take (extent_of s / 8) payload)))
