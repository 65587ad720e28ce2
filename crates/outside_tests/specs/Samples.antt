-- The schemas of the tests.
use Rattle.std.specs.Prelude.{ℕ, true, false, List, codes}
use Rattle.dsdl_types.specs.Schemas.{PUint, Sch, Flds, Outline, Simple, Struct, End, Field}

abbrev pub uint : ℕ → Sch
uint bits = Simple (PUint bits true)

-- a field of so many bits
abbrev pub with_uint : List ℕ → ℕ → Flds → Flds
with_uint name bits fs = Field name (uint bits) fs

abbrev pub sealed : ℕ → Outline
sealed extent = record { extent = extent; sealed = true }

abbrev pub delimited : ℕ → Outline
delimited extent = record { extent = extent; sealed = false }

-- `uint8 a`, with an extent of 64 bits
abbrev pub inner : Sch
inner = Struct (with_uint (codes "a") 8 End) (delimited 64)

-- this and `uint8 z`, with an extent of 128 bits
abbrev pub outer : Sch
outer = Struct (Field (codes "inner") inner (with_uint (codes "z") 8 End)) (delimited 128)

-- `uint8 a`, `truncated uint8 b`
abbrev pub numbers : Sch
numbers = Struct (with_uint (codes "a") 8 (Field (codes "b") (Simple (PUint 8 false)) End)) (sealed 16)
