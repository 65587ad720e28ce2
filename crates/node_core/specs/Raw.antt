-- Raw bytes as a data type.
use Rattle.std.specs.Prelude.{ℕ, ◌*◌, ◌==◌, true, if◌then◌else◌, codes}
use Rattle.dsdl_types.specs.Schemas.{Sch, Flds, PUint, Simple, Fixed, Struct, End, Field}

-- the fields: one array of so many bytes, or none where there is no byte
abbrev pub raw_fields : ℕ → Flds
raw_fields n = if n == 0 then End else Field (codes "value") (Fixed (Simple (PUint 8 true)) n) End

-- a sealed structure of them
abbrev pub raw_schema : ℕ → Sch
raw_schema n = Struct (raw_fields n) (record { extent = 8 * n; sealed = true })
