-- The extent of a shape in bytes.
use Rattle.std.specs.Prelude.{ℕ, ◌/◌}
use Rattle.dsdl_types.specs.Schemas.{Sch, extent_of}

-- that of a schema
abbrev pub bytes_of : Sch → ℕ
bytes_of s = extent_of s / 8

-- that of what has a schema
abbrev pub extent_bytes : {S : Type 0} → (S → Sch) → S → ℕ
extent_bytes shape s = bytes_of (shape s)
