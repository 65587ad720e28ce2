-- What a payload says (Cyphal Specification, section 3.7).
use Rattle.std.specs.Prelude.{◌≡◌, ◌≤◌, ◌+◌, ℕ, List, length, take, Option, Some, None}
use Rattle.cy_bits.specs.Bits.{bits}
use Rattle.dsdl_types.specs.Paths.{path_text}
use Rattle.dsdl_types.specs.Reading.{Read, Got, own}
use Rattle.dsdl_types.specs.Reading as read
use Rattle.dsdl_types.specs.Schemas.{Sch}
use Rattle.dsdl_types.specs.ValueOf.{value_of}
use Rattle.dsdl_types.specs.Values.{Val}
use Rattle.rx_session.specs.Extents.{bytes_of}
use Rattle.wire_values.specs.Results.{read_why}
use Rattle.value_text.specs.Texts.{value_text}
use Rattle.report_lines.specs.declared.line.Reading.{Reading}
use Rattle.report_lines.specs.declared.line.Reading.TheVariants.{Raw, Good, Bad}

-- what was read as a type: a value with its text, or the path and the cause of a refusal
abbrev pub of_read : Sch → Read Val → Reading
of_read s (Got v place rest) = Good (value_of v) (value_text s v)
of_read s (read.Bad path why) = Bad (path_text path) (read_why why)

-- A payload is read as its port's type. Zeros are read past its end, and bytes behind the type's
-- extent don't count.
-- Where there is no type, it is bytes.
abbrev pub reading_of : Option Sch → List ℕ → Reading
reading_of None payload = Raw
reading_of (Some s) payload = of_read s (own s 0 (bits (take (bytes_of s) payload)))

-- so many bytes of a payload are read as a type: the first of these, behind which sixteen more
-- stand
pub record IsKept (s : Sch) (payload : List ℕ) (count : ℕ) (bytes : List ℕ) : Type 0 where
  pub read : take count bytes ≡ take (bytes_of s) payload
  pub slack : count + 16 ≤ length bytes
