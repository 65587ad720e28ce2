-- What is written and read.
use Rattle.std.specs.Prelude.{◌≡◌, ℕ, ◌-◌, List, length, Some, Result, Err}
use Rattle.dsdl_types.specs.Fits.{Fits}
use Rattle.dsdl_types.specs.Laws.{Unreadable, encoding, with_zeros}
use Rattle.dsdl_types.specs.Paths.{path_text}
use Rattle.dsdl_types.specs.Reading.{Step, Why}
use Rattle.dsdl_types.specs.Reading as cause
use Rattle.dsdl_types.specs.Schemas.{Sch}
use Rattle.dsdl_types.specs.Values.{Val}
use Rattle.dsdl_types.specs.Views.{why_of}
use Rattle.dsdl_types.specs.declared.read_why.ReadWhy.{ReadWhy}
use Rattle.dsdl_types.specs.declared.read_why.ReadWhy.TheVariants as why
use Rattle.dsdl_types.specs.declared.value.Value.{Value}
use Rattle.wire_values.specs.Misfits.{misfit}
use Rattle.wire_values.specs.declared.error.ReadError.{ReadError}
use Rattle.wire_values.specs.declared.error.ReadError.TheVariants.{Bad}
use Rattle.wire_values.specs.declared.error.WriteError.{WriteError}
use Rattle.wire_values.specs.declared.error.WriteError.TheVariants.{Misfit}

-- the value is one of the schema, and its serialized form of n bytes stands in front of the buffer,
-- with zeros behind
pub record IsWritten (s : Sch) (v : Val) (n : ℕ) (out : List ℕ) : Type 0 where
  pub fits : Fits s v
  pub size : n ≡ length (encoding s v)
  pub bytes : out ≡ with_zeros (encoding s v) (length out - n)

-- the path leads to the first part in writing order that isn't one of the schema
abbrev pub IsMisfit : Sch → Val → List ℕ → Type 0
IsMisfit s v path = (steps : List Step) × (misfit s v ≡ Some steps) × (path ≡ path_text steps)

-- a cause of the definitions as one of the code
abbrev pub read_why : Why → ReadWhy
read_why (cause.BadTag n) = why.BadTag n
read_why (cause.BadLength n) = why.BadLength n
read_why (cause.BadDelimiter n) = why.BadDelimiter n

-- the path and the cause are the first in reading order that refuse the bytes
abbrev pub IsRefused : Sch → List ℕ → List ℕ → ReadWhy → Type 0
IsRefused s b path why = (steps : List Step) × Unreadable s b steps (why_of why) × (path ≡ path_text steps)

-- The error Misfit comes only where there is one, and names the first.
abbrev pub NamesMisfit : Sch → Val → Result ℕ WriteError → Type 0
NamesMisfit s v result = (path : List ℕ) → result ≡ Err (Misfit path) → IsMisfit s v path

-- The error Bad comes only where bytes are refused, and names the first path and cause.
abbrev pub NamesRefusal : Sch → List ℕ → Result Value ReadError → Type 0
NamesRefusal s b result = (path : List ℕ) (why : ReadWhy) → result ≡ Err (Bad path why) → IsRefused s b path why
