-- What decoding a line gives: the text of the value that the bytes read as whose hex the line is
-- (Cyphal Specification, section 3.7).
use Rattle.std.specs.Prelude.{◌≡◌, ℕ, if◌then◌else◌, List, [], ◌∷◌, ◌++◌, Result, Ok, Err}
use Rattle.cy_bits.specs.Bits.{bits}
use Rattle.hex.specs.Hex.{decode_of}
use Rattle.hex.specs.declared.error.FromHexError.{FromHexError}
use Rattle.dsdl_types.specs.Paths.{path_text}
use Rattle.dsdl_types.specs.Reading.{Read, Got, Bad, own}
use Rattle.dsdl_types.specs.Schemas.{Sch}
use Rattle.dsdl_types.specs.Values.{Val}
use Rattle.wire_values.specs.Results.{read_why}
use Rattle.value_text.specs.Texts.{value_text}
use Rattle.value_lines.specs.LongLines.{is_long}
use Rattle.value_lines.specs.declared.refusal.Refusal.{Refusal}
use Rattle.value_lines.specs.declared.refusal.Refusal.TheVariants as refusal

-- the line of a value: its text
abbrev pub value_line : Sch → Val → List ℕ
value_line s v = value_text s v ++ 10 ∷ []

-- the answer to a line whose bytes read so: the value's line, or the first path and cause, in
-- reading order, that refuse them
abbrev pub read_answer : Sch → ℕ → Read Val → Result (List ℕ) Refusal
read_answer s n (Got v p rest) = Ok (value_line s v)
read_answer s n (Bad path cause) = Err (refusal.Unreadable n (path_text path) (read_why cause))

-- the answer to a line that is the hex of these bytes, or no hex; an empty line is the hex of none
abbrev pub bytes_answer : Sch → ℕ → Result (List ℕ) FromHexError → Result (List ℕ) Refusal
bytes_answer s n (Ok b) = read_answer s n (own s 0 (bits b))
bytes_answer s n (Err error) = Err (refusal.Text n)

-- what decoding answers to a line, by its number: a line that is too long is refused
abbrev pub decoded : Sch → ℕ → List ℕ → Result (List ℕ) Refusal
decoded s n line =
    if is_long line then Err (refusal.Text n) else bytes_answer s n (decode_of line)

-- the same as a relation, as `Encodes` is, and first of bytes alone
abbrev pub IsReadAnswer : Sch → ℕ → List ℕ → Result (List ℕ) Refusal → Type 0
IsReadAnswer s n b answer = answer ≡ read_answer s n (own s 0 (bits b))

abbrev pub Decodes : Sch → ℕ → List ℕ → Result (List ℕ) Refusal → Type 0
Decodes s n line answer = answer ≡ decoded s n line
