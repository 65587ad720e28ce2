-- What is told of each kind of type, and of what is left of one (Cyphal Specification, section
-- 3.7).
use Rattle.std.specs.Prelude.{◌≡◌, ℕ, suc, ◌==◌, Bool, true, false, List}
use Rattle.dsdl_types.specs.Reading.{fields, own, part, row, variant}
use Rattle.dsdl_types.specs.Schemas.{Flds, Sch, Simple}
use Rattle.dsdl_types.specs.declared.schema.Field.{Field}
use Rattle.line_text.specs.declared.text_buffer.TextBuffer.{TextBuffer}
use Rattle.wire_values.specs.Reads.{in_front, window_read}
use Rattle.value_text.specs.Texts.{array_text, field_texts, is_uint8, texts, value_text}
use Rattle.value_text.specs.Texts.{variant_text}
use Rattle.value_text.specs.Words.{separated, following}
use Rattle.value_put.specs.Told.{Told, told, told_at}
use Rattle.value_put.specs.declared.bits.Bits.{Bits}

-- a type by its own bits, and as a part of another
abbrev pub own_told : Sch → ℕ → List Bool → Told
own_told s p x = told (λ v. value_text s v) (own s p x)

abbrev pub part_told : Sch → ℕ → List Bool → Told
part_told s p x = told (λ v. value_text s v) (part s p x)

-- a type by the window of so many bytes
abbrev pub window_told : Sch → ℕ → ℕ → List Bool → Told
window_told s count p x = told (λ v. value_text s v) (window_read (own s) count p x)

-- whether a type is a primitive
abbrev pub is_simple : Sch → Bool
is_simple (Simple t) = true
is_simple _ = false

-- texts of which the first is the first of all, or follows others
abbrev pub rest_of : Bool → List (List ℕ) → List ℕ
rest_of true texts = separated texts
rest_of false texts = following texts

-- the fields that are left, where the next is the first of all or not
abbrev pub fields_told : Bool → Flds → ℕ → List Bool → Told
fields_told first fs p x = told (λ vs. rest_of first (field_texts fs vs)) (fields fs p x)

-- One field more was put: the others are left.
abbrev pub PutsField : Field → Bool → Bool → Bits → TextBuffer → Bits → TextBuffer → Type 0
PutsField field first next at text at' text' =
    (fs : Flds) → told_at (fields_told first (in_front field fs)) at text ≡ told_at (fields_told next fs) at' text'

-- so many items that are left of an array, of which the next has the number i
abbrev pub row_told : Sch → ℕ → ℕ → ℕ → List Bool → Told
row_told s n i p x = told (λ vs. rest_of (i == 0) (texts (λ v. value_text s v) vs)) (row (part s) n i p x)

-- One item more was put: the others are left.
abbrev pub PutsItem : Sch → ℕ → Bits → TextBuffer → Bits → TextBuffer → Type 0
PutsItem s i at text at' text' =
    (n : ℕ) → told_at (row_told s (suc n) i) at text ≡ told_at (row_told s n (suc i)) at' text'

-- an array of so many items
abbrev pub array_told : Sch → ℕ → ℕ → List Bool → Told
array_told s n p x = told (λ vs. array_text (is_uint8 s) (λ v. value_text s v) vs) (row (part s) n 0 p x)

-- the variant of a tag, where so many variants are left to skip
abbrev pub variant_told : Flds → ℕ → ℕ → ℕ → List Bool → Told
variant_told fs tag k p x = told (λ v. variant_text fs k v) (variant fs tag k p x)
