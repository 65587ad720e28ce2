-- What bits read as, put as JSON.
use Rattle.std.specs.Prelude.{◌≡◌, ℕ, suc, ◌==◌, Bool, true, false, List, [], codes}
use Rattle.dsdl_types.specs.Reading.{Read, Got, fields, own, part, row, variant}
use Rattle.dsdl_types.specs.Schemas.{Flds, Sch}
use Rattle.dsdl_types.specs.Values.{Val, Vals}
use Rattle.dsdl_types.specs.declared.schema.Field.{Field}
use Rattle.line_text.specs.Buffer.{text_of}
use Rattle.line_text.specs.declared.text_buffer.TextBuffer.{TextBuffer}
use Rattle.wire_values.specs.Reads.{behind, in_front, window_read}
use Rattle.value_text.specs.Texts.{is_uint8}
use Rattle.value_json.specs.Json.{array_json, field_members, json_of, texts, variant_member}
use Rattle.value_json.specs.Pieces.{Adds, Piece}
use Rattle.value_json.specs.Words.{are_printable, escaped, rest_of}
use Rattle.value_put.specs.Counted.{counted}
use Rattle.value_put.specs.declared.bits.Bits.{Bits}

-- A reading gives a value, whose text stands behind another, and goes on at this place with these
-- bits.
pub record Put {A : Type 0} (json : A → List Piece) (read : Read A) (old new : List ℕ) (place : ℕ)
    (rest : List Bool) : Type 0 where
  pub value : A
  pub got : read ≡ Got value place rest
  pub adds : Adds (json value) old new

-- what a definition reads from where a reader is
abbrev pub read_at : {A : Type 0} → (ℕ → List Bool → Read A) → Bits → Read A
read_at read at = read at.place (behind (counted at) at.place)

-- That was put, and the reader is behind it.
abbrev pub PutsRead : {A : Type 0} → (A → List Piece) → (ℕ → List Bool → Read A) → Bits
    → TextBuffer → Bits → TextBuffer → Type 0
PutsRead json read at text at' text' =
    Put json (read_at read at) (text_of text) (text_of text') at'.place
    (behind (counted at') at'.place)

-- a type by its own bits, as a part of another, and by the window of so many bytes
abbrev pub PutsOwn : Sch → Bits → TextBuffer → Bits → TextBuffer → Type 0
PutsOwn s = PutsRead (λ v. json_of s v) (own s)

abbrev pub PutsPart : Sch → Bits → TextBuffer → Bits → TextBuffer → Type 0
PutsPart s = PutsRead (λ v. json_of s v) (part s)

abbrev pub PutsWindow : Sch → ℕ → Bits → TextBuffer → Bits → TextBuffer → Type 0
PutsWindow s count = PutsRead (λ v. json_of s v) (window_read (own s) count)

-- Wherever what is left ends, all of it ends there.
abbrev pub Leaves : {A B : Type 0} → (A → List Piece) → Read A → List ℕ → (B → List Piece)
    → Read B → List ℕ → Type 0
Leaves all from old left now new =
    (end : List ℕ) (place : ℕ) (rest : List Bool) → Put left now new end place rest
    → Put all from old end place rest

-- what is in front of a part: a comma, but not in front of the first
abbrev pub comma : Bool → List ℕ
comma true = []
comma false = codes ","

-- the members of the fields that are left, of which the next is the first of all or not
abbrev pub members_of : Bool → Flds → Vals → List Piece
members_of first fs vs = rest_of first (field_members fs vs)

abbrev pub PutsFields : Bool → Flds → Bits → TextBuffer → Bits → TextBuffer → Type 0
PutsFields first fs = PutsRead (members_of first fs) (fields fs)

-- One field more was put: the others are left.
abbrev pub PutsField : Field → Bool → Bool → Bits → TextBuffer → Bits → TextBuffer → Type 0
PutsField field first next at text at' text' =
    (fs : Flds) → Leaves
    (members_of first (in_front field fs)) (read_at (fields (in_front field fs)) at) (text_of text)
    (members_of next fs) (read_at (fields fs) at') (text_of text')

-- so many items that are left of an array, of which the next has the number i
abbrev pub items_of : Sch → ℕ → Vals → List Piece
items_of s i vs = rest_of (i == 0) (texts (λ v. json_of s v) vs)

abbrev pub PutsRow : Sch → ℕ → ℕ → Bits → TextBuffer → Bits → TextBuffer → Type 0
PutsRow s n i = PutsRead (items_of s i) (row (part s) n i)

-- One item more was put: the others are left.
abbrev pub PutsItem : Sch → ℕ → Bits → TextBuffer → Bits → TextBuffer → Type 0
PutsItem s i at text at' text' =
    (n : ℕ) → Leaves (items_of s i) (read_at (row (part s) (suc n) i) at) (text_of text)
    (items_of s (suc i)) (read_at (row (part s) n (suc i)) at') (text_of text')

-- an array, and one of so many items
abbrev pub array_of : Sch → Vals → List Piece
array_of s vs = array_json (is_uint8 s) (λ v. json_of s v) vs

abbrev pub PutsArray : Sch → ℕ → Bits → TextBuffer → Bits → TextBuffer → Type 0
PutsArray s n = PutsRead (array_of s) (row (part s) n 0)

-- bytes that are all printable, of which none needs an escape
pub record IsPlain (bytes : List ℕ) : Type 0 where
  pub printable : are_printable bytes ≡ true
  pub same : escaped bytes ≡ bytes

-- the variant of a tag, where so many variants are left to skip
abbrev pub variant_of : Flds → ℕ → Val → List Piece
variant_of fs k v = variant_member fs k v

abbrev pub PutsVariant : Flds → ℕ → ℕ → Bits → TextBuffer → Bits → TextBuffer → Type 0
PutsVariant fs tag k = PutsRead (variant_of fs k) (variant fs tag k)
