-- What a line says from a place on, and the bits that are put of it.
use Rattle.std.specs.Prelude.{◌≡◌, ℕ, ◌+◌, ◌-◌, Bool, true, false, List, ◌++◌, drop}
use Rattle.dsdl_types.specs.Encoding.{each, field_bits, own_bits, part_bits, variant_bits}
use Rattle.dsdl_types.specs.Fits.{AllOf, Fits, FitFields, FitsVariant}
use Rattle.dsdl_types.specs.Schemas.{Flds, Sch}
use Rattle.dsdl_types.specs.Values.{count}
use Rattle.value_text.specs.Texts.{array_text, field_texts, is_uint8, texts, value_text}
use Rattle.value_text.specs.Texts.{variant_text}
use Rattle.dsdl_types.specs.declared.schema.Field.{Field}
use Rattle.wire_values.specs.Reads.{in_front}
use Rattle.value_text.specs.Words.{following, separated}
use Rattle.value_scan.specs.Written.{written}
use Rattle.value_scan.specs.declared.bit_buffer.BitBuffer.{BitBuffer}

-- texts of which the first is the first of all, or follows others
abbrev pub rest_of : Bool → List (List ℕ) → List ℕ
rest_of true texts = separated texts
rest_of false texts = following texts

-- One of these is read of the line, and its bits are put.
pub record Scans {A : Type 0} (F : A → Type 0) (f : A → List ℕ) (g : A → List Bool)
    (before after : List ℕ) (old new : List Bool) : Type 0 where
  pub value : A
  pub fits : F value
  pub spelled : before ≡ f value ++ after
  pub put : new ≡ old ++ g value

abbrev pub IsScanned : {A : Type 0} → (A → Type 0) → (A → List ℕ) → (A → List Bool) → List ℕ → ℕ
    → BitBuffer → ℕ → BitBuffer → Type 0
IsScanned F f g line at out at' out' = Scans F f g (drop at line) (drop at' line) (written out) (written out')

abbrev pub IsOwn : Sch → List ℕ → ℕ → BitBuffer → ℕ → BitBuffer → Type 0
IsOwn s = IsScanned (λ v. Fits s v) (λ v. value_text s v) (λ v. own_bits s v)

abbrev pub IsPart : Sch → List ℕ → ℕ → BitBuffer → ℕ → BitBuffer → Type 0
IsPart s = IsScanned (λ v. Fits s v) (λ v. value_text s v) (λ v. part_bits s v)

-- fields, of which the first is the first of all or not, at a place of their structure
abbrev pub AreFields : Bool → Flds → ℕ → List ℕ → ℕ → BitBuffer → ℕ → BitBuffer → Type 0
AreFields first fs p = IsScanned (λ vs. FitFields fs vs) (λ vs. rest_of first (field_texts fs vs)) (λ vs. field_bits fs p vs)

-- whatever the values of the fields that are left, those of all are there
abbrev pub Leaves : (before after : List ℕ) (old new : List Bool) → Bool → Flds → ℕ → Bool → Flds
    → ℕ → Type 0
Leaves before after old new first fs p next rest q =
    (end : List ℕ) (all : List Bool) → Scans (λ vs. FitFields rest vs) (λ vs. rest_of next (field_texts rest vs)) (λ vs. field_bits rest q vs) after end new all
    → Scans (λ vs. FitFields fs vs) (λ vs. rest_of first (field_texts fs vs)) (λ vs. field_bits fs p vs) before end old all

-- One field more was read: the others are left, at places behind a start.
abbrev pub IsFieldScanned : Field → Bool → Bool → ℕ → List ℕ → ℕ → BitBuffer → ℕ → BitBuffer
    → Type 0
IsFieldScanned field first next start line at out at' out' =
    (fs : Flds) → Leaves (drop at line) (drop at' line) (written out) (written out') first (in_front field fs) (out.place - start) next fs (out'.place - start)

-- so many items, of which the first is the first of all or not
abbrev pub RowScans : Sch → Bool → ℕ → List ℕ → List ℕ → List Bool → List Bool → Type 0
RowScans s first n =
    Scans (λ vs. (count vs ≡ n) × AllOf (λ v. Fits s v) vs) (λ vs. rest_of first (texts (λ v. value_text s v) vs)) (λ vs. each (λ v. part_bits s v) vs)

-- so many items more, and all are there
abbrev pub LeavesRow : Sch → (before after : List ℕ) (old new : List Bool) → Bool → ℕ → Bool
    → Type 0
LeavesRow s before after old new first i next =
    (n : ℕ) (end : List ℕ) (all : List Bool) → RowScans s next n after end new all → RowScans s first (i + n) before end old all

abbrev pub IsRow : Sch → ℕ → List ℕ → ℕ → BitBuffer → ℕ → BitBuffer → Type 0
IsRow s n line at out at' out' = RowScans s true n (drop at line) (drop at' line) (written out) (written out')

-- an array of so many items
abbrev pub IsArray : Sch → ℕ → List ℕ → ℕ → BitBuffer → ℕ → BitBuffer → Type 0
IsArray s n line at out at' out' =
    Scans (λ vs. (count vs ≡ n) × AllOf (λ v. Fits s v) vs) (λ vs. array_text (is_uint8 s) (λ v. value_text s v) vs) (λ vs. each (λ v. part_bits s v) vs)
    (drop at line) (drop at' line) (written out) (written out')

-- the variant of a tag
abbrev pub VariantScans : Flds → ℕ → List ℕ → List ℕ → List Bool → List Bool → Type 0
VariantScans fs k = Scans (λ v. FitsVariant fs k v) (λ v. variant_text fs k v) (λ v. variant_bits fs k v)

-- what is one of these is one of those
abbrev pub LeavesVariant : Flds → ℕ → Flds → ℕ → Type 0
LeavesVariant fs tag rest k = (a b : List ℕ) (u v : List Bool) → VariantScans rest k a b u v → VariantScans fs tag a b u v

abbrev pub IsVariant : Flds → ℕ → List ℕ → ℕ → BitBuffer → ℕ → BitBuffer → Type 0
IsVariant fs k line at out at' out' = VariantScans fs k (drop at line) (drop at' line) (written out) (written out')
