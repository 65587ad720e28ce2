-- The variant of which the text was put.
use Rattle.std.proofs.Common.{◌≡◌, ◌∙◌, ℕ, zero, suc, ◌+◌, ◌-◌, ◌<◌, ◌≤◌, Bool, true, false, List, ◌++◌, length, drop, get_or, take, refl, sym, ap, arith}
use Rattle.std.proofs.lemmas.Bool.{false≢true}
use Rattle.std.proofs.lemmas.List.{append-nil}
use Rattle.std.specs.Prelude.{codes}
use Rattle.cy_bits.specs.Bits.{number, gap}
use Rattle.dsdl_types.specs.Reading.{Name, under, part, variant}
use Rattle.dsdl_types.specs.Schemas.{Flds, Outline, tag_bits, variants}
use Rattle.dsdl_types.specs.Schemas as D
use Rattle.dsdl_types.specs.Views.{Kind, Typed, Padding, is_padding, type_of, with_field, named, flds}
use Rattle.dsdl_types.specs.declared.schema.Field.{Field as F}
use Rattle.wire_values.proofs.Readings.{own_tagged}
use Rattle.wire_values.proofs.Schemata.{flds_next}
use Rattle.value_text.proofs.Rest.{regroup}
use Rattle.value_text.specs.Texts.{value_text, variant_text}
use Rattle.value_text.specs.Words.{entry, lead}
use Rattle.value_put.specs.Parts.{own_told, part_told, variant_told}
use Rattle.value_put.specs.Told.{Told, Yes, told, after}
use Rattle.value_put.proofs.Readings.{enclosed, was_read}

-- a union
pub told_union : (fs : Flds) (o : Outline) (w n p k q j : ℕ) (x z y u : List Bool) (old front mid new : List ℕ) → w ≡ tag_bits (variants fs) → n ≡ number (take w x) → k ≡ p + w → z ≡ drop w x →
    front ≡ old ++ codes "{" → after front (variant_told fs n n k z) ≡ Yes mid q y → j ≡ q + gap q → u ≡ drop (gap q) y → new ≡ mid ++ codes "}" →
    after old (own_told (D.Union fs o) p x) ≡ Yes new j u
told_union fs o w n p k q j x z y u old front mid new is_w e f g in_front inner is_j is_u end =
    let r = was_read (λ v. variant_text fs n v) (variant fs n n k z) front mid q y inner in
    ap (λ v. after old (told (λ v. value_text (D.Union fs o) v) v)) (own_tagged fs o w n p k q j x z y u r.value is_w e f g r.got is_j is_u)
    ∙ ap (λ v. Yes v j u) (enclosed (codes "{") (codes "}") old front mid new (variant_text fs n r.value) in_front r.text end)

-- the variant of a tag is found
here_told : (name : List ℕ) (k : Kind) (fs : Flds) (tag p : ℕ) (x : List Bool) (old mid new : List ℕ) (q : ℕ) (y : List Bool) → is_padding k ≡ false →
    mid ≡ (old ++ name) ++ codes ": " → after mid (part_told (type_of k) p x) ≡ Yes new q y →
    after old (variant_told (with_field name k fs) tag 0 p x) ≡ Yes new q y
here_told name (Padding n) fs tag p x old mid new q y h e inner = absurd (false≢true (sym h))
here_told name (Typed s) fs tag p x old mid new q y h e inner =
    let r = was_read (λ v. value_text s v) (part s p x) mid new q y inner in
    ap (λ u. after old (told (λ v. entry name (value_text s v)) (under (Name name) u))) r.got
    ∙ ap (λ u. Yes u q y) (
    sym (regroup old name (codes ": " ++ value_text s r.value))
    ∙ sym (regroup (old ++ name) (codes ": ") (value_text s r.value))
    ∙ ap (λ u. u ++ value_text s r.value) (sym e)
    ∙ sym r.text)

pub told_here : (items : List F) (i : ℕ) (f : F) (tag left p : ℕ) (x : List Bool) (old mid new : List ℕ) (q : ℕ) (y : List Bool) (all : Told) → i < length items → f ≡ get_or items i f → is_padding (named f).1 ≡ false → left ≡ 0 →
    mid ≡ ((old ++ lead true) ++ (named f).0) ++ codes ": " → after mid (part_told (type_of (named f).1) p x) ≡ Yes new q y →
    after old (variant_told (flds (drop i items)) tag left p x) ≡ all → all ≡ Yes new q y
told_here items i f tag left p x old mid new q y all h at typed z e inner inv =
    sym inv
    ∙ ap (λ fs. after old (variant_told fs tag left p x)) (flds_next items i f h at)
    ∙ ap (λ m. after old (variant_told (with_field (named f).0 (named f).1 (flds (drop (i + 1) items))) tag m p x)) z
    ∙ here_told (named f).0 (named f).1 (flds (drop (i + 1) items)) tag p x old mid new q y typed
    (e ∙ ap (λ u. (u ++ (named f).0) ++ codes ": ") (append-nil old)) inner

later_told : (name : List ℕ) (k : Kind) (fs : Flds) (tag left p : ℕ) (x : List Bool) → is_padding k ≡ false → 1 ≤ left →
    variant_told (with_field name k fs) tag left p x ≡ variant_told fs tag (left - 1) p x
later_told name (Padding n) fs tag left p x h one = absurd (false≢true (sym h))
later_told name (Typed s) fs tag zero p x h one = absurd (omega arith)
later_told name (Typed s) fs tag (suc left) p x h one = let e : left ≡ suc left - 1 = omega arith in ap (λ m. variant_told fs tag m p x) e

skip_told : (name : List ℕ) (k : Kind) (fs : Flds) (tag left p : ℕ) (x : List Bool) → is_padding k ≡ true →
    variant_told (with_field name k fs) tag left p x ≡ variant_told fs tag left p x
skip_told name (Padding n) fs tag left p x h = refl
skip_told name (Typed s) fs tag left p x h = absurd (false≢true h)

pub told_later : (items : List F) (i : ℕ) (f : F) (tag left p : ℕ) (x : List Bool) (old : List ℕ) (all : Told) → i < length items → f ≡ get_or items i f → is_padding (named f).1 ≡ false → 1 ≤ left →
    after old (variant_told (flds (drop i items)) tag left p x) ≡ all → after old (variant_told (flds (drop (i + 1) items)) tag (left - 1) p x) ≡ all
told_later items i f tag left p x old all h at typed one inv =
    ap (λ u. after old u) (sym (later_told (named f).0 (named f).1 (flds (drop (i + 1) items)) tag left p x typed one)
    ∙ ap (λ fs. variant_told fs tag left p x) (sym (flds_next items i f h at))) ∙ inv

pub told_skip : (items : List F) (i : ℕ) (f : F) (tag left p : ℕ) (x : List Bool) (old : List ℕ) (all : Told) → i < length items → f ≡ get_or items i f → is_padding (named f).1 ≡ true →
    after old (variant_told (flds (drop i items)) tag left p x) ≡ all → after old (variant_told (flds (drop (i + 1) items)) tag left p x) ≡ all
told_skip items i f tag left p x old all h at padding inv =
    ap (λ u. after old u) (sym (skip_told (named f).0 (named f).1 (flds (drop (i + 1) items)) tag left p x padding)
    ∙ ap (λ fs. variant_told fs tag left p x) (sym (flds_next items i f h at))) ∙ inv
