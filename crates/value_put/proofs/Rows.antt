-- Items of which the texts were put, one after the other.
use Rattle.std.proofs.Common.{◌≡◌, ◌∙◌, ℕ, suc, ◌+◌, ◌-◌, ◌<◌, ◌≤◌, ◌==◌, Bool, true, false, List, [], ◌++◌, drop, take, refl, sym, ap, arith, rules}
use Rattle.std.proofs.lemmas.List.{append-nil}
use Rattle.std.specs.Prelude.{codes}
use Rattle.cy_bits.specs.Bits.{number}
use Rattle.dsdl_types.specs.Reading.{Read, Got, Bad, Index, and_then, under, part, row}
use Rattle.dsdl_types.specs.Schemas.{length_field_bits}
use Rattle.dsdl_types.specs.Schemas as D
use Rattle.dsdl_types.specs.Values.{Vals, More, Items, items_of}
use Rattle.wire_values.proofs.Readings.{own_var}
use Rattle.value_text.proofs.Rest.{regroup}
use Rattle.value_text.specs.Texts.{array_text, is_uint8, texts, value_text}
use Rattle.value_text.specs.Words.{following, lead, separated}
use Rattle.value_put.specs.Parts.{array_told, own_told, part_told, rest_of, row_told}
use Rattle.value_put.specs.Told.{Told, Yes, told, after}
use Rattle.value_put.proofs.Fields.{rest_next, told_push}
use Rattle.value_put.proofs.Readings.{enclosed, was_read}

-- what is read of an array is told by its items
told_items : (f : Vals → List ℕ) (old : List ℕ) (r : Read Vals) → after old (told (λ v. f (items_of v)) (and_then r (λ vs. Got (Items vs)))) ≡ after old (told f r)
told_items f old (Got vs p x) = refl
told_items f old (Bad path why) = refl

pub told_fixed : (s : D.Sch) (n : ℕ) (old : List ℕ) (p : ℕ) (x : List Bool) →
    after old (own_told (D.Fixed s n) p x) ≡ after old (array_told s n p x)
told_fixed s n old p x = told_items (λ vs. array_text (is_uint8 s) (λ v. value_text s v) vs) old (row (part s) n 0 p x)

pub told_var : (s : D.Sch) (c w n p k : ℕ) (x z : List Bool) (old new : List ℕ) (q : ℕ) (y : List Bool) → w ≡ length_field_bits c → n ≡ number (take w x) → k ≡ p + w → z ≡ drop w x → n ≤ c →
    after old (array_told s n k z) ≡ Yes new q y →
    after old (own_told (D.Var s c) p x) ≡ Yes new q y
told_var s c w n p k x z old new q y is_w e f g short h =
    let r = was_read (λ vs. array_text (is_uint8 s) (λ v. value_text s v) vs) (row (part s) n 0 k z) old new q y h in
    ap (λ u. after old (told (λ v. value_text (D.Var s c) v) u)) (own_var s c w n p k q x z y r.value is_w e f g short r.got)
    ∙ ap (λ u. Yes u q y) (sym r.text)

-- an array that isn't of bytes
pub told_brackets : (s : D.Sch) (n : ℕ) (old front mid new : List ℕ) (p q : ℕ) (x y : List Bool) → is_uint8 s ≡ false → front ≡ old ++ codes "[" →
    after front (row_told s n 0 p x) ≡ Yes mid q y → new ≡ mid ++ codes "]" → after old (array_told s n p x) ≡ Yes new q y
told_brackets s n old front mid new p q x y other e inner f =
    let r = was_read (λ vs. separated (texts (λ v. value_text s v) vs)) (row (part s) n 0 p x) front mid q y inner in
    ap (λ u. after old (told (λ vs. array_text (is_uint8 s) (λ v. value_text s v) vs) u)) r.got
    ∙ ap (λ b. Yes (old ++ array_text b (λ v. value_text s v) r.value) q y) other
    ∙ ap (λ u. Yes u q y) (enclosed (codes "[") (codes "]") old front mid new (separated (texts (λ v. value_text s v) r.value)) e r.text f)

pub later_index : (i : ℕ) → (suc i == 0) ≡ false
later_index i = search rules

-- one more item
pub told_item : (s : D.Sch) (n i : ℕ) (p q : ℕ) (x y : List Bool) (old front new : List ℕ) → front ≡ old ++ lead (i == 0) →
    after front (part_told s p x) ≡ Yes new q y →
    after old (row_told s (suc n) i p x) ≡ after new (row_told s n (suc i) q y)
told_item s n i p q x y old front new e inner =
    let w = was_read (λ v. value_text s v) (part s p x) front new q y inner in
    let g : Vals → List ℕ = λ vs. rest_of (i == 0) (texts (λ v. value_text s v) vs) in
    ap (λ u. after old (told g (and_then (under (Index i) u) (λ v q more. and_then (row (part s) n (suc i) q more) (λ vs. Got (More v vs)))))) w.got
    ∙ told_push g (λ vs. rest_of false (texts (λ v. value_text s v) vs)) old new w.value (row (part s) n (suc i) q y)
    (λ vs. ap (λ u. old ++ u) (rest_next (i == 0) (value_text s w.value) (texts (λ v. value_text s v) vs))
    ∙ sym (regroup old (lead (i == 0)) (value_text s w.value ++ following (texts (λ v. value_text s v) vs)))
    ∙ ap (λ u. u ++ (value_text s w.value ++ following (texts (λ v. value_text s v) vs))) (sym e)
    ∙ sym (regroup front (value_text s w.value) (following (texts (λ v. value_text s v) vs)))
    ∙ ap (λ u. u ++ following (texts (λ v. value_text s v) vs)) (sym w.text))
    ∙ ap (λ b. after new (told (λ vs. rest_of b (texts (λ v. value_text s v) vs)) (row (part s) n (suc i) q y))) (sym (later_index i))

pub row_start : (s : D.Sch) (n : ℕ) (old : List ℕ) (p : ℕ) (x : List Bool) → after old (row_told s (n - 0) 0 p x) ≡ after old (row_told s n 0 p x)
row_start s n old p x = let z : n - 0 ≡ n = omega arith in ap (λ m. after old (row_told s m 0 p x)) z

pub row_next : (s : D.Sch) (n i : ℕ) (old new : List ℕ) (p q : ℕ) (x y : List Bool) (all : Told) → i < n →
    ((m : ℕ) → after old (row_told s (suc m) i p x) ≡ after new (row_told s m (suc i) q y)) →
    after old (row_told s (n - i) i p x) ≡ all → after new (row_told s (n - (i + 1)) (i + 1) q y) ≡ all
row_next s n i old new p q x y all h goes inv =
    let a : i + 1 ≡ suc i = omega arith in
    let b : suc (n - (i + 1)) ≡ n - i = omega arith in
    ap (λ j. after new (row_told s (n - (i + 1)) j q y)) a ∙ sym (goes (n - (i + 1))) ∙ ap (λ m. after old (row_told s m i p x)) b ∙ inv

row_none : (s : D.Sch) (b : Bool) (old : List ℕ) → old ++ rest_of b [] ≡ old
row_none s true old = append-nil old
row_none s false old = append-nil old

pub row_end : (s : D.Sch) (n i : ℕ) (old new : List ℕ) (p q : ℕ) (x y : List Bool) → n ≤ i →
    after new (row_told s (n - i) i q y) ≡ after old (row_told s n 0 p x) → after old (row_told s n 0 p x) ≡ Yes new q y
row_end s n i old new p q x y h inv =
    let z : n - i ≡ 0 = omega arith in
    sym inv ∙ ap (λ m. after new (row_told s m i q y)) z ∙ ap (λ u. Yes u q y) (row_none s (i == 0) new)
