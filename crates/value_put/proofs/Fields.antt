-- Fields of which the texts were put, one after the other.
use Rattle.std.proofs.Common.{◌≡◌, ◌∙◌, ℕ, ◌+◌, ◌<◌, ◌≤◌, Bool, true, false, List, ◌∷◌, ◌++◌, length, drop, get_or, refl, sym, ap, arith}
use Rattle.std.proofs.lemmas.Bool.{false≢true}
use Rattle.std.proofs.lemmas.List.{append-nil}
use Rattle.std.specs.Prelude.{codes}
use Rattle.dsdl_types.specs.Reading.{Read, Got, Bad, Name, and_then, under, fields, part}
use Rattle.dsdl_types.specs.Schemas.{Prim, Flds, Simple, End, Field, is_aligned}
use Rattle.dsdl_types.specs.Values.{Val, Vals, More}
use Rattle.dsdl_types.specs.Views.{Kind, Typed, Padding, is_padding, type_of, with_field, named, flds, body_of}
use Rattle.dsdl_types.specs.declared.schema.Field.{Field as F}
use Rattle.dsdl_types.specs.declared.schema.Body.{Body, out-Body}
use Rattle.wire_values.specs.Reads.{behind, skipped}
use Rattle.wire_values.proofs.Readings.{field_read, behind_more, then_fields}
use Rattle.wire_values.proofs.Schemata.{flds_next, flds_end, fields_are}
use Rattle.value_text.proofs.Rest.{regroup}
use Rattle.value_text.specs.Texts.{field_texts, value_text}
use Rattle.value_text.specs.Words.{entry, following, lead}
use Rattle.value_put.specs.Parts.{fields_told, own_told, part_told, rest_of}
use Rattle.value_put.specs.Told.{Told, Yes, told, after}
use Rattle.value_put.proofs.Readings.{was_read}

-- one more value, in front of others
pub told_push : (g h : Vals → List ℕ) (old new : List ℕ) (v : Val) (r : Read Vals) → ((vs : Vals) → old ++ g (More v vs) ≡ new ++ h vs) →
    after old (told g (and_then r (λ vs. Got (More v vs)))) ≡ after new (told h r)
told_push g h old new v (Got vs p x) f = ap (λ u. Yes u p x) (f vs)
told_push g h old new v (Bad path why) f = refl

pub rest_next : (b : Bool) (t : List ℕ) (ts : List (List ℕ)) → rest_of b (t ∷ ts) ≡ lead b ++ (t ++ following ts)
rest_next true t ts = refl
rest_next false t ts = refl

entry_written : (first : Bool) (old front mid new name t : List ℕ) (ts : List (List ℕ)) → front ≡ old ++ lead first → mid ≡ (front ++ name) ++ codes ": " → new ≡ mid ++ t →
    old ++ rest_of first (entry name t ∷ ts) ≡ new ++ following ts
entry_written first old front mid new name t ts e f g =
    ap (λ u. old ++ u) (rest_next first (entry name t) ts)
    ∙ sym (regroup old (lead first) (entry name t ++ following ts))
    ∙ ap (λ u. u ++ (entry name t ++ following ts)) (sym e)
    ∙ sym (regroup front (entry name t) (following ts))
    ∙ ap (λ u. u ++ following ts) (
    sym (regroup front name (codes ": " ++ t))
    ∙ sym (regroup (front ++ name) (codes ": ") t)
    ∙ ap (λ u. u ++ t) (sym f)
    ∙ sym g)

-- a field that isn't padding
pub told_field : (name : List ℕ) (k : Kind) (fs : Flds) (first : Bool) (b c d : List ℕ) (p q r : ℕ) (old front mid new : List ℕ) → is_padding k ≡ false → c ≡ b → q ≡ p + skipped (is_aligned (type_of k)) p →
    front ≡ old ++ lead first → mid ≡ (front ++ name) ++ codes ": " →
    after mid (part_told (type_of k) q (behind c q)) ≡ Yes new r (behind d r) →
    after old (fields_told first (with_field name k fs) p (behind b p)) ≡ after new (fields_told false fs r (behind d r))
told_field name (Padding n) fs first b c d p q r old front mid new h e f g j inner = absurd (false≢true (sym h))
told_field name (Typed s) fs first b c d p q r old front mid new h e f g j inner =
    let w = was_read (λ v. value_text s v) (part s q (behind c q)) mid new r (behind d r) inner in
    let texts : Vals → List ℕ = λ vs. rest_of first (field_texts (Field name s fs) vs) in
    ap (λ u. after old (told texts u)) (field_read name (Typed s) fs b c p q h e f)
    ∙ ap (λ u. after old (told texts (and_then (under (Name name) u) (then_fields fs)))) w.got
    ∙ told_push texts (λ vs. rest_of false (field_texts fs vs)) old new w.value (fields fs r (behind d r))
    (λ vs. entry_written first old front mid new name (value_text s w.value) (field_texts fs vs) g j w.text)

-- padding
pub told_padding : (name : List ℕ) (n : ℕ) (k : Kind) (fs : Flds) (first : Bool) (b c : List ℕ) (p q : ℕ) (old : List ℕ) → k ≡ Padding n → c ≡ b → q ≡ p + n →
    after old (fields_told first (with_field name k fs) p (behind b p)) ≡ after old (fields_told first fs q (behind c q))
told_padding name n k fs first b c p q old e f g =
    ap (λ z. after old (fields_told first (with_field name z fs) p (behind b p))) e
    ∙ (λ i. after old (fields_told first fs (sym g i) (sym (behind_more b c p q n f g) i)))

-- the loop over fields
pub told_next : (items : List F) (i : ℕ) (x : F) (first next : Bool) (old new : List ℕ) (p q : ℕ) (u y : List Bool) (all : Told) → i < length items → x ≡ get_or items i x →
    ((fs : Flds) → after old (fields_told first (with_field (named x).0 (named x).1 fs) p u) ≡ after new (fields_told next fs q y)) →
    after old (fields_told first (flds (drop i items)) p u) ≡ all → after new (fields_told next (flds (drop (i + 1) items)) q y) ≡ all
told_next items i x first next old new p q u y all h at goes inv =
    sym (goes (flds (drop (i + 1) items))) ∙ ap (λ fs. after old (fields_told first fs p u)) (sym (flds_next items i x h at)) ∙ inv

told_none : (first : Bool) (old : List ℕ) (p : ℕ) (u : List Bool) → after old (fields_told first End p u) ≡ Yes old p u
told_none true old p u = ap (λ z. Yes z p u) (append-nil old)
told_none false old p u = ap (λ z. Yes z p u) (append-nil old)

pub told_end : (body : Body) (items : List F) (i : ℕ) (first : Bool) (old new : List ℕ) (p q : ℕ) (x u : List Bool) → items ≡ (out-Body body).fields → length items ≤ i →
    after new (fields_told first (flds (drop i items)) q u) ≡ after old (fields_told true (flds items) p x) →
    after old (fields_told true (body_of body).0 p x) ≡ Yes new q u
told_end body items i first old new p q x u are h inv =
    ap (λ fs. after old (fields_told true fs p x)) (sym (fields_are body items are))
    ∙ sym inv
    ∙ ap (λ fs. after new (fields_told first fs q u)) (flds_end items i h)
    ∙ told_none first new q u

-- a primitive field, which begins where the one before ends
pub told_simple_field : (name : List ℕ) (k : Kind) (fs : Flds) (first : Bool) (b d : List ℕ) (p r : ℕ) (old front mid new : List ℕ) → is_padding k ≡ false → (t : Prim) × (type_of k ≡ Simple t) →
    front ≡ old ++ lead first → mid ≡ (front ++ name) ++ codes ": " →
    after mid (own_told (type_of k) p (behind b p)) ≡ Yes new r (behind d r) →
    after old (fields_told first (with_field name k fs) p (behind b p)) ≡ after new (fields_told false fs r (behind d r))
told_simple_field name (Padding n) fs first b d p r old front mid new h is g j inner = absurd (false≢true (sym h))
told_simple_field name (Typed s) fs first b d p r old front mid new h is g j inner =
    let e = is.1 in
    let here : p ≡ p + 0 = omega arith in
    ap (λ u. after old (fields_told first (with_field name (Typed u) fs) p (behind b p))) e
    ∙ told_field name (Typed (Simple is.0)) fs first b b d p p r old front mid new refl refl here g j
    (ap (λ u. after mid (own_told u p (behind b p))) (sym e) ∙ inner)
