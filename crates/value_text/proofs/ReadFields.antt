-- The fields of a structure, as they are read one by one.
use Rattle.std.proofs.Common.{◌≡◌, ◌∙◌, ℕ, suc, ◌+◌, ◌==◌, ◌<◌, ◌≤◌, Bool, false, List, [], ◌∷◌, ◌++◌, length, get_or, drop, refl, sym, ap, subst, arith}
use Rattle.std.proofs.lemmas.List.{drop_at}
use Rattle.std.proofs.lemmas.Bool.{false≢true}
use Rattle.std.proofs.lemmas.Bool.Decides.{nat_tests}
use Rattle.dsdl_types.specs.Fits.{Fits, FitFields}
use Rattle.dsdl_types.specs.Schemas.{Flds, End}
use Rattle.dsdl_types.specs.Values.{Vals, Empty, More, join, first, others}
use Rattle.dsdl_types.specs.Views.{Kind, Typed, Padding, is_padding, type_of, with_field, named, flds, val, vals, body_of}
use Rattle.dsdl_types.specs.declared.schema.Body.{Body, out-Body}
use Rattle.dsdl_types.specs.declared.schema.Field.{Field}
use Rattle.dsdl_types.specs.declared.value.Value.{Value}
use Rattle.dsdl_types.proofs.Views.{join_none, join_push}
use Rattle.value_text.specs.Loose.{AreReadable, IsReadable, GivesEntry, GivesFields}
use Rattle.value_text.specs.Texts.{value_text, field_texts}
use Rattle.value_text.specs.Words.{entry, following, separated, lead}
use Rattle.value_text.proofs.Left.{flds_next, flds_end, fields_are}
use Rattle.value_text.proofs.OneValue.{ends_at, unwrap, none_left}
use Rattle.value_text.proofs.Rest.{rest_of}
use Rattle.value_text.proofs.ValueKinds.{is_empty, is_first}

-- the fields that are left, with a comma and a space in front of the first where it isn't the first of all
abbrev pub FieldsLeft : Flds → Vals → Bool → Flds → List ℕ → List ℕ → Type 0
FieldsLeft fs vs b gs before now =
    (ws : Vals) → FitFields fs ws → (rest : List ℕ) → before ≡ separated (field_texts fs ws) ++ 125 ∷ rest →
    (us : Vals) × (ws ≡ join vs us) × FitFields gs us × (now ≡ rest_of b (field_texts gs us) ++ 125 ∷ rest)

-- With values of the fields that are left, the values so far fit.
abbrev pub FieldsMade : Flds → Vals → Flds → Type 0
FieldsMade fs vs gs = (us : Vals) → FitFields gs us → FitFields fs (join vs us)

pub record FieldsRead (fs : Flds) (vs : Vals) (b : Bool) (gs : Flds) (before now : List ℕ) : Type 0 where
  pub rules : AreReadable gs
  pub made : FieldsMade fs vs gs
  pub left : FieldsLeft fs vs b gs before now

no_zero : (n : ℕ) → suc n == 0 ≡ false
no_zero n = grind (arith, nat_tests)

pub not_first : (values : List Value) (v : Value) → length (values ++ v ∷ []) == 0 ≡ false
not_first [] v = refl
not_first (x ∷ values) v = no_zero (length (values ++ v ∷ []))

pub entry_rules : (name : List ℕ) (k : Kind) (gs : Flds) → is_padding k ≡ false → AreReadable (with_field name k gs) → IsReadable (type_of k) × AreReadable gs
entry_rules name (Typed s) gs p r = ((r.0.0, r.1.0, r.2.0), (r.0.1, r.1.1, r.2.1))
entry_rules name (Padding n) gs p r = absurd (false≢true (sym p))

field_made : (fs : Flds) (values : List Value) (name : List ℕ) (k : Kind) (gs : Flds) (v : Value) → is_padding k ≡ false → Fits (type_of k) (val v) → FieldsMade fs (vals values) (with_field name k gs) → FieldsMade fs (vals (values ++ v ∷ [])) gs
field_made fs values name (Typed s) gs v p f made us g = subst (λ x. FitFields fs x) (sym (join_push values v us)) (made (More (val v) us) (f, g))
field_made fs values name (Padding n) gs v p f made us g = absurd (false≢true (sym p))

field_left : (fs : Flds) (values : List Value) (b : Bool) (name : List ℕ) (k : Kind) (gs : Flds) (v : Value) (before now then after : List ℕ) → is_padding k ≡ false →
    then ≡ drop (length (lead b)) now → GivesEntry name (type_of k) then after (val v) →
    FieldsLeft fs (vals values) b (with_field name k gs) before now → FieldsLeft fs (vals (values ++ v ∷ [])) false gs before after
field_left fs values b name (Padding n) gs v before now then after p skipped gives left ws f rest e = absurd (false≢true (sym p))
field_left fs values b name (Typed s) gs v before now then after p skipped gives left ws f rest e =
    let l = left ws f rest e in
    let x = is_first (λ v. Fits s v) (λ us. FitFields gs us) l.0 l.2 in
    let u = first l.0 in
    let us = others l.0 in
    let tail = following (field_texts gs us) ++ 125 ∷ rest in
    let w = l.3 ∙ unwrap b (entry name (value_text s u)) (field_texts gs us) (125 ∷ rest) in
    let at : then ≡ entry name (value_text s u) ++ tail = skipped ∙ ap (λ m. drop (length (lead b)) m) w ∙ drop_at (lead b) (entry name (value_text s u) ++ tail) (length (lead b)) refl in
    let r = gives.1 u x.1 tail (ends_at 125 (field_texts gs us) rest refl) at in
    (us, l.1 ∙ ap (λ y. join (vals values) y) x.0 ∙ ap (λ y. join (vals values) (More y us)) (sym r.0) ∙ sym (join_push values v us), x.2, r.1)

-- one more field
pub fields_next : (items : List Field) (i : ℕ) (x : Field) (values : List Value) (b c : Bool) (v : Value) (fs : Flds) (before now then after : List ℕ) → i < length items → x ≡ get_or items i x → is_padding (named x).1 ≡ false → c ≡ false →
    then ≡ drop (length (lead b)) now → GivesEntry (named x).0 (type_of (named x).1) then after (val v) →
    FieldsRead fs (vals values) b (flds (drop i items)) before now → FieldsRead fs (vals (values ++ v ∷ [])) c (flds (drop (i + 1) items)) before after
fields_next items i x values b c v fs before now then after h at p z skipped gives read =
    let gs = flds (drop (i + 1) items) in
    let r : FieldsRead fs (vals values) b (with_field (named x).0 (named x).1 gs) before now = subst (λ y. FieldsRead fs (vals values) b y before now) (flds_next items i x h at) read in
    subst (λ y. FieldsRead fs (vals (values ++ v ∷ [])) y gs before after) (sym z) (record {
      rules = (entry_rules (named x).0 (named x).1 gs p r.rules).1;
      made = field_made fs values (named x).0 (named x).1 gs v p gives.0 r.made;
      left = field_left fs values b (named x).0 (named x).1 gs v before now then after p skipped gives r.left;
    })

fields_end : (fs : Flds) (vs : Vals) (b : Bool) (before now : List ℕ) → FieldsRead fs vs b End before now → GivesFields fs before now vs
fields_end fs vs b before now r = (
  subst (λ x. FitFields fs x) (join_none vs) (r.made Empty tt),
  λ ws f rest e.
      let l = r.left ws f rest e in
      (sym (join_none vs) ∙ ap (λ x. join vs x) (sym (is_empty l.0 l.2)) ∙ sym l.1, l.3 ∙ none_left b 125 rest),
)

-- all fields
pub fields_all : (b : Body) (items : List Field) (i : ℕ) (vs : Vals) (c : Bool) (before now : List ℕ) → items ≡ (out-Body b).fields → length items ≤ i →
    FieldsRead (flds items) vs c (flds (drop i items)) before now → GivesFields (body_of b).0 before now vs
fields_all b items i vs c before now e end read =
    subst (λ fs. GivesFields fs before now vs) (sym (fields_are b items e))
    (fields_end (flds items) vs c before now (subst (λ gs. FieldsRead (flds items) vs c gs before now) (flds_end items i end) read))
