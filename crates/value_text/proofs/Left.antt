-- The values and fields that are left of several, and what is written of them.
use Rattle.std.proofs.Common.{◌≡◌, ◌∙◌, ◌⊎◌, inl, inr, ℕ, ◌+◌, ◌==◌, ◌<◌, ◌≤◌, false, List, ◌++◌, length, drop, get_or, Result, Ok, Err, OnOk, refl, sym, ap, subst, rules}
use Rattle.std.proofs.lemmas.List.{at_drop_more, drop_all}
use Rattle.std.proofs.lemmas.Bool.{false≢true}
use Rattle.dsdl_types.specs.Schemas.{Flds, Field as F, End}
use Rattle.dsdl_types.specs.Schemas as D
use Rattle.dsdl_types.specs.Values.{Val, Vals, Empty, More, Truth, Num, Raw, Items, Parts, Tagged, items_of}
use Rattle.dsdl_types.specs.Fits.{Fits, AllOf, AreItems}
use Rattle.dsdl_types.specs.Views.{Kind, Typed, Padding, is_padding, kind_of, sch, type_of, with_field, named, flds, val, vals, body_of}
use Rattle.dsdl_types.specs.declared.schema.Schema.{Schema}
use Rattle.dsdl_types.specs.declared.schema.Schema.TheVariants as S
use Rattle.dsdl_types.specs.declared.schema.Schema.TheFolds.{the_lemmas}
use Rattle.dsdl_types.specs.declared.schema.Body.{Body, out-Body}
use Rattle.dsdl_types.specs.declared.schema.Field.{Field}
use Rattle.dsdl_types.specs.declared.value.Value.{Value}
use Rattle.dsdl_types.proofs.Equations.{kind_fixed, kind_var}
use Rattle.dsdl_types.proofs.Views.{body_is}
use Rattle.value_text.specs.Words.{entry, separated}
use Rattle.value_text.specs.Texts.{array_text, field_texts, is_uint8, value_text, variant_text}
use Rattle.value_text.proofs.Rest.{rest_of, written_all}

pub vals_next : (items : List Value) (i : ℕ) (x : Value) → i < length items → x ≡ get_or items i x →
    vals (drop i items) ≡ More (val x) (vals (drop (i + 1) items))
vals_next items i x h e = at_drop_more vals items i x h ∙ ap (λ y. More (val y) (vals (drop (i + 1) items))) (sym e)

pub vals_end : (items : List Value) (i : ℕ) → length items ≤ i → vals (drop i items) ≡ Empty
vals_end items i h = ap vals (drop_all i items h)

pub flds_next : (items : List Field) (i : ℕ) (x : Field) → i < length items → x ≡ get_or items i x →
    flds (drop i items) ≡ with_field (named x).0 (named x).1 (flds (drop (i + 1) items))
flds_next items i x h e =
    at_drop_more flds items i x h ∙ ap (λ y. with_field (named y).0 (named y).1 (flds (drop (i + 1) items))) (sym e)

pub flds_end : (items : List Field) (i : ℕ) → length items ≤ i → flds (drop i items) ≡ End
flds_end items i h = ap flds (drop_all i items h)

-- ---- an array

-- An array of the code has the items that its schema's item has as values, and their texts.
abbrev IsArray : Schema → Schema → Type 0
IsArray s item = ((n : ℕ) × s ≡ S.Fixed item n) ⊎ ((n : ℕ) × s ≡ S.Var item n)

pub fixed_is : (s item inner : Schema) (n : ℕ) → s ≡ S.Fixed item n → inner ≡ item → sch s ≡ D.Fixed (sch inner) n
fixed_is s item inner n e i = ap type_of (ap kind_of e ∙ kind_fixed item n) ∙ ap (λ x. D.Fixed (sch x) n) (sym i)

pub var_is : (s item inner : Schema) (n : ℕ) → s ≡ S.Var item n → inner ≡ item → sch s ≡ D.Var (sch inner) n
var_is s item inner n e i = ap type_of (ap kind_of e ∙ kind_var item n) ∙ ap (λ x. D.Var (sch x) n) (sym i)

pub union_is : (s : Schema) (b : Body) → s ≡ S.Union b → sch s ≡ D.Union (body_of b).0 (body_of b).1
union_is s b e = ap sch e ∙ search (rules, the_lemmas)

all_of : (N : ℕ → Type 0) (P : Val → Type 0) (v : Val) → AreItems N P v → AllOf P (items_of v)
all_of N P (Items vs) h = h.1
all_of N P (Truth b) h = absurd h
all_of N P (Num z) h = absurd h
all_of N P (Raw n) h = absurd h
all_of N P (Parts vs) h = absurd h
all_of N P (Tagged t v) h = absurd h

pub items_fit : (s item inner : Schema) (v : Val) (vs : Vals) → IsArray s item → inner ≡ item → Fits (sch s) v → vs ≡ items_of v → AllOf (λ x. Fits (sch inner) x) vs
items_fit s item inner v vs (inl (n, e)) i h f =
    subst (λ x. AllOf (λ y. Fits (sch inner) y) x) (sym f) (all_of (λ k. k ≡ n) (λ x. Fits (sch inner) x) v (subst (λ t. Fits t v) (fixed_is s item inner n e i) h))
items_fit s item inner v vs (inr (n, e)) i h f =
    subst (λ x. AllOf (λ y. Fits (sch inner) y) x) (sym f) (all_of (λ k. k ≤ n) (λ x. Fits (sch inner) x) v (subst (λ t. Fits t v) (var_is s item inner n e i) h))

array_is : (s item inner : Schema) (v : Val) → IsArray s item → inner ≡ item → value_text (sch s) v ≡ array_text (is_uint8 (sch inner)) (λ x. value_text (sch inner) x) (items_of v)
array_is s item inner v (inl (n, e)) i = ap (λ t. value_text t v) (fixed_is s item inner n e i)
array_is s item inner v (inr (n, e)) i = ap (λ t. value_text t v) (var_is s item inner n e i)

on_ok : {T E : Type 0} (r : Result T E) {A B : Type 0} → (A → B) → OnOk r A → OnOk r B
on_ok (Ok x) f h = f h
on_ok (Err x) f h = tt

pub array_written : {T E : Type 0} (r : Result T E) (s item inner : Schema) (v : Val) (vs : Vals) (old new : List ℕ) → IsArray s item → inner ≡ item → vs ≡ items_of v →
    OnOk r (new ≡ old ++ array_text (is_uint8 (sch inner)) (λ x. value_text (sch inner) x) vs) → OnOk r (new ≡ old ++ value_text (sch s) v)
array_written r s item inner v vs old new a i f h =
    on_ok r (λ e. e ∙ ap (λ x. old ++ array_text (is_uint8 (sch inner)) (λ y. value_text (sch inner) y) x) f ∙ ap (λ x. old ++ x) (sym (array_is s item inner v a i))) h

-- ---- fields

pub fields_are : (b : Body) (items : List Field) → items ≡ (out-Body b).fields → (body_of b).0 ≡ flds items
fields_are b items e = ap (λ x. x.0) (body_is b) ∙ ap flds (sym e)

pub fields_written : (b : Body) (items : List Field) (i next : ℕ) (values : List Value) (text old : List ℕ) → items ≡ (out-Body b).fields → length items ≤ i →
    text ++ rest_of (next == 0) (field_texts (flds (drop i items)) (vals (drop next values))) ≡ old ++ separated (field_texts (flds items) (vals values)) →
    text ≡ old ++ separated (field_texts (body_of b).0 (vals values))
fields_written b items i next values text old e end all =
    written_all (next == 0) text (old ++ separated (field_texts (body_of b).0 (vals values)))
    (ap (λ fs. text ++ rest_of (next == 0) (field_texts fs (vals (drop next values)))) (sym (flds_end items i end))
    ∙ all ∙ ap (λ fs. old ++ separated (field_texts fs (vals values))) (sym (fields_are b items e)))

first_variant : (name : List ℕ) (k : Kind) (fs : Flds) (v : Val) → is_padding k ≡ false → variant_text (with_field name k fs) 0 v ≡ entry name (value_text (type_of k) v)
first_variant name (Typed s) fs v h = refl
first_variant name (Padding n) fs v h = absurd (false≢true (sym h))

pub variant_written : {T E : Type 0} (r : Result T E) (b : Body) (items : List Field) (i : ℕ) (x : Field) (left tag : ℕ) (v : Val) (new text old : List ℕ) →
    text ≡ old → items ≡ (out-Body b).fields → i < length items → x ≡ get_or items i x → left ≡ 0 → is_padding (named x).1 ≡ false →
    variant_text (flds (drop i items)) left v ≡ variant_text (flds items) tag v →
    OnOk r (new ≡ text ++ entry (named x).0 (value_text (type_of (named x).1) v)) → OnOk r (new ≡ old ++ variant_text (body_of b).0 tag v)
variant_written r b items i x left tag v new text old so_far e lt at z typed same h =
    on_ok r (λ w. w ∙ ap (λ y. y ++ entry (named x).0 (value_text (type_of (named x).1) v)) so_far ∙ ap (λ y. old ++ y) (
    sym (first_variant (named x).0 (named x).1 (flds (drop (i + 1) items)) v typed)
    ∙ ap (λ k. variant_text (with_field (named x).0 (named x).1 (flds (drop (i + 1) items))) k v) (sym z)
    ∙ ap (λ fs. variant_text fs left v) (sym (flds_next items i x lt at))
    ∙ same
    ∙ ap (λ fs. variant_text fs tag v) (sym (fields_are b items e)))) h
