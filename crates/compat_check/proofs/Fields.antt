-- The fields of two composites, pair by pair
use Rattle.std.proofs.Common.{◌≡◌, ◌≢◌, ℕ, suc, ◌==◌, Bool, true, false, List, [], ◌∷◌, length, Option, None, Some, refl, sym, ap, ◌∙◌, arith, inl, inr, ◌⊎◌}
use Rattle.std.proofs.lemmas.Bool.{and_parts, cases_Bool}
use Rattle.dsdl_types.specs.Schemas.{Flds, End, Pad, Field as F, field_count}
use Rattle.dsdl_types.specs.Difference.{Difference, Turn, Item, Kind as Kinds, same, same_fields, below, unless, difference_fields}
use Rattle.dsdl_types.specs.Views.{Kind, Typed, Padding, body_of, with_field, named, flds}
use Rattle.dsdl_types.specs.declared.schema.Body.{Body, out-Body}
use Rattle.dsdl_types.specs.declared.schema.Field.{Field}
use Rattle.dsdl_types.proofs.Views.{body_is}

fields_of : (b : Body) → (body_of b).0 ≡ flds (out-Body b).fields
fields_of b = ap (λ x. x.0) (body_is b)

more_count : (name : List ℕ) (k : Kind) (fs : Flds) → field_count (with_field name k fs) ≡ suc (field_count fs)
more_count name (Typed s) fs = refl
more_count name (Padding n) fs = refl

count_is : (fields : List Field) → field_count (flds fields) ≡ length fields
count_is [] = refl
count_is (f ∷ fields) = more_count (named f).0 (named f).1 (flds fields) ∙ ap suc (count_is fields)

pub body_count : (b : Body) → field_count (body_of b).0 ≡ length (out-Body b).fields
body_count b = ap field_count (fields_of b) ∙ count_is (out-Body b).fields

same_count : (fs gs : Flds) → same_fields fs gs ≡ true → field_count fs ≡ field_count gs
same_count End End e = refl
same_count (Pad n fs) (Pad m gs) e = ap suc (same_count fs gs (and_parts (n == m) (same_fields fs gs) e).1)
same_count (F name a fs) (F name' b gs) e = ap suc (same_count fs gs (and_parts (same a b) (same_fields fs gs) e).1)
same_count fs gs e = cc

-- composites of other numbers of fields differ
pub unlike_counts : (a b : Body) → length (out-Body a).fields ≢ length (out-Body b).fields → false ≡ same_fields (body_of a).0 (body_of b).0
unlike_counts a b ne = elim (cases_Bool (same_fields (body_of a).0 (body_of b).0)) [
  | inl e ↦ absurd (ne (sym (body_count a) ∙ same_count (body_of a).0 (body_of b).0 e ∙ body_count b))
  | inr e ↦ sym e
]

-- lists of the fields of two composites
pub same_of : (a b : Body) (xs ys : List Field) → xs ≡ (out-Body a).fields → ys ≡ (out-Body b).fields → same_fields (flds xs) (flds ys) ≡ same_fields (body_of a).0 (body_of b).0
same_of a b xs ys e f = λ i. same_fields ((ap flds e ∙ sym (fields_of a)) i) ((ap flds f ∙ sym (fields_of b)) i)

pub difference_of : (a b : Body) (xs ys : List Field) → xs ≡ (out-Body a).fields → ys ≡ (out-Body b).fields →
    difference_fields (flds xs) (flds ys) ≡ difference_fields (body_of a).0 (body_of b).0
difference_of a b xs ys e f = λ i. difference_fields ((ap flds e ∙ sym (fields_of a)) i) ((ap flds f ∙ sym (fields_of b)) i)

-- no pair is left
pub same_end : (xs ys : List Field) → length xs ≡ length ys → (length xs ≡ 0) ⊎ (length ys ≡ 0) → same_fields (flds xs) (flds ys) ≡ true
same_end [] [] e h = refl
same_end [] (y ∷ ys) e h = absurd (omega (arith, e))
same_end (x ∷ xs) [] e h = absurd (omega (arith, e))
same_end (x ∷ xs) (y ∷ ys) e h = elim h [ inl z ↦ absurd (omega (arith, z)) | inr z ↦ absurd (omega (arith, z)) ]

none_old : (fs : Flds) → difference_fields fs End ≡ None
none_old End = refl
none_old (Pad n fs) = refl
none_old (F name s fs) = refl

pub difference_end : (xs ys : List Field) → (length xs ≡ 0) ⊎ (length ys ≡ 0) → difference_fields (flds xs) (flds ys) ≡ None
difference_end [] ys h = refl
difference_end (x ∷ xs) [] h = none_old (flds (x ∷ xs))
difference_end (x ∷ xs) (y ∷ ys) h = elim h [ inl z ↦ absurd (omega (arith, z)) | inr z ↦ absurd (omega (arith, z)) ]

-- a difference in a part is one of the whole
pub below_some : (t : Turn) (d : Option Difference) → d ≢ None → below t d ≢ None
below_some t None ne = ne
below_some t (Some d) ne = λ e. absurd cc

pub item_some : (as_long : Bool) (d : Option Difference) → d ≢ None → unless as_long Kinds (below Item d) ≢ None
item_some true d ne = below_some Item d ne
item_some false d ne = λ e. absurd cc
