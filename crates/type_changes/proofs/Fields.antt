-- The names of the fields of two composites, pair by pair.
use Rattle.std.proofs.Common.{◌≡◌, List, [], ◌∷◌, true, length, refl, sym, ap, ◌∙◌, arith, inl, inr, ◌⊎◌}
use Rattle.dsdl_types.specs.Schemas.{Flds, End, Pad, Field as F}
use Rattle.dsdl_types.specs.Views.{body_of, flds}
use Rattle.dsdl_types.specs.declared.schema.Body.{Body, out-Body}
use Rattle.dsdl_types.specs.declared.schema.Field.{Field}
use Rattle.dsdl_types.proofs.Views.{body_is}
use Rattle.type_changes.specs.Names.{same_field_names}

fields_of : (b : Body) → (body_of b).0 ≡ flds (out-Body b).fields
fields_of b = ap (λ x. x.0) (body_is b)

-- lists of the fields of two composites
pub names_of : (a b : Body) (xs ys : List Field) → xs ≡ (out-Body a).fields → ys ≡ (out-Body b).fields → same_field_names (flds xs) (flds ys) ≡ same_field_names (body_of a).0 (body_of b).0
names_of a b xs ys e f = λ i. same_field_names ((ap flds e ∙ sym (fields_of a)) i) ((ap flds f ∙ sym (fields_of b)) i)

none_old : (fs : Flds) → same_field_names fs End ≡ true
none_old End = refl
none_old (Pad n fs) = refl
none_old (F name s fs) = refl

-- no pair is left
pub names_end : (xs ys : List Field) → (length xs ≡ 0) ⊎ (length ys ≡ 0) → same_field_names (flds xs) (flds ys) ≡ true
names_end [] ys h = refl
names_end (x ∷ xs) [] h = none_old (flds (x ∷ xs))
names_end (x ∷ xs) (y ∷ ys) h = elim h [ inl z ↦ absurd (omega (arith, z)) | inr z ↦ absurd (omega (arith, z)) ]
