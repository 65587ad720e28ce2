-- Fields of the code, one behind another
use Rattle.std.proofs.Common.{◌≡◌, ◌∙◌, ℕ, List, [], ◌∷◌, ◌++◌, refl, ap, sym}
use Rattle.dsdl_types.specs.Schemas.{Flds}
use Rattle.dsdl_types.specs.Views.{Kind, Typed, Padding, flds, named, with_field}
use Rattle.dsdl_types.specs.declared.schema.Field.{Field}
use Rattle.std_types.specs.FieldRows.{and_field}

and_field_front : (name : List ℕ) (kind : Kind) (fs : Flds) (other : List ℕ) (last : Kind) →
    and_field (with_field name kind fs) other last ≡ with_field name kind (and_field fs other last)
and_field_front name (Typed s) fs other last = refl
and_field_front name (Padding n) fs other last = refl

pub flds_push : (fields : List Field) (f : Field) → flds (fields ++ f ∷ []) ≡ and_field (flds fields) (named f).0 (named f).1
flds_push [] f = refl
flds_push (g ∷ fields) f =
    ap (λ fs. with_field (named g).0 (named g).1 fs) (flds_push fields f)
    ∙ sym (and_field_front (named g).0 (named g).1 (flds fields) (named f).0 (named f).1)
