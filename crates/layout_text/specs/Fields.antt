-- The lines of the fields of a composite.
use Rattle.std.specs.Prelude.{◌≡◌, ℕ, suc, Bool, true, false, List, [], ◌∷◌, ◌++◌, codes, decimal}
use Rattle.dsdl_types.specs.Schemas.{Sch, Simple, Fixed, Var, Struct, Union}
use Rattle.dsdl_types.specs.Lengths.{At, Size}
use Rattle.layout_text.specs.Sets.{IsSetText}
use Rattle.layout_text.specs.Words.{line_of, spaced}

abbrev pub is_union : Sch → Bool
is_union (Simple t) = false
is_union (Fixed s n) = false
is_union (Var s cap) = false
is_union (Struct fs o) = false
is_union (Union fs o) = true

-- of a field its name; of a variant its name and its tag
abbrev pub name_words : Bool → ℕ → List ℕ → List (List ℕ)
name_words true tag name = codes "variant" ∷ name ∷ decimal tag ∷ []
name_words false tag name = codes "field" ∷ name ∷ []

-- the line of a field or a variant, by its name, the text of its type, and those of where it stands
-- and of its lengths
abbrev pub field_line : Bool → ℕ → List ℕ → List ℕ → List ℕ → List ℕ → List ℕ
field_line union tag name type offsets sizes = spaced (name_words union tag name) ++ line_of (type ∷ codes "at" ∷ offsets ∷ codes "size" ∷ sizes ∷ [])

-- The line of field k of a composite, counted without padding, by its name and schema and the text
-- of its type: with the places where it can stand, and its lengths as a part. The tag of a variant
-- is its place.
pub record IsFieldLine (s : Sch) (k : ℕ) (field : List ℕ × Sch) (type line : List ℕ) : Type 0 where
  pub offsets : List ℕ
  pub sizes : List ℕ
  pub at : IsSetText (At s k) offsets
  pub size : IsSetText (Size field.1) sizes
  pub is : line ≡ field_line (is_union s) k field.0 type offsets sizes

-- a line for each field, from field k on, by the texts of their types
abbrev pub AreFieldLines : Sch → ℕ → List (List ℕ × Sch) → List (List ℕ) → List ℕ → Type 0
AreFieldLines s k [] [] text = text ≡ []
AreFieldLines s k [] (t ∷ ts) text = ⊥
AreFieldLines s k (f ∷ fs) [] text = ⊥
AreFieldLines s k (f ∷ fs) (t ∷ ts) text =
    (line : List ℕ) × (rest : List ℕ) × IsFieldLine s k f t line × AreFieldLines s (suc k) fs ts rest × (text ≡ line ++ rest)
