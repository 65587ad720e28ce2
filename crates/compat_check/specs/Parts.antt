-- How two fields and two composites compare, by what they stand for.
use Rattle.std.specs.Prelude.{◌==◌, ℕ, Bool, false, List, [], Option, None}
use Rattle.dsdl_types.specs.Schemas.{Flds, Outline}
use Rattle.dsdl_types.specs.Difference as D
use Rattle.dsdl_types.specs.Difference.{Difference, Named, same, difference, here, unless, below}
use Rattle.dsdl_types.specs.Difference.{Count, outlined, same_fields, difference_fields}
use Rattle.dsdl_types.specs.Views.{Kind, Typed, Padding}

-- two fields are equal, names aside
abbrev pub same_kind : Kind → Kind → Bool
same_kind (Typed a) (Typed b) = same a b
same_kind (Padding n) (Padding m) = n == m
same_kind _ _ = false

-- the first difference of the types of two fields
abbrev pub kind_difference : Kind → Kind → Option Difference
kind_difference (Typed a) (Typed b) = difference a b
kind_difference (Padding n) (Padding m) = unless (n == m) D.Kind None
kind_difference _ _ = here D.Kind

-- the name of a field by what it stands for, which is empty for padding
abbrev pub name_by : List ℕ → Kind → List ℕ
name_by name (Typed s) = name
name_by name (Padding n) = []

-- the name of a field with what it stands for
abbrev pub name_of : List ℕ × Kind → List ℕ
name_of f = name_by f.0 f.1

-- the first difference of two fields, with the name of the new one
abbrev pub field_difference : List ℕ × Kind → List ℕ × Kind → Option Difference
field_difference f g = below (Named (name_of f)) (kind_difference f.1 g.1)

-- the first difference of two composites of one kind, by whether the number of fields is allowed
abbrev pub body_difference : Bool → Flds × Outline → Flds × Outline → Option Difference
body_difference enough new old = outlined new.1 old.1 (same_fields new.0 old.0)
    (unless enough Count (difference_fields new.0 old.0))
