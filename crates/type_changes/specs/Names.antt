-- Whether the fields of two types have the same names.
use Rattle.std.specs.Prelude.{ℕ, ◌&&◌, Bool, true, List}
use Rattle.std.specs.Str.{bytes_eq}
use Rattle.dsdl_types.specs.Schemas.{Sch, Flds, Fixed, Var, Struct, Union, Pad, Field}
use Rattle.dsdl_types.specs.Difference.{same}
use Rattle.dsdl_types.specs.Views.{Kind, Typed}

-- Of two types that are equal, names aside, the fields have the same names, at any depth.
abbrev mutual
  pub same_names : Sch → Sch → Bool
  same_names (Fixed a n) (Fixed b m) = same_names a b
  same_names (Var a n) (Var b m) = same_names a b
  same_names (Struct fs o) (Struct gs p) = same_field_names fs gs
  same_names (Union fs o) (Union gs p) = same_field_names fs gs
  same_names _ _ = true

  pub same_field_names : Flds → Flds → Bool
  same_field_names (Pad n fs) (Pad m gs) = same_field_names fs gs
  same_field_names (Pad n fs) (Field name b gs) = same_field_names fs gs
  same_field_names (Field name a fs) (Pad m gs) = same_field_names fs gs
  same_field_names (Field name a fs) (Field name' b gs) =
      (bytes_eq name name' && same_names a b) && same_field_names fs gs
  same_field_names _ _ = true

-- two fields have the same name, and so have the fields of their types
abbrev pub same_field : List ℕ × Kind → List ℕ × Kind → Bool
same_field (name, Typed a) (name', Typed b) = bytes_eq name name' && same_names a b
same_field f g = true

-- the two schemas are one, with the names of their fields
abbrev pub equal : Sch → Sch → Bool
equal a b = same a b && same_names a b
