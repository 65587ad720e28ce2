-- The fields of a composite, one behind another.
use Rattle.std.specs.Prelude.{ℕ, List}
use Rattle.dsdl_types.specs.Schemas.{Flds, End, Pad, Field}
use Rattle.dsdl_types.specs.Views.{Kind, with_field}

-- one more field, by its name and what its schema stands for, behind the others
abbrev pub and_field : Flds → List ℕ → Kind → Flds
and_field End name kind = with_field name kind End
and_field (Pad n fs) name kind = Pad n (and_field fs name kind)
and_field (Field other s fs) name kind = Field other s (and_field fs name kind)
