-- What is said of a type that an old or a new namespace has.
use Rattle.std.specs.Prelude.{if◌then◌else◌, Option, Some, None}
use Rattle.dsdl_types.specs.Schemas.{Sch}
use Rattle.dsdl_types.specs.Difference.{same, difference}
use Rattle.dsdl_types.specs.Views.{sch}
use Rattle.dsdl_types.specs.declared.schema.Schema.{Schema}
use Rattle.compat_check.specs.Verdicts.{verdict_of}
use Rattle.type_changes.specs.Names.{equal}
use Rattle.type_changes.specs.declared.change.Change.{Change}
use Rattle.type_changes.specs.declared.change.Change.TheVariants.{Same, Renamed, Compared, Added, Gone}

-- Of a new and an old schema: they are one, or one but for the names of fields; else the verdict on
-- the new one beside the old one.
abbrev pub compared : Sch → Sch → Change
compared new old =
    if equal new old then Same
    else (if same new old then Renamed else Compared (verdict_of (difference new old)))

-- the same of an old and a new schema that may be absent; nothing where both are
abbrev pub change_of : Option Schema → Option Schema → Option Change
change_of None None = None
change_of (Some old) None = Some Gone
change_of None (Some new) = Some Added
change_of (Some old) (Some new) = Some (compared (sch new) (sch old))
