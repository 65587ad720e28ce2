-- The standard types of ports.
use Rattle.dsdl_types.specs.Schemas.{Sch}
use Rattle.dsdl_types.specs.Views.{sch}
use Rattle.std_types.specs.declared.shape.StdType.{StdType}

abbrev pub type_schema : StdType → Sch
type_schema standard = sch standard.schema
