-- A body of the code as a structure or a union of the definitions.
use Rattle.dsdl_types.specs.Schemas.{Sch, Struct, Union}
use Rattle.dsdl_types.specs.Views.{body_of}
use Rattle.dsdl_types.specs.declared.schema.Body.{Body}

abbrev pub struct_of : Body → Sch
struct_of b = Struct (body_of b).0 (body_of b).1

abbrev pub union_of : Body → Sch
union_of b = Union (body_of b).0 (body_of b).1
