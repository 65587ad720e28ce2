-- What a field or a body of the code stands for.
use Rattle.std.specs.Prelude.{ℕ}
use Rattle.dsdl_types.specs.Schemas.{PFloat, PUint, Sch, Simple, Struct, Union}
use Rattle.dsdl_types.specs.Views.{body_of, is_saturated, named, type_of}
use Rattle.dsdl_types.specs.declared.schema.Body.{Body}
use Rattle.dsdl_types.specs.declared.schema.Cast.{Cast}
use Rattle.dsdl_types.specs.declared.schema.Field.{Field}

-- the type of a field or a variant
abbrev pub type_in : Field → Sch
type_in field = type_of (named field).1

-- a union of these variants
abbrev pub union_of : Body → Sch
union_of body = Union (body_of body).0 (body_of body).1

-- a structure of these fields
abbrev pub struct_of : Body → Sch
struct_of body = Struct (body_of body).0 (body_of body).1

abbrev pub uint_of : ℕ → Cast → Sch
uint_of bits cast = Simple (PUint bits (is_saturated cast))

abbrev pub float_of : ℕ → Cast → Sch
float_of bits cast = Simple (PFloat bits (is_saturated cast))
