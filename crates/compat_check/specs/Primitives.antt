-- Types without parts.
use Rattle.std.specs.Prelude.{Bool, false, Option, Some, None}
use Rattle.dsdl_types.specs.Schemas.{Prim, PBool, PUint, PInt, PFloat, Sch, Simple, Fixed, Var}
use Rattle.dsdl_types.specs.Schemas.{Struct, Union}
use Rattle.dsdl_types.specs.Difference.{same_prim}
use Rattle.dsdl_types.specs.Views.{is_saturated}
use Rattle.compat_check.specs.declared.primitive.Primitive.{Primitive}
use Rattle.compat_check.specs.declared.primitive.Primitive.TheVariants as primitives

-- the primitive that a type is
abbrev pub simple : Sch → Option Prim
simple (Simple t) = Some t
simple (Fixed s n) = None
simple (Var s n) = None
simple (Struct fs o) = None
simple (Union fs o) = None

-- a primitive of the code as one of the definitions
abbrev pub prim_of : Primitive → Prim
prim_of primitives.Bool = PBool
prim_of (primitives.Uint bits cast) = PUint bits (is_saturated cast)
prim_of (primitives.Int bits) = PInt bits
prim_of (primitives.Float bits cast) = PFloat bits (is_saturated cast)

-- a primitive of the code that may be absent
abbrev pub simple_of : Option Primitive → Option Prim
simple_of None = None
simple_of (Some t) = Some (prim_of t)

-- both are primitives, and equal
abbrev pub same_simple : Option Prim → Option Prim → Bool
same_simple (Some t) (Some u) = same_prim t u
same_simple _ _ = false
