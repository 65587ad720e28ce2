-- What the payloads of a port are.
use Rattle.std.specs.Prelude.{ℕ, Option, Some, None}
use Rattle.dsdl_types.specs.Schemas.{Sch}
use Rattle.dsdl_types.specs.Views.{sch}
use Rattle.rx_session.specs.Extents.{extent_bytes}
use Rattle.node_core.specs.declared.port_shape.PortShape.{PortShape}
use Rattle.node_core.specs.declared.port_shape.PortShape.TheVariants.{Raw, Compiled}

-- their data type
abbrev pub port_schema : PortShape → Sch
port_schema (Raw shape) = sch shape.schema
port_schema (Compiled shape) = sch shape.schema

-- the type that they are read as; bytes have none
abbrev pub port_type : PortShape → Option Sch
port_type (Raw shape) = None
port_type (Compiled shape) = Some (sch shape.schema)

-- the extent in bytes
abbrev pub shape_extent : PortShape → ℕ
shape_extent = extent_bytes port_schema
