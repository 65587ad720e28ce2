-- The types of a plan's ports, and of a table's, and the schemas by which their payloads are
-- received.
use Rattle.std.specs.Prelude.{◌≡◌, ℕ, ◌&&◌, ◌==◌, if◌then◌else◌, List, [], ◌∷◌, map, Option, Some}
use Rattle.std.specs.Prelude.{None}
use Rattle.std.specs.Option.{option_and_then}
use Rattle.can_id.specs.declared.key.Key.{Key}
use Rattle.can_id.specs.declared.key.Kind.{Kind}
use Rattle.dsdl_types.specs.Schemas.{Sch}
use Rattle.rx_table.specs.Keys.{same_kind}
use Rattle.rx_table.specs.Table.{shape_at}
use Rattle.rx_table.specs.declared.table.Table.{Table}
use Rattle.node_plan.specs.Ports.{PlanPort, ports}
use Rattle.node_plan.specs.declared.plan.Plan.{Plan}
use Rattle.node_core.specs.Raw.{raw_schema}
use Rattle.node_core.specs.Shapes.{port_schema, port_type}
use Rattle.node_core.specs.declared.port_shape.PortShape.{PortShape}

-- that of the first of these ports that is of a kind and number; bytes have none
abbrev pub type_among : Kind → ℕ → List PlanPort → Option Sch
type_among kind port [] = None
type_among kind port (p ∷ ps) = if same_kind kind p.kind && (port == p.port) then p.type else type_among kind port ps

-- that of a plan's port
abbrev pub type_on : Plan → Key → Option Sch
type_on plan key = type_among key.kind key.port (ports plan)

-- that of a table's port
abbrev pub type_at : Table PortShape → Key → Option Sch
type_at table key = option_and_then port_type (shape_at key.kind key.port table.ports.items)

-- the schema by which payloads of this extent and type are received: the type, or where there is
-- none so many bytes
abbrev pub schema_by : ℕ → Option Sch → Sch
schema_by extent None = raw_schema extent
schema_by extent (Some type) = type

-- a table's ports have the types of these, in their order, and receive by their schemas
pub record HasTypes (ps : List PlanPort) (table : Table PortShape) : Type 0 where
  pub types : map (λ p. port_type p.shape) table.ports.items ≡ map (λ p. p.type) ps
  pub schemas : map (λ p. port_schema p.shape) table.ports.items ≡ map (λ p. schema_by p.extent p.type) ps
