-- A table that has heard nothing.
use Rattle.std.specs.Prelude.{◌≡◌, ℕ, List, [], map}
use Rattle.can_id.specs.declared.key.Kind.{Kind}
use Rattle.node_plan.specs.Ports.{PlanPort}
use Rattle.rx_table.specs.Table.{states, StandsFor, subscribed}
use Rattle.rx_table.specs.declared.table.Table.{Table}
use Rattle.node_core.specs.declared.port_shape.PortShape.{PortShape}
use Rattle.node_core.specs.Heard.{table_port}
use Rattle.node_core.specs.Shapes.{port_type, shape_extent}
use Rattle.node_core.specs.Types.{HasTypes}

-- the port of a subscription with a shape
abbrev pub port_with : Kind → ℕ → ℕ → PortShape → PlanPort
port_with kind port sources shape = record {
  kind = kind;
  port = port;
  sources = sources;
  extent = shape_extent shape;
  type = port_type shape;
}

-- with this timeout, and these ports
pub record IsTableOf (timeout : ℕ) (ps : List PlanPort) (table : Table PortShape) : Type 0 where
  pub waits : table.timeout ≡ timeout
  pub ports_are : states shape_extent table.ports.items ≡ map subscribed (map table_port ps)
  pub types : HasTypes ps table
  pub stands : StandsFor timeout [] (states shape_extent table.ports.items)
