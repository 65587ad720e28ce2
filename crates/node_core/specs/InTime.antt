-- No session of a table heard anything later than a moment.
use Rattle.std.specs.Prelude.{ℕ}
use Rattle.rx_table.specs.InTime.{HeardBy-prop}
use Rattle.rx_table.specs.Table.{HeardBy, states}
use Rattle.rx_table.specs.declared.table.Table.{Table}
use Rattle.node_core.specs.declared.port_shape.PortShape.{PortShape}
use Rattle.node_core.specs.Shapes.{shape_extent}

-- no session of this table heard anything later
abbrev pub IsInTime : ℕ → Table PortShape → Type 0
IsInTime latest table = HeardBy latest (states shape_extent table.ports.items)

pub IsInTime-prop : (latest : ℕ) (table : Table PortShape) → IsProp (IsInTime latest table)
IsInTime-prop latest table = HeardBy-prop latest (states shape_extent table.ports.items)
