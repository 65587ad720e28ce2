-- No session of a table heard anything later than a moment.
use Rattle.std.specs.Prelude.{ℕ}
use Rattle.rx_table.specs.InTime.{HeardBy-prop}
use Rattle.rx_table.specs.Table.{HeardBy}
use Rattle.rx_table.specs.Views.{states_of}
use Rattle.rx_table.specs.declared.table.Table.{Table}
use Rattle.std_types.specs.declared.shape.StdType.{StdType}
use Rattle.node_reach.specs.PortTypes.{type_schema}

-- no session of this table heard anything later
abbrev pub IsInTime : ℕ → Table StdType → Type 0
IsInTime latest table = HeardBy latest (states_of type_schema table)

pub IsInTime-prop : (latest : ℕ) (table : Table StdType) → IsProp (IsInTime latest table)
IsInTime-prop latest table = HeardBy-prop latest (states_of type_schema table)
