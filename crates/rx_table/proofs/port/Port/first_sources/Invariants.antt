use Rattle.std.proofs.Common.{◌≡◌, take}
use Rattle.rx_table.specs.Ports.{sources_of}
use Rattle.rx_table.specs.Table.{entries_of}
use Rattle.rx_table.proofs.port.Port.first_sources.Given as goal

abbrev pub invariant-loop-index : goal.invariant-loop-index
invariant-loop-index g l = l.list ≡ take l.index (sources_of (entries_of l.self.sessions.entries))
