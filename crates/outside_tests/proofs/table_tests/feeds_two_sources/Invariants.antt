use Rattle.dsdl_types.specs.Views.{sch}
use Rattle.rx_session.specs.Extents.{extent_bytes}
use Rattle.rx_table.specs.Table.{states, HeardBy}
use Rattle.outside_tests.specs.declared.table_tests.Four.{Four}
use Rattle.outside_tests.proofs.table_tests.feeds_two_sources.Given as goal

abbrev pub invariant-loop-ident : goal.invariant-loop-ident
invariant-loop-ident g l = HeardBy 5 (states (extent_bytes (λ (four : Four). sch four.schema)) l.table.ports.items)
