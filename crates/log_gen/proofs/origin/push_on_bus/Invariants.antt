use Rattle.std.proofs.Common.{◌≡◌, List}
use Rattle.log_gen.specs.Rows.{on_bus, pairs_of, source_of}
use Rattle.log_gen.specs.declared.row.Row.{Row}
use Rattle.log_gen.proofs.origin.push_on_bus.Given as goal

abbrev pub invariant-loop-frame : goal.invariant-loop-frame
invariant-loop-frame l =
    (past : List Row) → l.initial.pairs ≡ pairs_of (source_of l.transfer) past
    → l.pairs ≡ pairs_of (source_of l.transfer) (on_bus l.way l.transfer l.bus l.frame past)
