use Rattle.std.proofs.Common.{◌≡◌, List}
use Rattle.log_gen.specs.Rows.{on_buses, pairs_of, source_of}
use Rattle.log_gen.specs.Rules.{payload_of, way_of}
use Rattle.log_gen.specs.declared.row.Row.{Row}
use Rattle.log_gen.proofs.origin.push_transfer.Given as goal

abbrev pub invariant-loop-bus : goal.invariant-loop-bus
invariant-loop-bus l =
    (past : List Row) → l.initial.pairs ≡ pairs_of (source_of l.transfer) past
    → l.pairs ≡ pairs_of (source_of l.transfer) (on_buses (payload_of l.number) (way_of l.number) l.transfer l.bus past)
