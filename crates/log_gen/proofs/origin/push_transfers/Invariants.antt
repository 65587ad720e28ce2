use Rattle.std.proofs.Common.{◌≡◌}
use Rattle.log_gen.specs.Rows.{pairs_of, rows}
use Rattle.log_gen.specs.Rules.{payload_of, way_of}
use Rattle.log_gen.proofs.origin.push_transfers.Given as goal

abbrev pub invariant-loop-transfer : goal.invariant-loop-transfer
invariant-loop-transfer l = l.pairs ≡ pairs_of l.source (rows (payload_of l.number) (way_of l.number) l.transfer)
