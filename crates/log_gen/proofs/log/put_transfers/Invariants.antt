use Rattle.std.proofs.Common.{◌≡◌}
use Rattle.line_text.specs.Buffer.{text_of}
use Rattle.log_gen.specs.Rows.{rows}
use Rattle.log_gen.specs.Rules.{payload_of, text_of_rows, way_of}
use Rattle.log_gen.proofs.log.put_transfers.Given as goal

abbrev pub invariant-loop-transfer : goal.invariant-loop-transfer
invariant-loop-transfer l = text_of l.text ≡ text_of_rows l.number (rows (payload_of l.number) (way_of l.number) l.transfer)
