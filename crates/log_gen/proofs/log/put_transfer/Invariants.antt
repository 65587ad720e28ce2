use Rattle.std.proofs.Common.{◌≡◌, List}
use Rattle.line_text.specs.Buffer.{text_of}
use Rattle.log_gen.specs.Rows.{on_buses}
use Rattle.log_gen.specs.Rules.{payload_of, text_of_rows, way_of}
use Rattle.log_gen.specs.declared.row.Row.{Row}
use Rattle.log_gen.proofs.log.put_transfer.Given as goal

abbrev pub invariant-loop-bus : goal.invariant-loop-bus
invariant-loop-bus l =
    (past : List Row) → text_of l.initial.text ≡ text_of_rows l.number past
    → text_of l.text ≡ text_of_rows l.number (on_buses (payload_of l.number) (way_of l.number) l.transfer l.bus past)
