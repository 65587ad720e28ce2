use Rattle.std.proofs.Common.{◌≡◌, ◌+◌, List, length}
use Rattle.line_text.specs.Buffer.{text_of}
use Rattle.frag.specs.Wire.{frames_from}
use Rattle.log_gen.specs.Rows.{frame_count, on_bus, tid_of}
use Rattle.log_gen.specs.Rules.{payload_of, text_of_rows}
use Rattle.log_gen.specs.declared.row.Row.{Row}
use Rattle.log_gen.proofs.log.put_on_bus.Given as goal

abbrev pub invariant-loop-bytes : goal.invariant-loop-bytes
invariant-loop-bytes l = record {
  left : l.bytes-iterator ≡ frames_from 8 (payload_of l.number l.transfer) (tid_of l.transfer) l.frame (length l.bytes-iterator);
  count : l.frame + length l.bytes-iterator ≡ frame_count (payload_of l.number) l.transfer;
  text :
      (past : List Row) → text_of l.initial.text ≡ text_of_rows l.number past
      → text_of l.text ≡ text_of_rows l.number (on_bus l.way l.transfer l.bus l.frame past);
}
