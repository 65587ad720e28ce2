-- What a sent list explains is what a report is of.
use Rattle.std.proofs.Common.{List, ap, subst}
use Rattle.rx_table.specs.Heard.{heard_as, records_of}
use Rattle.rx_table.specs.Keys.{KeyedFrame, history}
use Rattle.frag.specs.Raw.{AreRecordsOf}
use Rattle.delivery_theorems.proofs.Raws.{records_are}
use Rattle.session_lines.specs.SameRecords.{SameRecords}
use Rattle.session_lines.proofs.Frames.{are_records, frames_are}

pub same_records : SameRecords
same_records = record {
  same_frames = frames_are;
  same_session = λ plan key past. ap (history key) (frames_are plan.node past);
  each = λ plan key past.
      subst (λ (log : List KeyedFrame). AreRecordsOf (records_of (heard_as plan.node) key past) (history key log)) (frames_are plan.node past)
      (records_are (heard_as plan.node) (are_records plan.node) key past);
}
