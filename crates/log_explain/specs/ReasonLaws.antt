-- What a reason says of a record, and of the deliveries and the bad CRCs of a key.
use Rattle.std.specs.Prelude.{◌≡◌, ℕ, Bool, true, false, not, List, Option, Some, None, is_some}
use Rattle.std.specs.Result.{result_err, result_ok}
use Rattle.tail_frame.specs.Chains.{KeyRecord}
use Rattle.tail_frame.specs.Frames.{discard_of, frame_of}
use Rattle.tail_frame.specs.declared.discard.Discard.{Discard}
use Rattle.tail_frame.specs.declared.logged.Record.{Record}
use Rattle.rx_table.specs.Heard.{frame_for}
use Rattle.rx_table.specs.Received.{Delivery}
use Rattle.rx_table.specs.Steps.{delivery_at, is_bad}
use Rattle.log_explain.specs.Reads.{read_of}
use Rattle.log_explain.specs.Reasons.{Listens, of_key, reason_of}
use Rattle.log_explain.specs.declared.reasons.reason.Reason.{Reason}
use Rattle.log_explain.specs.declared.reasons.reason.Reason.TheVariants.{BadCrc, Delivered, Discarded}
use Rattle.log_explain.specs.declared.reasons.reason.Reason.TheVariants.{Elsewhere, Own}

-- the lines of the first and the last frame of what is delivered at a line for this reason, if that
-- is one
abbrev pub delivered_at : ℕ → Reason → Option (ℕ × ℕ)
delivered_at line (Delivered first change) = Some (first, line)
delivered_at line _ = None

abbrev pub is_badcrc : Reason → Bool
is_badcrc (BadCrc first) = true
is_badcrc _ = false

-- those of a delivery
abbrev pub lines_of : Option Delivery → Option (ℕ × ℕ)
lines_of None = None
lines_of (Some d) = Some (d.first.line, d.last.line)

-- a record is told as delivered exactly where a delivery ends at it, and with the lines of that;
-- and as a bad CRC exactly where one ends at it
pub record Tells : Type 0 where
  pub deliveries : (crc : List ℕ → ℕ) (timeout : ℕ) (r : KeyRecord) (past : List KeyRecord)
      → delivered_at r.line (of_key crc timeout r past) ≡ lines_of (delivery_at crc timeout r past)
  pub bad_crcs : (crc : List ℕ → ℕ) (timeout : ℕ) (r : KeyRecord) (past : List KeyRecord)
      → is_badcrc (of_key crc timeout r past) ≡ is_bad crc timeout r past

-- a record is read as the frame that it is, or as the first rule that it breaks: each is one of both
pub record ReadsEach : Type 0 where
  pub frames : (rec : Record) → frame_of rec ≡ result_ok (read_of rec)
  pub rules : (rec : Record) → discard_of rec ≡ result_err (read_of rec)

-- the rule for which a record is told as discarded, if it is told so
abbrev pub discarded_by : Reason → Option Discard
discarded_by (Discarded why) = Some why
discarded_by _ = None

-- whether a record is told as discarded, as the node's own, or as for another node
abbrev pub is_unheard : Reason → Bool
is_unheard (Discarded why) = true
is_unheard Own = true
is_unheard (Elsewhere node) = true
is_unheard _ = false

-- a record is told as discarded exactly where it is no frame, and for the first rule that it breaks;
-- so, as the node's own, or as for another node exactly where it is no frame for the node
pub record TellsFrames : Type 0 where
  pub discarded : (w : Listens) (rec : Record) (past : List Record)
      → discarded_by (reason_of w rec past) ≡ discard_of rec
  pub unheard : (w : Listens) (rec : Record) (past : List Record)
      → is_unheard (reason_of w rec past) ≡ not (is_some (frame_for w.own rec))
