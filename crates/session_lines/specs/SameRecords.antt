-- The records that a sent list explains are those whose deliveries a report tells.
use Rattle.std.specs.Prelude.{◌≡◌, ℕ, List}
use Rattle.tail_frame.specs.declared.logged.Record.{Record}
use Rattle.rx_table.specs.Heard.{frames, frames_of, heard_as, records_of}
use Rattle.rx_table.specs.Keys.{SessionKey, history}
use Rattle.frag.specs.Raw.{AreRecordsOf}
use Rattle.node_plan.specs.declared.plan.Plan.{Plan}
use Rattle.session_lines.specs.Reported.{of_key}

-- A sent list explains what each record is to a node, by itself; the lines of a report are of the
-- frames that the node's sessions hear. Both are the same frames, so of each session the same
-- records: the records of the log that are frames of its key, one by one, by their fields.
pub record SameRecords : Type 0 where
  pub same_frames : (node : ℕ) (past : List Record) → frames_of (heard_as node) past ≡ frames node past
  pub same_session : (plan : Plan) (key : SessionKey) (past : List Record)
      → history key (frames_of (heard_as plan.node) past) ≡ of_key plan key past
  pub each : (plan : Plan) (key : SessionKey) (past : List Record)
      → AreRecordsOf (records_of (heard_as plan.node) key past) (of_key plan key past)
