-- Lines that were told.
use Rattle.std.specs.Prelude.{◌≡◌, ℕ, Bool, List, [], Option, Some, None, count_by}
use Rattle.can_id.specs.declared.key.Key.{Key}
use Rattle.tail_frame.specs.Frames.{FrameOf, frame_of}
use Rattle.tail_frame.specs.declared.logged.Record.{Record}
use Rattle.rx_table.specs.declared.fed.Met.{Met}
use Rattle.node_core.specs.Came.{met_lines}
use Rattle.report_lines.specs.declared.line.Line.{Line}
use Rattle.node_core.specs.declared.node.Node.{Node}
use Rattle.report_lines.specs.LineSinks.{put_behind}
use Rattle.node_core.specs.Steps.{is_nosession, is_rx, one_if}
use Rattle.node_core.specs.Types.{type_at}
use Rattle.node_run.specs.Forms.{Adds, Style, Types}
use Rattle.node_run.specs.declared.log.tally.Seen.{Seen}

-- a text of these lines is gathered behind what was, and the sink has them behind those that it had
pub record HasTold (s : Style) (types : Types) (told : List Line) (before after : List ℕ)
    (old new : Option (List Line)) : Type 0 where
  pub gathered : Adds s types told before after
  pub put : new ≡ put_behind old told

-- these are the types of a node's ports
abbrev pub AreTypesOf : Types → Node → Type 0
AreTypesOf types node = (key : Key) → types key ≡ type_at node.table key

-- these are counted of the lines on a record, and of whether it dropped a transfer for its CRC
pub record Counts (seen : Seen) (lines : List Line) (bad : Bool) : Type 0 where
  pub delivered : seen.delivered ≡ count_by is_rx lines
  pub badcrc : seen.badcrc ≡ one_if bad
  pub nosession : seen.nosession ≡ count_by is_nosession lines

-- the lines on a record that is this frame, if it is one, where that came to this
abbrev pub lines_if : Node → Option FrameOf → Met → List Line
lines_if node None met = []
lines_if node (Some f) met = met_lines node f met

abbrev pub framed_lines : Node → Record → Met → List Line
framed_lines node rec met = lines_if node (frame_of rec) met
