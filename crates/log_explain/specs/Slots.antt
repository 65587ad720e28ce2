-- What is counted of sessions, by their slots.
use Rattle.std.specs.Prelude.{◌≡◌, ℕ, ◌<◌, ◌^◌, ◌&&◌, ◌==◌, List, ◌∷◌, length, position, set}
use Rattle.std.specs.Prelude.{slice_get, Option, Some, None, option_map, unwrap_or}
use Rattle.can_id.specs.declared.ident.Ident.{Ident}
use Rattle.can_id.specs.declared.key.Key.{Key}
use Rattle.log_explain.specs.Reasons.{Listens, aside, of_frame}
use Rattle.log_explain.specs.declared.reasons.reason.Reason.{Reason}
use Rattle.log_explain.specs.declared.reasons.reason.Reason.TheVariants.{Unsubscribed}
use Rattle.rx_table.specs.Admitted.{key_of as session_key}
use Rattle.rx_table.specs.Heard.{frames}
use Rattle.rx_table.specs.Keys.{same_kind}
use Rattle.rx_table.specs.Ports.{Port, PortState, ports_of}
use Rattle.rx_table.specs.Table.{StandsFor}
use Rattle.tail_frame.specs.Frames.{FrameOf}
use Rattle.tail_frame.specs.declared.logged.Record.{Record}
use Rattle.log_explain.specs.Counts.{counts, line_of}
use Rattle.log_explain.specs.Places.{slot_at}
use Rattle.log_explain.specs.Lines.{lines, of_session, transfer_of}
use Rattle.log_explain.specs.declared.line.FrameLine.{FrameLine}
use Rattle.log_explain.specs.declared.tally.Tally.{Tally}

-- the slot of a key's source, where it has one and is of a port
abbrev pub slot_from : List Port → Key → Option ℕ → Option ℕ
slot_from ports key None = None
slot_from ports key (Some source) =
    option_map (λ place. slot_at place source)
    (position (λ (p : Port). same_kind key.kind p.kind && (key.port == p.port)) ports)

abbrev pub slot_for : List Port → Key → Option ℕ
slot_for ports key = slot_from ports key key.source

-- at the slot of each source on each port stands what is counted of these lines of its session
abbrev pub AreCounted : List Port → List Tally → List FrameLine → Type 0
AreCounted ports by_slot all =
    (place source : ℕ) (p : Port) → slice_get ports place ≡ Some p → source < 128
    → slice_get by_slot (slot_at place source)
    ≡ Some (counts (of_session (session_key p.kind p.port source) all))

-- a line of the session of a slot is counted there, and one of no session nowhere
abbrev pub IsCounted : List Tally → List Tally → FrameLine → Option ℕ → Type 0
IsCounted old new line None = new ≡ old
IsCounted old new line (Some slot) =
    (past : List FrameLine) → length past < 2 ^ 28 → slice_get old slot ≡ Some (counts past)
    → new ≡ set old slot (counts (line ∷ past))

-- this is the line on which the last delivery ends that is counted at a slot
abbrev pub IsLastAt : List Tally → Option ℕ → ℕ → Type 0
IsLastAt by_slot None line = Unit {0}
IsLastAt by_slot (Some slot) line =
    (t : Tally) → slice_get by_slot slot ≡ Some t → line ≡ line_of t.last

-- the line on a frame that came to what it did for this reason
abbrev pub line_with : FrameOf → Reason → FrameLine
line_with f reason = record {
  line = f.line;
  moment = f.moment;
  bus = f.bus;
  transfer = Some (transfer_of f);
  reason = reason;
}

-- the line on a frame
abbrev pub frame_line : Listens → FrameOf → List Record → FrameLine
frame_line w f past = line_with f (of_frame w f (frames w.own past))

-- why a frame on no port comes to what it does
abbrev pub passing : ℕ → Ident → Reason
passing own ident = unwrap_or (aside own ident) Unsubscribed

-- a table with these sessions stands for the frames of these records, and their lines are counted
pub record Stands (w : Listens) (ps : List PortState) (by_slot : List Tally)
    (past : List Record) : Type 0 where
  pub few : length past < 2 ^ 28
  pub ports : ports_of ps ≡ w.ports
  pub sessions : StandsFor w.timeout (frames w.own past) ps
  pub counted : AreCounted w.ports by_slot (lines w past)

-- a line is that on a frame, or a record, and is counted
pub record IsLine (w : Listens) (new : List Tally) (past : List Record)
    (line is : FrameLine) : Type 0 where
  pub line_is : line ≡ is
  pub counted : AreCounted w.ports new (is ∷ lines w past)
