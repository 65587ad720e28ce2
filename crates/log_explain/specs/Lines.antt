-- The lines on a log of a node that listens. Records and lines are lists with the newest first;
-- `past` is what came before.
use Rattle.std.specs.Prelude.{ℕ, Bool, false, ◌&&◌, ◌==◌, if◌then◌else◌, List, [], ◌∷◌, ◌++◌}
use Rattle.std.specs.Prelude.{Option, Some, None}
use Rattle.can_id.specs.Identifiers.{key_of}
use Rattle.redundancy.specs.Force.{force}
use Rattle.tail_frame.specs.Frames.{FrameOf, frame_of}
use Rattle.tail_frame.specs.declared.logged.Record.{Record}
use Rattle.log_explain.specs.Reasons.{Listens, reason_of}
use Rattle.rx_table.specs.Admitted.{admitted, key_of as session_key}
use Rattle.rx_table.specs.Heard.{frames}
use Rattle.rx_table.specs.Keys.{SessionKey, history, same_kind}
use Rattle.rx_table.specs.Ports.{Port}
use Rattle.log_explain.specs.Counts.{counts}
use Rattle.log_explain.specs.Sessions.{Session}
use Rattle.log_explain.specs.declared.line.FrameLine.{FrameLine}
use Rattle.log_explain.specs.declared.line.Transfer.{Transfer}
use Rattle.log_explain.specs.declared.tally.Tally.{Tally}

-- the transfer that a frame is one of
abbrev pub transfer_of : FrameOf → Transfer
transfer_of f = record { key = key_of f.ident; tid = f.tail.tid }

abbrev pub transfer_in : Option FrameOf → Option Transfer
transfer_in None = None
transfer_in (Some f) = Some (transfer_of f)

-- the line on a record
abbrev pub line_on : Listens → Record → List Record → FrameLine
line_on w rec past = record {
  line = rec.line;
  moment = rec.moment;
  bus = rec.bus;
  transfer = transfer_in (frame_of rec);
  reason = reason_of w rec past;
}

-- the lines on all records
abbrev pub lines : Listens → List Record → List FrameLine
lines w [] = []
lines w (rec ∷ past) = line_on w rec past ∷ lines w past

-- whether a line is on a frame of a session
abbrev pub is_source : ℕ → Option ℕ → Bool
is_source source None = false
is_source source (Some node) = node == source

abbrev pub is_in : SessionKey → Option Transfer → Bool
is_in key None = false
is_in key (Some t) =
    same_kind t.key.kind key.kind
    && ((t.key.port == key.port) && is_source key.source t.key.source)

-- the lines of a session
abbrev pub of_session : SessionKey → List FrameLine → List FrameLine
of_session key [] = []
of_session key (line ∷ past) =
    if is_in key line.transfer then line ∷ of_session key past else of_session key past

-- what is counted of them
abbrev pub tally : Listens → SessionKey → List Record → Tally
tally w key past = counts (of_session key (lines w past))

-- a session behind these records
abbrev pub session_of : Listens → List Record → SessionKey → Session
session_of w past key = record {
  key = key;
  bus = force w.timeout (history key (frames w.own past));
  tally = tally w key past;
}

-- the sessions of a port, in the order of their first start frames
abbrev pub sessions_of : Listens → List Record → Port → List ℕ → List Session
sessions_of w past p [] = []
sessions_of w past p (source ∷ sources) =
    session_of w past (session_key p.kind p.port source) ∷ sessions_of w past p sources

abbrev pub sessions_on : Listens → List Record → List Port → List Session
sessions_on w past [] = []
sessions_on w past (p ∷ ports) =
    sessions_of w past p (admitted p.kind p.port p.sources (frames w.own past))
    ++ sessions_on w past ports

-- all sessions, in the order of the ports
abbrev pub sessions : Listens → List Record → List Session
sessions w past = sessions_on w past w.ports
