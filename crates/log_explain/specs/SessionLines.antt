-- The code's lines on sessions.
use Rattle.std.specs.Prelude.{ℕ, ◌+◌, List, [], ◌∷◌, ◌++◌, length, slice_get, unwrap_or}
use Rattle.can_id.specs.declared.key.Kind.{Kind}
use Rattle.rx_session.specs.declared.session.Session.{Session as CodeSession}
use Rattle.rx_table.specs.Admitted.{key_of}
use Rattle.rx_table.specs.declared.port.Port.{Port}
use Rattle.log_explain.specs.Counts.{counts}
use Rattle.log_explain.specs.Places.{slot_at}
use Rattle.log_explain.specs.Sessions.{Session}
use Rattle.log_explain.specs.declared.session_line.SessionLine.{SessionLine}
use Rattle.log_explain.specs.declared.tally.Tally.{Tally}

abbrev pub session_in : SessionLine → Session
session_in line = record {
  key = key_of line.kind line.port line.source;
  bus = line.bus;
  tally = line.tally;
}

-- what is counted at a slot
abbrev pub tally_at : List Tally → ℕ → Tally
tally_at by_slot slot = unwrap_or (slice_get by_slot slot) (counts [])

-- the sessions of the port at a place
abbrev pub sessions_at : {S : Type 0} → List Tally → Kind → ℕ → ℕ → List (ℕ × CodeSession S)
    → List Session
sessions_at by_slot kind port place [] = []
sessions_at by_slot kind port place (e ∷ es) =
    record {
      key = key_of kind port e.0;
      bus = e.1.force.bus;
      tally = tally_at by_slot (slot_at place e.0);
    }
    ∷ sessions_at by_slot kind port place es

-- those of ports, the first of which is at a place
abbrev pub sessions_from : {S : Type 0} → List Tally → ℕ → List (Port S) → List Session
sessions_from by_slot place [] = []
sessions_from by_slot place (p ∷ ports) =
    sessions_at by_slot p.kind p.port place p.sessions.entries
    ++ sessions_from by_slot (place + 1) ports

-- how many there are
abbrev pub count_in : {S : Type 0} → List (Port S) → ℕ
count_in [] = 0
count_in (p ∷ ports) = length p.sessions.entries + count_in ports
