-- The premises of once and due can be met: the text of a plan, a log and a sent list that meet all
-- of them.
use Rattle.std.specs.Prelude.{◌≡◌, ℕ, ◌<◌, List, [], ◌∷◌, ◌++◌, length, codes, Some, None}
use Rattle.std.specs.FinMap as map
use Rattle.can_id.specs.declared.key.Kind.TheVariants.{Message}
use Rattle.tail_frame.specs.Chains.{KeyRecord}
use Rattle.rx_table.specs.Keys.{SessionKey}
use Rattle.rx_table.specs.Ports.{Port}
use Rattle.frag.specs.declared.sent.Pair.{Pair}
use Rattle.frag.specs.declared.sent.Sent.{Sent}
use Rattle.frag.specs.declared.sent.Transfer.{Transfer}
use Rattle.delivery_theorems.specs.Report.{IsDue}
use Rattle.cy_outside.specs.Files.{Files}
use Rattle.node_plan.specs.declared.plan.Plan.{Plan}
use Rattle.session_lines.specs.Reported.{IsSession}
use Rattle.cyphal.specs.Job.{Told, told_by}
use Rattle.cyphal.specs.Headline.{Asked, logged_in, of_session_in, ExplainsIn}

-- a record with which a transfer is due
pub record IsDueAt (timeout : ℕ) (sent : Sent) (origin : List Pair) (records : List KeyRecord)
    (j : ℕ) : Type 0 where
  pub last : KeyRecord
  pub due : IsDue timeout sent origin records last
  pub is : due.j ≡ j

-- the premises of `once`, and for each transfer of the sent list those of `due`
pub record MeetsPremises (words : List (List ℕ)) (told : Told) (sent : Sent) : Type 0 where
  pub plan : Plan
  pub bytes : List ℕ
  pub key : SessionKey
  pub port : Port
  pub origin : List Pair
  pub asked : Asked words told plan bytes
  pub session : IsSession plan key (logged_in plan bytes) port
  pub explains : ExplainsIn plan bytes sent key origin
  pub due : (j : ℕ) → j < length sent.transfers
      → IsDueAt plan.timeout sent origin (of_session_in plan bytes key) j

-- two buses, of which the second takes frames of 64 bytes, and one subject from four sources
abbrev pub plan_text : List ℕ
plan_text = codes "plan 1\nnode 10\nbus can0\nbus can1\nsilent\nsub 100 4 raw 16\n"

-- a transfer of two frames on can0; the same in one frame on can1, which is a repeat; and, when
-- can0 was silent for longer than the timeout, another transfer on can1 alone, which is the
-- handover
abbrev pub log_text : List ℕ
log_text =
    codes "(1.000000) can0 10606401#00010203040506A0\n"
    ++ codes "(1.000050) can1 10606401##00001020304050607000000E0\n"
    ++ codes "(1.000100) can0 10606401#07178D40\n"
    ++ codes "(5.000000) can1 10606401##001020304050607E1\n"

abbrev pub files : Files
files = map.from_sorted ((codes "plan", plan_text) ∷ [])

abbrev pub first : Transfer
first = record {
  priority = 4;
  tid = 0;
  moment = 1000000;
  destination = None;
  payload = 0 ∷ 1 ∷ 2 ∷ 3 ∷ 4 ∷ 5 ∷ 6 ∷ 7 ∷ [];
}

abbrev pub second : Transfer
second = record {
  priority = 4;
  tid = 1;
  moment = 5000000;
  destination = None;
  payload = 1 ∷ 2 ∷ 3 ∷ 4 ∷ 5 ∷ 6 ∷ 7 ∷ [];
}

-- the two transfers
abbrev pub sent : Sent
sent = record {
  key = record { kind = Message; port = 100; source = Some 1 };
  sizes = 8 ∷ 64 ∷ [];
  transfers = first ∷ second ∷ [];
}

abbrev pub PremisesCanBeMet : Type 0
PremisesCanBeMet =
    MeetsPremises (codes "run" ∷ codes "none" ∷ codes "plan" ∷ [])
    (told_by (Some files) (Some log_text) (Some [])) sent
