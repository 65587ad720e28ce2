-- What is counted of the lines of a session. Lines are a list with the newest first; `past` is what
-- came before.
use Rattle.std.specs.Prelude.{ℕ, Bool, true, false, not, ◌+◌, ◌%◌, ◌==◌, if◌then◌else◌, List, []}
use Rattle.std.specs.Prelude.{◌∷◌, Option, Some, None, is_some}
use Rattle.log_explain.specs.ReasonLaws.{is_badcrc}
use Rattle.log_explain.specs.Reasons.{no_change}
use Rattle.log_explain.specs.declared.reasons.reason.Change.{Change}
use Rattle.log_explain.specs.declared.reasons.reason.Reason.{Reason}
use Rattle.log_explain.specs.declared.reasons.reason.Reason.TheVariants.{Standby, Copy, Begun, Delivered}
use Rattle.log_explain.specs.declared.reasons.reason.Reason.TheVariants.{StrayNone, StrayTid, StrayToggle}
use Rattle.log_explain.specs.declared.line.FrameLine.{FrameLine}
use Rattle.log_explain.specs.declared.line.Transfer.{Transfer}
use Rattle.log_explain.specs.declared.tally.Last.{Last}
use Rattle.log_explain.specs.declared.tally.Tally.{Tally}

-- which lines are counted as what
abbrev pub is_delivered : Reason → Bool
is_delivered (Delivered first change) = true
is_delivered _ = false

abbrev pub is_copy : Reason → Bool
is_copy (Copy line) = true
is_copy _ = false

abbrev pub is_standby : Reason → Bool
is_standby (Standby silence) = true
is_standby _ = false

abbrev pub is_stray : Reason → Bool
is_stray StrayNone = true
is_stray (StrayTid tid) = true
is_stray (StrayToggle first) = true
is_stray _ = false

-- what changes with a frame that begins a transfer, and nothing with any other
abbrev pub change_of : Reason → Change
change_of (Begun change) = change
change_of (Delivered first change) = change
change_of _ = no_change

-- a transfer was given up; another bus became active
abbrev pub is_abandoned : Reason → Bool
is_abandoned reason = is_some (change_of reason).over

abbrev pub is_handover : Reason → Bool
is_handover reason = is_some (change_of reason).from

abbrev pub one_if : Bool → ℕ
one_if is = if is then 1 else 0

-- how many lines have a reason that passes a test
abbrev pub count : (Reason → Bool) → List FrameLine → ℕ
count test [] = 0
count test (line ∷ past) = count test past + one_if (test line.reason)

-- the delivery that a line tells, if it tells one
abbrev pub delivery_by : ℕ → Transfer → Reason → Option Last
delivery_by line t (Delivered first change) = Some (record { tid = t.tid; line = line })
delivery_by line t _ = None

abbrev pub delivery_of : ℕ → Reason → Option Transfer → Option Last
delivery_of line reason None = None
delivery_of line reason (Some t) = delivery_by line t reason

abbrev pub delivery_in : FrameLine → Option Last
delivery_in line = delivery_of line.line line.reason line.transfer

abbrev pub or_else : Option Last → Option Last → Option Last
or_else None before = before
or_else (Some now) before = Some now

-- the last delivery, if there is one
abbrev pub last : List FrameLine → Option Last
last [] = None
last (line ∷ past) = or_else (delivery_in line) (last past)

-- the line on which it ends; 0 where there is none
abbrev pub line_of : Option Last → ℕ
line_of None = 0
line_of (Some delivery) = delivery.line

-- a delivery hasn't the transfer-ID that follows that of the one before
abbrev pub is_gap : Option Last → Option Last → Bool
is_gap None now = false
is_gap (Some before) None = false
is_gap (Some before) (Some now) = not (now.tid == (before.tid + 1) % 32)

abbrev pub gaps : List FrameLine → ℕ
gaps [] = 0
gaps (line ∷ past) = gaps past + one_if (is_gap (last past) (delivery_in line))

-- all that is counted
abbrev pub counts : List FrameLine → Tally
counts lines = record {
  delivered = count is_delivered lines;
  badcrc = count is_badcrc lines;
  copies = count is_copy lines;
  standby = count is_standby lines;
  stray = count is_stray lines;
  abandoned = count is_abandoned lines;
  handovers = count is_handover lines;
  gaps = gaps lines;
  last = last lines;
}
