-- What the steps of a reader use of its bytes.
use Rattle.std.specs.Prelude.{◌≡◌, ◌≤◌, ◌+◌, ◌++◌, ℕ, false, List, Option, length, ⊤}
use Rattle.tail_frame.specs.declared.logged.Record.{Record}
use Rattle.frame_log.specs.declared.error.LogError.TheVariants as error
use Rattle.frame_log.specs.declared.reader.LogReader.{LogReader}
use Rattle.frame_log.specs.declared.reader.step.Step.{Step}
use Rattle.frame_log.specs.declared.reader.step.Step.TheVariants as step
use Rattle.frame_log.specs.declared.reader.turn.Turn.{Turn}
use Rattle.frame_log.specs.declared.reader.turn.Turn.TheVariants as turn
use Rattle.frame_log.specs.Input.{Took}
use Rattle.frame_log.specs.Log.{Place}
use Rattle.frame_log.specs.Reader.{buses_of, place_of, kept_bytes_of, room_of, saw_end}
use Rattle.frame_log.specs.Used.{Passes, Gives, Uses}

-- the first line of these bytes is used, where it is no refusal
abbrev pub IsUsed : List (List ℕ) → Place → List ℕ → Step → Record → Place → List ℕ → Type 0
IsUsed buses at bytes step.Skipped written new behind = Passes buses at bytes new behind
IsUsed buses at bytes step.Record written new behind = Gives buses at bytes written new behind
IsUsed buses at bytes other written new behind = ⊤

-- what stands behind the lines that give no record, where a step found no further line or a record
abbrev pub IsBeforeStep : Step → Record → LogReader → Place → List ℕ → Type 0
IsBeforeStep step.NoLine written new at bytes = (at ≡ place_of new) × (bytes ≡ kept_bytes_of new)
IsBeforeStep step.Record written new at bytes = Gives (buses_of new) at bytes written (place_of new) (kept_bytes_of new)
IsBeforeStep other written new at bytes = ⊤

-- what stands behind the lines that give no record, where a turn found nothing yet or a record
abbrev pub IsBeforeTurn : Turn → Record → LogReader → Place → List ℕ → Type 0
IsBeforeTurn turn.Again written new at bytes = (at ≡ place_of new) × (bytes ≡ kept_bytes_of new)
IsBeforeTurn turn.Failed written new at bytes = (at ≡ place_of new) × (bytes ≡ kept_bytes_of new)
IsBeforeTurn turn.Record written new at bytes = saw_end new ≡ false → Gives (buses_of new) at bytes written (place_of new) (kept_bytes_of new)
IsBeforeTurn other written new at bytes = ⊤

-- one byte is taken beyond the room where it shows that the log is too long, and none otherwise
abbrev pub beyond_turn : Turn → ℕ
beyond_turn (turn.Refused error.LogLong) = 1
beyond_turn other = 0

-- The turn uses lines that give no record, of the bytes that were kept and of those that came in
-- it, up to what it found. What came is taken off the room.
abbrev pub TurnUses : (old new : LogReader) (before after : Option (List ℕ)) → Turn → Record
    → Type 0
TurnUses old new before after turn written =
    (came : List ℕ) × Took before after came
    × Uses (buses_of old) (place_of old) (kept_bytes_of old ++ came) (IsBeforeTurn turn written new)
    × (length came + room_of new ≤ room_of old + beyond_turn turn)
