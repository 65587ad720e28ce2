-- What the steps of a reader do.
use Rattle.std.specs.Prelude.{◌≡◌, ◌<◌, ◌+◌, ◌++◌, ℕ, true, List, [], Option, Some, None, length}
use Rattle.std.specs.Prelude.{take, drop}
use Rattle.tail_frame.specs.declared.logged.Record.{Record}
use Rattle.frame_log.specs.declared.reader.LogReader.{LogReader}
use Rattle.frame_log.specs.declared.reader.step.Step.{Step}
use Rattle.frame_log.specs.declared.reader.step.Step.TheVariants as step
use Rattle.frame_log.specs.declared.reader.turn.Turn.{Turn}
use Rattle.frame_log.specs.declared.reader.turn.Turn.TheVariants as turn
use Rattle.frame_log.specs.declared.line.Found.{Found}
use Rattle.frame_log.specs.Input.{Took}
use Rattle.frame_log.specs.Line.{cut, said_of}
use Rattle.frame_log.specs.Found.{said_by}
use Rattle.frame_log.specs.Log.{Log, Place, Given, Skip, Take, Refuse, ended, with_record}
use Rattle.frame_log.specs.Reader.{kept_bytes_of, log_behind, saw_end}

-- the first line of s has i bytes
abbrev pub IsLine : List ℕ → ℕ → Type 0
IsLine s i = (i < length s) × (cut 10 s ≡ Some (take i s, drop (i + 1) s))

-- the first line of s has i bytes, and this was found in it, with its bytes
pub record IsFound (buses : List (List ℕ)) (s : List ℕ) (i : ℕ) (found : Found)
    (bytes : List ℕ) : Type 0 where
  pub line : IsLine s i
  pub said : said_by found bytes ≡ said_of buses (take i s)

-- a step, with the record that it wrote, is what a line gives, and leads to a place
abbrev pub IsGiven : Given → Step → Record → Place → Type 0
IsGiven (Skip at) step.Skipped written new = new ≡ at
IsGiven (Take r at) step.Record written new = (written ≡ r) × (new ≡ at)
IsGiven (Refuse e) (step.Refused f) written new = f ≡ e
IsGiven _ _ written new = ⊥

-- a step leads from one log to the next
abbrev pub IsStep : Log → Step → Record → Log → Type 0
IsStep before step.NoLine written after = before ≡ after
IsStep before step.Skipped written after = before ≡ after
IsStep before step.Record written after = before ≡ with_record written after
IsStep before (step.Refused e) written after = before ≡ ended (Some e)

-- a turn leads from one log to the next
abbrev pub IsTurn : Log → Turn → Record → Log → Type 0
IsTurn before turn.Again written after = before ≡ after
IsTurn before turn.Record written after = before ≡ with_record written after
IsTurn before turn.Whole written after = before ≡ ended None
IsTurn before (turn.Refused e) written after = before ≡ ended (Some e)
IsTurn before turn.Failed written after = before ≡ after

-- a record that was written stands at a place: it has its line, and its moment is the last
abbrev pub IsAt : Record → Place → Type 0
IsAt r at = (at.lines ≡ r.line) × (at.last ≡ r.moment)

-- The turn gives the next of what the log gives that is left: of the bytes that were kept, of those
-- that came in the turn, and of any rest behind them; none comes behind the end.
abbrev pub TurnsNext : (old new : LogReader) (before after : Option (List ℕ)) → Turn → Record
    → Type 0
TurnsNext old new before after turn written =
    (came : List ℕ) × Took before after came
    × ((rest : List ℕ) → (saw_end new ≡ true → rest ≡ [])
    → IsTurn (log_behind old (came ++ rest)) turn written (log_behind new rest))

-- a reader has the bytes that it had, whatever its place is now
abbrev pub KeepsBytes : (old new : LogReader) → Type 0
KeepsBytes old new = (new.buses ≡ old.buses) × (new.kept_bytes ≡ old.kept_bytes)
    × (new.room ≡ old.room) × (new.is_ended ≡ old.is_ended) × (new.done ≡ old.done)

-- a reader keeps fewer bytes than it did
abbrev pub KeepsFewer : (old new : LogReader) → Type 0
KeepsFewer old new = length (kept_bytes_of new) < length (kept_bytes_of old)
