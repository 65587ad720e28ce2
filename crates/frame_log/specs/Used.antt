-- Which bytes a reader has used for an answer, and which stand behind them.
use Rattle.std.specs.Prelude.{◌≡◌, ◌≤◌, ◌+◌, ◌++◌, ℕ, false, List, [], Option, Some, None}
use Rattle.std.specs.Prelude.{Result, Ok, Err, length, ⊤}
use Rattle.tail_frame.specs.declared.logged.Record.{Record}
use Rattle.frame_log.specs.declared.error.LogError.{LogError}
use Rattle.frame_log.specs.declared.error.LogError.TheVariants as error
use Rattle.frame_log.specs.declared.reader.LogReader.{LogReader}
use Rattle.frame_log.specs.Input.{Took}
use Rattle.frame_log.specs.Line.{cut}
use Rattle.frame_log.specs.Log.{Place, Take, given, lines_of, log_of_lines}
use Rattle.frame_log.specs.Reader.{buses_of, place_of, kept_bytes_of, room_of, saw_end}

-- these lines give no record, and lead from one place to another: whatever lines come behind them
-- give the same log there
abbrev pub LeadsOn : List (List ℕ) → Place → List (List ℕ) → Place → Type 0
LeadsOn buses at lines new =
    (refusal : Option LogError) (behind : List (List ℕ)) → log_of_lines buses refusal (lines ++ behind) at ≡ log_of_lines buses refusal behind new

-- the first of these bytes are whole lines that give no record and lead on to another place, and
-- the others stand behind them
pub record Passes (buses : List (List ℕ)) (at : Place) (bytes : List ℕ) (new : Place)
    (behind : List ℕ) : Type 0 where
  pub skipped : List ℕ
  pub parts : bytes ≡ skipped ++ behind
  pub whole : (lines_of skipped).1 ≡ []
  pub leads : LeadsOn buses at (lines_of skipped).0 new

-- the first of these bytes are a line that gives a record and leads on to another place, and the
-- others stand behind it
pub record Gives (buses : List (List ℕ)) (at : Place) (bytes : List ℕ) (r : Record) (new : Place)
    (behind : List ℕ) : Type 0 where
  pub line : List ℕ
  pub first : cut 10 bytes ≡ Some (line, behind)
  pub takes : given buses at line ≡ Take r new

-- all of these bytes but the last 8,192 at most are whole lines that give no record, and this is
-- said of the place behind such lines and of the bytes that stand there
pub record Uses (buses : List (List ℕ)) (from : Place) (bytes : List ℕ)
    (There : Place → List ℕ → Type 0) : Type 0 where
  pub at : Place
  pub behind : List ℕ
  pub passes : Passes buses from bytes at behind
  pub near : length behind ≤ 8192
  pub there : There at behind

-- What stands behind the lines that give no record: the line of the record that is answered, and
-- then what is kept, where the end wasn't reached; and what is kept alone, where the input failed.
abbrev pub IsBefore : Result (Option Record) LogError → LogReader → Place → List ℕ → Type 0
IsBefore (Ok (Some r)) new at bytes = saw_end new ≡ false → Gives (buses_of new) at bytes r (place_of new) (kept_bytes_of new)
IsBefore (Ok None) new at bytes = ⊤
IsBefore (Err error.Failed) new at bytes = (at ≡ place_of new) × (bytes ≡ kept_bytes_of new)
IsBefore (Err e) new at bytes = ⊤

-- The same among the lines that are kept: where no record is answered, what is kept alone.
abbrev pub IsBeforeKept : Result (Option Record) LogError → LogReader → Place → List ℕ → Type 0
IsBeforeKept (Ok (Some r)) new at bytes = Gives (buses_of new) at bytes r (place_of new) (kept_bytes_of new)
IsBeforeKept (Ok None) new at bytes = (at ≡ place_of new) × (bytes ≡ kept_bytes_of new)
IsBeforeKept (Err e) new at bytes = ⊤

-- one byte is taken beyond the room where it shows that the log is too long, and none otherwise
abbrev pub beyond : Result (Option Record) LogError → ℕ
beyond (Err error.LogLong) = 1
beyond answer = 0

-- What was kept and what came are whole lines that give no record, and behind them at most 8,192
-- bytes. What came is taken off the room.
abbrev pub UsesNext : (old new : LogReader) (before after : Option (List ℕ))
    → Result (Option Record) LogError → Type 0
UsesNext old new before after answer =
    (came : List ℕ) × Took before after came
    × Uses (buses_of old) (place_of old) (kept_bytes_of old ++ came) (IsBefore answer new)
    × (length came + room_of new ≤ room_of old + beyond answer)

-- the same of what was kept alone
abbrev pub UsesKept : (old new : LogReader) → Result (Option Record) LogError → Type 0
UsesKept old new answer = Uses (buses_of old) (place_of old) (kept_bytes_of old) (IsBeforeKept answer new)
