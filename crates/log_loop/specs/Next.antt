-- What a call for the next record does to the reader, the input, and what is gathered and written.
use Rattle.std.specs.Prelude.{◌≡◌, ◌<◌, ◌≤◌, ◌+◌, ◌++◌, ◌⊎◌, ℕ, Bool, true, false, List, []}
use Rattle.std.specs.Prelude.{Option, Some, None, Result, Ok, Err, length, ⊤}
use Rattle.tail_frame.specs.declared.logged.Record.{Record}
use Rattle.cy_outside.specs.Outside.{Rose}
use Rattle.cy_outside.specs.Written.{Begins}
use Rattle.frame_log.specs.Input.{Took}
use Rattle.frame_log.specs.Reader.{buses_of, place_of, kept_bytes_of, bytes_left, room_of, saw_end}
use Rattle.frame_log.specs.Reader.{settled_answer, log_behind, IsNext}
use Rattle.frame_log.specs.Used.{Uses, IsBefore, beyond}
use Rattle.frame_log.specs.declared.error.LogError.{LogError}
use Rattle.frame_log.specs.declared.error.LogError.TheVariants as error
use Rattle.frame_log.specs.declared.reader.LogReader.{LogReader}
use Rattle.gathered_text.specs.Gathered.{Gathered}
use Rattle.log_loop.specs.declared.next.Stop.{Stop}
use Rattle.log_loop.specs.declared.next.Stop.TheVariants as stop

-- the answer of a call that writes its record: true with what was written
abbrev pub handed : Record → Result Bool Stop → Result (Option Record) Stop
handed written (Ok true) = Ok (Some written)
handed written (Ok false) = Ok None
handed written (Err stop) = Err stop

-- some bytes came, and for every rest the log behind the reader goes on by this answer
pub record Goes (old new : LogReader) (before after : Option (List ℕ))
    (answer : Result (Option Record) LogError) : Type 0 where
  pub came : List ℕ
  pub took : Took before after came
  pub ended : saw_end old ≡ true → (came ≡ []) × (saw_end new ≡ true)
  pub next : (rest : List ℕ) → (saw_end new ≡ true → rest ≡ [])
      → IsNext (log_behind old (came ++ rest)) answer (log_behind new rest)

-- the log goes on
abbrev pub GoesOn : LogReader → LogReader → Option (List ℕ) → Option (List ℕ)
    → Result (Option Record) Stop → Type 0
GoesOn old new before after (Ok answer) = Goes old new before after (Ok answer)
GoesOn old new before after (Err (stop.Log error)) = Goes old new before after (Err error)
GoesOn old new before after (Err stop.Write) = ⊤

-- Bytes came only where nothing was gathered any more, and are taken off the room. All but the
-- last 8,192 at most were used.
pub record Comes (old new : LogReader) (before after : Option (List ℕ)) (gathered : List ℕ)
    (answer : Result (Option Record) LogError) : Type 0 where
  pub came : List ℕ
  pub took : Took before after came
  pub ended : saw_end old ≡ true → came ≡ []
  pub flushed : (came ≡ []) ⊎ (gathered ≡ [])
  pub used : saw_end old ≡ false → Uses (buses_of old) (place_of old) (kept_bytes_of old ++ came) (IsBefore answer new)
  pub few : length came + room_of new ≤ room_of old + beyond answer

-- the same; where the output failed, nothing came
abbrev pub ComesBehind : LogReader → LogReader → Option (List ℕ) → Option (List ℕ) → List ℕ
    → Result (Option Record) Stop → Type 0
ComesBehind old new before after gathered (Ok answer) = Comes old new before after gathered (Ok answer)
ComesBehind old new before after gathered (Err (stop.Log error)) = Comes old new before after gathered (Err error)
ComesBehind old new before after gathered (Err stop.Write) = after ≡ before

-- behind a record the reader goes on, with fewer bytes
abbrev pub ReadsOn : LogReader → LogReader → Result (Option Record) Stop → Type 0
ReadsOn old new (Ok (Some rec)) = (bytes_left new < bytes_left old) × (settled_answer new ≡ None)
ReadsOn old new (Ok None) = ⊤
ReadsOn old new (Err stop) = ⊤

-- nothing stays gathered where the log has no further record
abbrev pub Writes : List ℕ → List ℕ → Option (List ℕ) → Option (List ℕ)
    → Result (Option Record) Stop → Type 0
Writes old new before after (Ok (Some rec)) = Gathered old new before after
Writes old new before after (Ok None) = Gathered old new before after × (new ≡ [])
Writes old new before after (Err (stop.Log error)) = Gathered old new before after × (new ≡ [])
Writes old new before after (Err stop.Write) = Begins old before after

-- A count of faults rises only at a fault of its own: where the input failed its count rose, and
-- where the output failed that one; any other answer leaves both as they were.
abbrev pub HasStopCause : ℕ → ℕ → ℕ → ℕ → Result (Option Record) Stop → Type 0
HasStopCause read read_new write write_new (Ok answer) = (read_new ≡ read) × (write_new ≡ write)
HasStopCause read read_new write write_new (Err (stop.Log error.Failed)) =
    Rose read read_new × (write_new ≡ write)
HasStopCause read read_new write write_new (Err (stop.Log error)) =
    (read_new ≡ read) × (write_new ≡ write)
HasStopCause read read_new write write_new (Err stop.Write) =
    (read_new ≡ read) × Rose write write_new
