-- What a reader gives.
use Rattle.std.specs.Prelude.{◌≡◌, ◌≤◌, ◌+◌, ◌++◌, ◌⊎◌, ℕ, Bool, true, false, List, [], Option}
use Rattle.std.specs.Prelude.{Some, None, Result, Ok, Err, length, IfOk, IfSome}
use Rattle.tail_frame.specs.declared.logged.Record.{Record}
use Rattle.frame_log.specs.declared.reader.LogReader.{LogReader}
use Rattle.frame_log.specs.declared.error.LogError.{LogError}
use Rattle.frame_log.specs.declared.error.LogError.TheVariants as error
use Rattle.frame_log.specs.declared.reader.Answer.{Answer}
use Rattle.frame_log.specs.declared.reader.Answer.TheVariants.{Whole, Refused}
use Rattle.frame_log.specs.Input.{Took}
use Rattle.frame_log.specs.Line.{cut}
use Rattle.frame_log.specs.Log.{Log, Place, ended, with_record, log_from}

-- the names of its buses
abbrev pub buses_of : LogReader → List (List ℕ)
buses_of r = r.buses

-- where it stands: the lines before, and the moments of the first and the last record
abbrev pub place_of : LogReader → Place
place_of r = record { lines = r.lines; first = r.first; last = r.last }

-- the bytes that were taken and not yet used
abbrev pub kept_bytes_of : LogReader → List ℕ
kept_bytes_of r = r.kept_bytes

-- how many bytes count, from those that it keeps on
abbrev pub bytes_left : LogReader → ℕ
bytes_left r = r.room + length r.kept_bytes

-- how many bytes it may still take of the input
abbrev pub room_of : LogReader → ℕ
room_of r = r.room

-- whether a read gave the end of the input
abbrev pub saw_end : LogReader → Bool
saw_end r = r.is_ended

-- what it answers from now on, where it has answered its end or an error
abbrev pub settled_answer : LogReader → Option Answer
settled_answer r = r.done

-- the log that it gives, where these bytes come behind those that it keeps
abbrev pub log_behind : LogReader → List ℕ → Log
log_behind r rest = log_from (buses_of r) (bytes_left r) (kept_bytes_of r ++ rest) (place_of r)

-- an answer leads from one log to the next: where the input failed, nothing is lost
abbrev pub IsNext : Log → Result (Option Record) LogError → Log → Type 0
IsNext before (Ok None) after = before ≡ ended None
IsNext before (Ok (Some r)) after = before ≡ with_record r after
IsNext before (Err e) after = (before ≡ ended (Some e)) ⊎ ((e ≡ error.Failed) × (before ≡ after))

-- the same, of the lines that are kept: where no line is left, the log is as before
abbrev pub IsNextKept : Log → Result (Option Record) LogError → Log → Type 0
IsNextKept before (Ok None) after = before ≡ after
IsNextKept before (Ok (Some r)) after = before ≡ with_record r after
IsNextKept before (Err e) after = before ≡ ended (Some e)

-- The answer is the next of what the log gives that is left: of the bytes that were kept, of those
-- that came in the call, and of any rest behind them; none comes behind the end.
abbrev pub AnswersNext : (old new : LogReader) (before after : Option (List ℕ))
    → Result (Option Record) LogError → Type 0
AnswersNext old new before after answer =
    (came : List ℕ) × Took before after came
    × ((rest : List ℕ) → (saw_end new ≡ true → rest ≡ []) → IsNext (log_behind old (came ++ rest)) answer (log_behind new rest))

-- behind the end of the input the call takes nothing of it, and the answer is the next of what the
-- bytes that were kept give
abbrev pub AnswersAtEnd : {Input : Type 0} (old new : LogReader) (before after : Input)
    → Result (Option Record) LogError → Type 0
AnswersAtEnd old new before after answer = (after ≡ before) × (saw_end new ≡ true) × IsNext (log_behind old []) answer (log_behind new [])

-- the answer is the next of the lines that are kept, whatever comes behind them
abbrev pub AnswersKept : (old new : LogReader) → Result (Option Record) LogError → Type 0
AnswersKept old new answer = (rest : List ℕ) → IsNextKept (log_behind old rest) answer (log_behind new rest)

-- where the answer is a record, this is said of it
abbrev pub IfRecord : Result (Option Record) LogError → (Record → Type 0) → Type 0
IfRecord answer Is = IfOk answer (λ found. IfSome found Is)

-- no whole line is kept, and no part of one that is too long
abbrev pub HasNoLine : LogReader → Type 0
HasNoLine r = (cut 10 (kept_bytes_of r) ≡ None) × (length (kept_bytes_of r) ≤ 4096)

-- what a reader answers from then on
abbrev pub settled : Result (Option Record) LogError → Option Answer
settled (Ok None) = Some Whole
settled (Ok (Some r)) = None
settled (Err e) = Some (Refused e)

-- the same, of the lines that are kept: a refusal alone
abbrev pub settled_kept : Result (Option Record) LogError → Option Answer
settled_kept (Ok answer) = None
settled_kept (Err e) = Some (Refused e)

-- an answer that is given again
abbrev pub answered : Answer → Result (Option Record) LogError
answered Whole = Ok None
answered (Refused e) = Err e

-- the answer that a call gave which writes its record: true with what was written
abbrev pub given : Record → Result Bool LogError → Result (Option Record) LogError
given written (Ok true) = Ok (Some written)
given written (Ok false) = Ok None
given written (Err e) = Err e
