-- The records of a log.
use Rattle.std.specs.Prelude.{ℕ, List, [], ◌∷◌, ◌++◌, ◌+◌, ◌-◌, ◌^◌, ◌==◌, Option, Some, None}
use Rattle.std.specs.Prelude.{if◌then◌else◌, length, nat_lt, take}
use Rattle.frame_log.specs.declared.error.LogError.{LogError}
use Rattle.frame_log.specs.declared.error.LogError.TheVariants as error
use Rattle.tail_frame.specs.declared.logged.Record.{Record}
use Rattle.frame_log.specs.Line.{Said, NoForm, Nothing, UnknownBus, Frame, said_of}

-- a log: its records, and the refusal that ends it, if one does
pub record Log : Type 0 where
  pub records : List Record
  pub refusal : Option LogError

-- no record, and this refusal
abbrev pub ended : Option LogError → Log
ended refusal = record { records = []; refusal = refusal }

-- a record in front
abbrev pub with_record : Record → Log → Log
with_record r log = record log { records = r ∷ log.records }

-- a place between two lines: the number of lines before it, and the moments of the first and the
-- last record
pub record Place : Type 0 where
  pub lines : ℕ
  pub first : Option ℕ
  pub last : ℕ

-- what a line gives
pub data Given : Type 0 where
  Skip : Place → Given
  Take : Record → Place → Given
  Refuse : LogError → Given

-- the first record's moment, where a record of this moment comes
abbrev pub first_of : Option ℕ → ℕ → ℕ
first_of None moment = moment
first_of (Some first) moment = first

-- what a line with this number gives, by what it says
abbrev pub given_by : Place → ℕ → Said → Given
given_by at n NoForm = Refuse (error.BadLine n)
given_by at n Nothing = Skip (record at { lines = n })
given_by at n UnknownBus = Refuse (error.UnknownBus n)
given_by at n (Frame moment bus ident bytes) =
    if nat_lt moment at.last then Refuse (error.TimeBack n)
    else (if nat_lt 100_000_000_000 (moment - first_of at.first moment) then Refuse (error.TooFar n)
    else Take (record { line = n; moment = moment; bus = bus; ident = ident; bytes = bytes })
    (record { lines = n; first = Some (first_of at.first moment); last = moment }))

-- what the next line gives
abbrev pub given : List (List ℕ) → Place → List ℕ → Given
given buses at line = given_by at (at.lines + 1) (said_of buses line)

-- what a line gives, and then the lines behind it
abbrev pub followed : Given → (Place → Log) → Log
followed (Skip at) behind = behind at
followed (Take r at) behind = with_record r (behind at)
followed (Refuse e) behind = ended (Some e)

-- the records of lines
abbrev pub log_of_lines : List (List ℕ) → Option LogError → List (List ℕ) → Place → Log
log_of_lines buses refusal [] at = ended refusal
log_of_lines buses refusal (l ∷ ls) at = followed (given buses at l) (λ new. log_of_lines buses refusal ls new)

-- a byte in front of split lines
abbrev pub with_byte : ℕ → List (List ℕ) × List ℕ → List (List ℕ) × List ℕ
with_byte b p = first p.0
  where
    first : List (List ℕ) → List (List ℕ) × List ℕ
    first [] = ([], b ∷ p.1)
    first (l ∷ ls) = ((b ∷ l) ∷ ls, p.1)

-- the lines that end with a newline, and what stands behind the last newline
abbrev pub lines_of : List ℕ → List (List ℕ) × List ℕ
lines_of [] = ([], [])
lines_of (b ∷ s) = if b == 10 then ([] ∷ (lines_of s).0, (lines_of s).1) else with_byte b (lines_of s)

-- the last line, which lacks its newline, if it counts
abbrev pub last_line : ℕ → List ℕ → List (List ℕ)
last_line n rest = if nat_lt n (length rest) then rest ∷ [] else []

-- The log that these bytes hold, of which the first `room` count. Where there are more, what stands
-- behind the last newline counts only as a line that is too long.
abbrev pub log_from : List (List ℕ) → ℕ → List ℕ → Place → Log
log_from buses room bytes at =
    let lines = lines_of (take room bytes) in
    (if nat_lt room (length bytes)
    then log_of_lines buses (Some error.LogLong) (lines.0 ++ last_line 4096 lines.1) at
    else log_of_lines buses None (lines.0 ++ last_line 0 lines.1) at)

-- before the first line
abbrev pub start : Place
start = record { lines = 0; first = None; last = 0 }

-- the log of an input: 2 ^ 28 bytes count
abbrev pub log_of : List (List ℕ) → List ℕ → Log
log_of buses bytes = log_from buses (2 ^ 28) bytes start
