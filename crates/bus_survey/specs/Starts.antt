-- What is counted of the starts of one flow. Starts and moments are lists with the newest first;
-- `past` is what came before.
use Rattle.std.specs.Prelude.{ℕ, ◌+◌, ◌-◌, ◌%◌, ◌==◌, ◌&&◌, not, min, max, Bool, false}
use Rattle.std.specs.Prelude.{if◌then◌else◌, List, [], ◌∷◌, ◌++◌, length, Option, Some, None}
use Rattle.std.specs.Prelude.{unwrap_or}
use Rattle.bus_survey.specs.declared.starts.Start.{Start}
use Rattle.bus_survey.specs.declared.starts.Starts.{Starts}
use Rattle.bus_survey.specs.declared.waits.Waits.{Waits}

-- the last moment, if there is one
abbrev pub newest : List ℕ → Option ℕ
newest [] = None
newest (moment ∷ past) = Some moment

-- the time since a moment, if there is one
abbrev pub since : Option ℕ → ℕ → List ℕ
since None moment = []
since (Some before) moment = (moment - before) ∷ []

-- the times between moments that follow each other
abbrev pub waits : List ℕ → List ℕ
waits [] = []
waits (moment ∷ past) = since (newest past) moment ++ waits past

-- the least and the greatest of numbers, if there is one
abbrev pub least : List ℕ → Option ℕ
least [] = None
least (n ∷ past) = Some (min (unwrap_or (least past) n) n)

abbrev pub greatest : List ℕ → Option ℕ
greatest [] = None
greatest (n ∷ past) = Some (max (unwrap_or (greatest past) n) n)

-- the transfer-ID of the last start, if there is one
abbrev pub last_tid : List Start → Option ℕ
last_tid [] = None
last_tid (start ∷ past) = Some start.tid

-- a start is a copy where it has the transfer-ID of the start before
abbrev pub is_copy : Option ℕ → ℕ → Bool
is_copy None tid = false
is_copy (Some before) tid = tid == before

-- there is a gap before a start that is no copy, and hasn't the transfer-ID that follows that of
-- the start before
abbrev pub is_gap : Option ℕ → ℕ → Bool
is_gap None tid = false
is_gap (Some before) tid = not (tid == before) && not (tid == (before + 1) % 32)

-- one more, where this is so
abbrev pub one_if : Bool → ℕ
one_if is = if is then 1 else 0

abbrev pub copies : List Start → ℕ
copies [] = 0
copies (start ∷ past) = copies past + one_if (is_copy (last_tid past) start.tid)

abbrev pub gaps : List Start → ℕ
gaps [] = 0
gaps (start ∷ past) = gaps past + one_if (is_gap (last_tid past) start.tid)

-- the moments of the starts that are no copies
abbrev pub moments : List Start → List ℕ
moments [] = []
moments (start ∷ past) = if is_copy (last_tid past) start.tid then moments past else start.moment ∷ moments past

-- what is kept of moments
abbrev pub kept_waits : List ℕ → Waits
kept_waits past = record { last = newest past; least = least (waits past); greatest = greatest (waits past) }

-- what is kept of starts
abbrev pub kept_starts : List Start → Starts
kept_starts past = record {
  count = length past;
  copies = copies past;
  gaps = gaps past;
  last_tid = last_tid past;
  waits = kept_waits (moments past);
}
