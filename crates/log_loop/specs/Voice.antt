-- What a listener says over a log.
use Rattle.std.specs.Prelude.{◌≡◌, ◌++◌, ℕ, List, [], ◌∷◌, Option, Some, None, map, ⊤}
use mathlib.Core.List.{reverse_aux}
use Rattle.tail_frame.specs.declared.logged.Record.{Record}
use Rattle.frame_log.specs.Log.{Log}
use Rattle.frame_log.specs.declared.error.LogError.{LogError}

-- A listener meets events: the records of a log, each with what came of it beside the log. Lists of
-- events have the newest first. The voice of a listener: the record of an event, whether an event
-- may come behind others, what is said on an event behind those before it, and what is said at the
-- end.
pub record Voice (E : Type 0) : Type 1 where
  pub record_of : E → Record
  pub may_come : E → List E → Type 0
  pub step : E → List E → List ℕ
  pub last : List E → List ℕ

-- the voice of one who hears the records alone
abbrev pub plain_voice : (Record → List Record → List ℕ) → (List Record → List ℕ) → Voice Record
plain_voice step last = record { record_of = λ rec. rec; may_come = λ rec past. ⊤; step = step; last = last }

-- each of these events may come behind those before it
abbrev pub MayCome : {E : Type 0} → Voice E → List E → Type 0
MayCome v [] = ⊤
MayCome v (event ∷ past) = v.may_come event past × MayCome v past

-- these events are those of these records, and may come
pub record AreEventsOf {E : Type 0} (v : Voice E) (records : List Record)
    (events : List E) : Type 0 where
  pub records_are : map v.record_of events ≡ records
  pub may : MayCome v events

-- what is said on these events
abbrev pub said : {E : Type 0} → Voice E → List E → List ℕ
said v [] = []
said v (event ∷ past) = said v past ++ v.step event past

-- the records of a log with the newest first
abbrev pub newest_first : Log → List Record
newest_first log = reverse_aux log.records []

-- the last words come only where the log was read to its end
abbrev pub end_part : {E : Type 0} → Voice E → List E → Option LogError → List ℕ
end_part v events None = v.last events
end_part v events (Some refusal) = []

-- all that is said of a log with these events that ends so
abbrev pub whole_text : {E : Type 0} → Voice E → List E → Option LogError → List ℕ
whole_text v events refusal = said v events ++ end_part v events refusal
