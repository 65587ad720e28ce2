-- What is counted of the records of one bus. Records are a list with the newest first; `past` is
-- what came before.
use Rattle.std.specs.Prelude.{ℕ, ◌+◌, ◌-◌, ◌==◌, max, if◌then◌else◌, List, [], ◌∷◌, length, map}
use Rattle.std.specs.Prelude.{Option, Some, None, unwrap_or, is_none}
use Rattle.tail_frame.specs.Frames.{frame_of}
use Rattle.tail_frame.specs.declared.logged.Record.{Record}
use Rattle.bus_survey.specs.Starts.{one_if}
use Rattle.bus_survey.specs.declared.bus_counts.BusCounts.{BusCounts}

-- the records of a bus
abbrev pub on_bus : ℕ → List Record → List Record
on_bus bus [] = []
on_bus bus (rec ∷ past) = if rec.bus == bus then rec ∷ on_bus bus past else on_bus bus past

-- how many of these records are no frame
abbrev pub discarded : List Record → ℕ
discarded [] = 0
discarded (rec ∷ past) = discarded past + one_if (is_none (frame_of rec))

-- the moments of the first and of the last record, if there is one
abbrev pub first_moment : List Record → Option ℕ
first_moment [] = None
first_moment (rec ∷ past) = Some (unwrap_or (first_moment past) rec.moment)

abbrev pub last_moment : List Record → Option ℕ
last_moment [] = None
last_moment (rec ∷ past) = Some rec.moment

-- the time from a moment to another; 0 where there is no first one
abbrev pub time_from : Option ℕ → ℕ → ℕ
time_from None moment = 0
time_from (Some before) moment = moment - before

-- the longest time between two records that follow each other; 0 where there are fewer than two
abbrev pub silence : List Record → ℕ
silence [] = 0
silence (rec ∷ past) = max (silence past) (time_from (last_moment past) rec.moment)

-- what is kept of records
abbrev pub kept_records : List Record → BusCounts
kept_records past = record {
  records = length past;
  discarded = discarded past;
  first = first_moment past;
  last = last_moment past;
  silence = silence past;
}

-- what is kept of the records of the buses 0, 1 and 2
abbrev pub bus_counts : List Record → List BusCounts
bus_counts past = map (λ bus. kept_records (on_bus bus past)) (0 ∷ 1 ∷ 2 ∷ [])
