-- The seconds of a log. Lists of records have the newest first; `past` is what came before a
-- record.
use Rattle.std.specs.Prelude.{ℕ, ◌+◌, ◌-◌, ◌*◌, ◌/◌, List, [], ◌∷◌, Option, Some, None}
use Rattle.tail_frame.specs.declared.logged.Record.{Record}

-- the moment of the first record of these and the one behind them
abbrev pub first_moment : Record → List Record → ℕ
first_moment rec [] = rec.moment
first_moment rec (older ∷ past) = first_moment older past

-- the moment of the first record, if there is one
abbrev pub start_of : List Record → Option ℕ
start_of [] = None
start_of (rec ∷ past) = Some (first_moment rec past)

-- a tick's moment: Tick k is k seconds behind the first record
abbrev pub tick_moment : ℕ → ℕ → ℕ
tick_moment first tick = first + tick * 1000000

-- the last tick not behind a moment
abbrev pub tick_at : ℕ → ℕ → ℕ
tick_at first moment = (moment - first) / 1000000

-- the last tick not behind the newest of these records
abbrev pub last_tick : List Record → ℕ
last_tick [] = 0
last_tick (rec ∷ past) = tick_at (first_moment rec past) rec.moment

-- how many ticks come between a record and those before it, Tick 0 aside; one at the record's own
-- moment comes before it
abbrev pub ticks_before : Record → List Record → ℕ
ticks_before rec past = last_tick (rec ∷ past) - last_tick past
