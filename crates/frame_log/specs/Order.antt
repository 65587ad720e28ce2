-- The order of a log's records, and what each can be.
use Rattle.std.specs.Prelude.{◌≤◌, ◌<◌, ◌^◌, ℕ, List, [], ◌∷◌, length, ⊤}
use Rattle.tail_frame.specs.declared.logged.Record.{Record}
use Rattle.frame_log.specs.Log.{Place}

-- behind this moment and this line the moments never fall, and the lines rise
abbrev pub IsAhead : ℕ → ℕ → List Record → Type 0
IsAhead moment line [] = ⊤
IsAhead moment line (r ∷ rest) = (moment ≤ r.moment) × (line < r.line) × IsAhead r.moment r.line rest

-- its bus is one of these, its identifier has 29 bits, its data at most 64 bytes, and its moment 18
-- digits
abbrev pub IsFit : List (List ℕ) → Record → Type 0
IsFit buses r = (r.bus < length buses) × (r.ident ≤ 0x1FFF_FFFF) × (length r.bytes ≤ 64) × (r.moment < 10 ^ 18)

-- a record stands behind a place: its moment isn't before that of the last record, and its line is
-- behind the lines before
abbrev pub StandsBehind : Record → Place → Type 0
StandsBehind r at = (at.last ≤ r.moment) × (at.lines < r.line)
