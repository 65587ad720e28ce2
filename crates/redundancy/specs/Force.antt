-- Which bus is in force for a key, which of its records are heard, and which are late.
-- A key's records are a list with the newest first; `past` is what came before a record.
use Rattle.std.specs.Prelude.{ℕ, Bool, false, not, ◌&&◌, ◌==◌, ◌+◌, nat_lt, if◌then◌else◌, List, []}
use Rattle.std.specs.Prelude.{◌∷◌, Option, Some, None}
use Rattle.tail_frame.specs.Chains.{KeyRecord}

-- the moment of the last record on the bus c
abbrev pub last_on : ℕ → List KeyRecord → Option ℕ
last_on c [] = None
last_on c (r ∷ past) = if r.bus == c then Some r.moment else last_on c past

-- whether the moment now is more than the timeout after that one
abbrev pub is_long_after : ℕ → Option ℕ → ℕ → Bool
is_long_after timeout None now = false
is_long_after timeout (Some t) now = nat_lt (t + timeout) now

-- whether r is a handover, where the bus c is in force: a start frame on another bus, and c was
-- silent for long
abbrev pub hands_over : ℕ → ℕ → KeyRecord → List KeyRecord → Bool
hands_over timeout c r past = r.start && (not (r.bus == c) && is_long_after timeout (last_on c past) r.moment)

-- the bus in force after r, from that before; the first handover is the first start frame
abbrev pub force_after : ℕ → KeyRecord → List KeyRecord → Option ℕ → Option ℕ
force_after timeout r past None = if r.start then Some r.bus else None
force_after timeout r past (Some c) = if hands_over timeout c r past then Some r.bus else Some c

-- the bus in force after these records: that of the last handover
abbrev pub force : ℕ → List KeyRecord → Option ℕ
force timeout [] = None
force timeout (r ∷ past) = force_after timeout r past (force timeout past)

-- whether this bus is in force
abbrev pub is_bus : Option ℕ → ℕ → Bool
is_bus None b = false
is_bus (Some c) b = c == b

-- whether r is heard: its own bus is in force, r counted
abbrev pub heard : ℕ → KeyRecord → List KeyRecord → Bool
heard timeout r past = is_bus (force timeout (r ∷ past)) r.bus

-- the moment of the last record that was heard
abbrev pub last_heard : ℕ → List KeyRecord → Option ℕ
last_heard timeout [] = None
last_heard timeout (r ∷ past) = if heard timeout r past then Some r.moment else last_heard timeout past

-- whether r is late: heard, and more than the timeout after the last record heard before it
abbrev pub late : ℕ → KeyRecord → List KeyRecord → Bool
late timeout r past = heard timeout r past && is_long_after timeout (last_heard timeout past) r.moment
