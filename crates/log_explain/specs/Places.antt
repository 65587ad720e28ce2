-- Where what is counted of a session is kept.
use Rattle.std.specs.Prelude.{ℕ, ◌+◌, ◌*◌}

-- the slot of a source on the port at a place: 128 slots stand for each port, one for each source
abbrev pub slot_at : ℕ → ℕ → ℕ
slot_at place source = place * 128 + source
