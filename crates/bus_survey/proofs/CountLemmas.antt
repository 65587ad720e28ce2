-- How large counts are, and what they are with one more.
use Rattle.std.proofs.Common.{ℕ, ◌≤◌, ◌*◌, Bool, true, false, cond, List, [], ◌∷◌, length, is_none, nat_eq, arith}
use Rattle.tail_frame.specs.Frames.{FrameOf, frame_of}
use Rattle.tail_frame.specs.declared.logged.Record.{Record}
use Rattle.bus_survey.specs.Buses.{discarded, on_bus}
use Rattle.bus_survey.specs.Counts.{AreShort, data_bytes, starts, start_of}
use Rattle.bus_survey.specs.Starts.{one_if, copies, gaps, is_copy, is_gap, last_tid}
use Rattle.bus_survey.specs.declared.starts.Start.{Start}

pub one_low : (b : Bool) → one_if b ≤ 1
one_low true = omega arith
one_low false = omega arith

pub copies_few : (past : List Start) → copies past ≤ length past
copies_few [] = omega arith
copies_few (s ∷ past) = omega (arith, copies_few past, one_low (is_copy (last_tid past) s.tid))

pub gaps_few : (past : List Start) → gaps past ≤ length past
gaps_few [] = omega arith
gaps_few (s ∷ past) = omega (arith, gaps_few past, one_low (is_gap (last_tid past) s.tid))

pub starts_few : (past : List FrameOf) → length (starts past) ≤ length past
starts_few [] = omega arith
starts_few (f ∷ past) = at (starts_few past) f.tail.start
  where
    at : length (starts past) ≤ length past → (b : Bool) → length (cond b (start_of f ∷ starts past) (starts past)) ≤ length (f ∷ past)
    at rest true = omega (arith, rest)
    at rest false = omega (arith, rest)

pub bytes_few : (past : List FrameOf) → AreShort past → data_bytes past ≤ 64 * length past
bytes_few [] h = omega arith
bytes_few (f ∷ past) h = omega (arith, bytes_few past h.1, h.0)

pub discarded_few : (past : List Record) → discarded past ≤ length past
discarded_few [] = omega arith
discarded_few (rec ∷ past) = omega (arith, discarded_few past, one_low (is_none (frame_of rec)))

pub on_bus_few : (bus : ℕ) (past : List Record) → length (on_bus bus past) ≤ length past
on_bus_few bus [] = omega arith
on_bus_few bus (rec ∷ past) = at (on_bus_few bus past) (nat_eq rec.bus bus)
  where
    at : length (on_bus bus past) ≤ length past → (b : Bool) → length (cond b (rec ∷ on_bus bus past) (on_bus bus past)) ≤ length (rec ∷ past)
    at rest true = omega (arith, rest)
    at rest false = omega (arith, rest)
