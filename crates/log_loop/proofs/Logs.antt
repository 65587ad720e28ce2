-- A log, of which some records came.
use Rattle.std.proofs.Common.{◌≡◌, ℕ, suc, ◌<◌, ◌≤◌, List, [], ◌∷◌, length, All, refl, arith}
use mathlib.Core.List.{reverse_aux}
use Rattle.tail_frame.specs.declared.logged.Record.{Record}
use Rattle.frame_log.specs.Log.{Log}
use Rattle.frame_log.specs.Order.{IsAhead}

-- a log behind records, the newest of which comes first
abbrev pub onto : List Record → Log → Log
onto past log = record { records = reverse_aux past log.records; refusal = log.refusal }

-- the moment and the line of the newest record
abbrev pub latest_of : List Record → ℕ
latest_of [] = 0
latest_of (r ∷ past) = r.moment

abbrev pub line_of : List Record → ℕ
line_of [] = 0
line_of (r ∷ past) = r.line

-- what follows the newest record is behind it, and no more came than its line says
pub ahead_in : (past rest : List Record) → IsAhead 0 0 (reverse_aux past rest) → IsAhead (latest_of past) (line_of past) rest × (length past ≤ line_of past)
ahead_in [] rest h = (h, omega arith)
ahead_in (r ∷ past) rest h =
    let i = ahead_in past (r ∷ rest) h in
    let fewer : length past ≤ line_of past = i.1 in
    let behind : line_of past < r.line = i.0.1 in (i.0.2, omega arith)

-- what holds of each record holds of those behind the ones that came
pub all_in : (P : Record → Type 0) (past rest : List Record) → All P (reverse_aux past rest) → All P rest
all_in P [] rest h = h
all_in P (r ∷ past) rest h = let i = all_in P past (r ∷ rest) h in λ k d below. i (suc k) d (omega arith)

-- the records behind those that came
pub newest_onto : (past rest : List Record) → reverse_aux (reverse_aux past rest) [] ≡ reverse_aux rest past
newest_onto [] rest = refl
newest_onto (r ∷ past) rest = newest_onto past (r ∷ rest)
