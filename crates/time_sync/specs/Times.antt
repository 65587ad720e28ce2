-- Who tells the time, and the estimate.
use Rattle.std.specs.Prelude.{ℕ, ℤ, zero, suc, ◌+◌, ◌==◌, nat_le, Bool, false, ◌&&◌, ◌||◌}
use Rattle.std.specs.Prelude.{if◌then◌else◌, List, [], ◌∷◌, Option, Some, None, slice_index_or}
use Rattle.time_sync.specs.declared.sync.Estimate.{Estimate}
use Rattle.time_sync.specs.declared.last.Last.{Last}
use Rattle.time_sync.specs.Pairs.{Message, of_source, last_offset}

-- whether the source s has a message at most 3 seconds before the moment m, or behind it
abbrev pub is_online : ℕ → List Message → ℕ → Bool
is_online m [] s = false
is_online m (e ∷ past) s = ((e.source == s) && nat_le m (e.moment + 3000000)) || is_online m past s

-- the first answer, where there is one, else the second
abbrev pub first_of : Option ℕ → Option ℕ → Option ℕ
first_of None o = o
first_of (Some n) o = Some n

-- the least number below k with this property
unfoldable pub least : (ℕ → Bool) → ℕ → Option ℕ
least p zero = None
least p (suc k) = first_of (least p k) (if p k then Some k else None)

-- the master: the least source, below 128, that is online
abbrev pub master : ℕ → List Message → Option ℕ
master m past = least (is_online m past) 128

-- a source with an offset, if it has one
abbrev pub estimate_of : ℕ → Option ℤ → Option Estimate
estimate_of s None = None
estimate_of s (Some o) = Some (record { source = s; offset = o })

-- the estimate of a master with its last pair
abbrev pub estimate_by : Option ℕ → List Message → Option Estimate
estimate_by None past = None
estimate_by (Some s) past = estimate_of s (last_offset (of_source s past))

-- the master's estimate
abbrev pub estimate : ℕ → List Message → Option Estimate
estimate m past = estimate_by (master m past) past

-- whether a kept message is at most 3 seconds before the moment m, or behind it
abbrev pub is_recent : ℕ → Option Last → Bool
is_recent m None = false
is_recent m (Some l) = nat_le m (l.moment + 3000000)

abbrev pub is_kept_recent : ℕ → List (Option Last) → ℕ → Bool
is_kept_recent m sources s = is_recent m (slice_index_or sources s None)

-- the offset that is kept
abbrev pub offset_in : Option Last → Option ℤ
offset_in None = None
offset_in (Some l) = l.offset
