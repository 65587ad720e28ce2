-- How the parts of a line are read, whatever stands behind them.
use Rattle.std.specs.Prelude.{◌≡◌, ◌++◌, ℕ, List, Option, Some, None, take, slice_index}
use Rattle.frame_log.specs.Line.{◌>>=◌, after, cut, pairs_of, with_front, seconds_of, bus_of}
use Rattle.frame_log.specs.Line.{bus_at, data_of, unflagged}

-- `(SECONDS` and the point
abbrev pub front_of : List ℕ → Option (ℕ × List ℕ)
front_of s = do
  a ← after 40 s
  seconds_of a

-- BUS and the space: the number of the bus
abbrev pub bus_in : List (List ℕ) → List ℕ → Option (ℕ × List ℕ)
bus_in buses s = do
  name ← bus_of s
  bus ← bus_at buses name.0
  Some (bus, name.1)

-- there is no newline and no carriage return
abbrev pub IsClean : List ℕ → Type 0
IsClean s = (cut 10 s ≡ None) × (cut 13 s ≡ None)

-- the first n bytes are read as this value, whatever stands behind them
pub record Reads (read : List ℕ → Option (ℕ × List ℕ)) (s : List ℕ) (n value : ℕ) : Type 0 where
  pub is : (t : List ℕ) → read (take n s ++ t) ≡ Some (value, t)
  pub clean : IsClean (take n s)

-- the first n bytes are the hex digits of these bytes, whatever stands behind them
abbrev pub IsHex : List ℕ → ℕ → List ℕ → Type 0
IsHex s n bytes = (t : List ℕ) → pairs_of (take n s ++ t) ≡ with_front bytes (pairs_of t)

-- the first n bytes are the data of a line, and a newline stands behind them
pub record IsData (s : List ℕ) (n : ℕ) (bytes : List ℕ) : Type 0 where
  pub is : data_of (unflagged (take n s)) ≡ Some (Some bytes)
  pub clean : IsClean (take n s)
  pub end : slice_index s n ≡ 10
