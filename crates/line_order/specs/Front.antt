-- The front of a line, which many lines have in common.
use Rattle.std.specs.Prelude.{◌≡◌, ◌++◌, ℕ, List, Some, take}
use Rattle.frame_log.specs.Reads.{front_of}

-- the first n bytes are `(SECONDS` and the point of these seconds, whatever stands behind them
abbrev pub IsFront : List ℕ → ℕ → ℕ → Type 0
IsFront text n seconds = (t : List ℕ) → front_of (take n text ++ t) ≡ Some (seconds, t)
