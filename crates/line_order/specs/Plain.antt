-- The parts of a line that stays as it is.
use Rattle.std.specs.Prelude.{◌≡◌, ℕ, List, Some, slice_index, take}
use Rattle.frame_log.specs.Line.{decimal_from}

-- six digits of this number stand in front, and behind them `)` and a space
pub record IsMicros (s : List ℕ) (n : ℕ) : Type 0 where
  pub digits : decimal_from 0 (take 6 s) ≡ Some n
  pub close : slice_index s 6 ≡ 41
  pub space : slice_index s 7 ≡ 32
