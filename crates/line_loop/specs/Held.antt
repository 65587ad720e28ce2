-- What is held of an input.
use Rattle.std.specs.Prelude.{◌≡◌, ◌<◌, ◌≤◌, ◌++◌, ℕ, ◌-◌, List, Option, length, take, drop}
use Rattle.line_loop.specs.Input.{Took, IsEnd}
use Rattle.line_loop.specs.declared.held.Held.{Held}

-- the bytes that were taken and not yet answered
unfoldable pub bytes_of : Held → List ℕ
bytes_of h = take (h.end - h.start) (drop h.start h.buffer.items)

-- how many bytes the buffer takes behind them
unfoldable pub room_of : Held → ℕ
room_of h = length h.buffer.items - h.end

-- a read of so many bytes behind those that are held; none only at the end of the input
pub record Fills (before after : List ℕ) (left new : Option (List ℕ)) (most n : ℕ) : Type 0 where
  pub came : List ℕ
  pub took : Took left new came
  pub bytes : after ≡ before ++ came
  pub count : length came ≡ n
  pub within : n ≤ most
  pub few : n ≤ 65536
  pub end : n ≡ 0 → 0 < most → IsEnd new
