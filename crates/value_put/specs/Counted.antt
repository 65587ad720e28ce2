-- The bytes of a reader that count.
use Rattle.std.specs.Prelude.{◌≡◌, ℕ, List, take}
use Rattle.wire_values.specs.Reads.{IsWindow}
use Rattle.value_put.specs.declared.bits.Bits.{Bits}

unfoldable pub counted : Bits → List ℕ
counted b = take b.size b.bytes.now

-- at its beginning, so many bytes count, and they are the first of all
pub record IsWhole (count : ℕ) (w : Bits) : Type 0 where
  pub place : w.place ≡ 0
  pub size : w.size ≡ count
  pub bytes : counted w ≡ take count w.bytes.now

-- so many bytes stand from a reader's place on, and the window has these
abbrev pub IsWindowOf : Bits → ℕ → Bits → Type 0
IsWindowOf at count w = IsWindow (counted at) at.place count (counted w) × IsWhole count w
