-- Bytes and bits that are put into others.
use Rattle.std.specs.Prelude.{ℕ, List, Bool, ◌++◌, ◌+◌, ◌-◌, take, drop, length}

-- these bytes put at a place, as far as the buffer reaches; all other bytes stay
abbrev pub put_at : List ℕ → ℕ → List ℕ → List ℕ
put_at buffer place piece = take place buffer ++ take (length buffer - place) piece ++ drop (place + length piece) buffer

-- these bits in the place of as many others, from a place on; all other bits stay
unfoldable pub put_bits : List Bool → ℕ → List Bool → List Bool
put_bits all place piece = take place all ++ (piece ++ drop (place + length piece) all)
