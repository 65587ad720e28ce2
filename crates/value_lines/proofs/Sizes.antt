-- How many bytes a line's hex has.
use Rattle.std.proofs.Common.{◌≡◌, ℕ, ◌^◌, ◌≤◌, List, Ok, length, arith}
use Rattle.hex.specs.Hex.{decode_of}
use Rattle.hex.proofs.HexLemmas.{decode_of-ok}

-- two digits a byte
pub bytes_short : (text bytes : List ℕ) → decode_of text ≡ Ok bytes → length text ≤ 2 ^ 20 → length bytes ≤ 2 ^ 20
bytes_short text bytes e h = omega (arith, (decode_of-ok text bytes e).2)
