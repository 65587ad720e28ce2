-- Extents in bytes and in bits.
use Rattle.std.proofs.Common.{◌≡◌, ℕ, ◌*◌, ◌/◌, arith}

-- bytes that make an extent are that extent in bytes
pub bytes_are : (bytes extent : ℕ) → 8 * bytes ≡ extent → bytes ≡ extent / 8
bytes_are bytes extent h = omega (arith, h)
