-- CRC-16/CCITT-FALSE, bit by bit.
use Rattle.std.specs.Prelude.{ℕ, zero, suc, ◌==◌, ◌*◌, ◌/◌, ◌%◌, ◌^◌, if◌then◌else◌, List, [], ◌∷◌}
use Rattle.std.specs.Int.RustNames.{bit_xor}

-- the register after one more bit: shifted, and with the polynomial where its highest bit differs
-- from that bit
abbrev pub crc_bit : ℕ → ℕ → ℕ
crc_bit r b = if r / 32768 % 2 == b then 2 * r % 65536 else bit_xor (2 * r % 65536) 0x1021

-- after the lowest k bits of a byte, the highest of them first
abbrev pub crc_bits : ℕ → ℕ → ℕ → ℕ
crc_bits zero r byte = r
crc_bits (suc k) r byte = crc_bits k (crc_bit r (byte / 2 ^ k % 2)) byte

-- after k bytes that are 0
abbrev pub after_zeros : ℕ → ℕ → ℕ
after_zeros zero r = r
after_zeros (suc k) r = after_zeros k (crc_bits 8 r 0)

-- after more bytes
abbrev pub crc_more : ℕ → List ℕ → ℕ
crc_more r [] = r
crc_more r (byte ∷ bytes) = crc_more (crc_bits 8 r byte) bytes

-- the CRC of bytes
abbrev pub crc_of : List ℕ → ℕ
crc_of bytes = crc_more 0xFFFF bytes

-- the two bytes of that CRC, the high one first
abbrev pub crc_bytes : List ℕ → List ℕ
crc_bytes bytes = crc_of bytes / 256 ∷ crc_of bytes % 256 ∷ []
