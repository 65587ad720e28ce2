-- A register meets its own bytes.
use Rattle.std.proofs.Common.{◌≡◌, ℕ, ◌*◌, ◌/◌, ◌%◌, ◌<◌, eqb, List, [], ◌∷◌, ◌++◌, ap, ◌∙◌, arith}
use Rattle.std.specs.Int.RustNames.{bit_xor}
use Rattle.std.proofs.lemmas.Bool.{eq-eqb, cond-true}
use Rattle.transfer_crc.specs.Crc.{crc_bit, crc_bits, crc_more, crc_of, crc_bytes}
use Rattle.transfer_crc.proofs.Rows.{crc_more-append, crc_more-small}

-- a bit that is the highest of the register shifts it
shifts : (r b : ℕ) → r / 32768 % 2 ≡ b → crc_bit r b ≡ 2 * r % 65536
shifts r b e = cond-true (eqb (r / 32768 % 2) b) (2 * r % 65536) (bit_xor (2 * r % 65536) 0x1021) (eq-eqb (r / 32768 % 2) b e)

shifts_on : (s r a b n : ℕ) → s ≡ r * a % 65536 → (r * a % 65536) / 32768 % 2 ≡ b → 2 * (r * a % 65536) % 65536 ≡ n → crc_bit s b ≡ n
shifts_on s r a b n e top step = ap (λ t. crc_bit t b) e ∙ (shifts (r * a % 65536) b top ∙ step)

-- its own high byte shifts a register by eight
pub crc_bits-own : (r : ℕ) → r < 65536 → crc_bits 8 r (r / 256) ≡ r % 256 * 256
crc_bits-own r l =
    let x = r / 256 in
    let r1 = crc_bit r (x / 128 % 2) in
    let s1 : r1 ≡ r * 2 % 65536 = shifts_on r r 1 (x / 128 % 2) (r * 2 % 65536) (omega arith) (omega arith) (omega arith) in
    let r2 = crc_bit r1 (x / 64 % 2) in
    let s2 : r2 ≡ r * 4 % 65536 = shifts_on r1 r 2 (x / 64 % 2) (r * 4 % 65536) s1 (omega arith) (omega arith) in
    let r3 = crc_bit r2 (x / 32 % 2) in
    let s3 : r3 ≡ r * 8 % 65536 = shifts_on r2 r 4 (x / 32 % 2) (r * 8 % 65536) s2 (omega arith) (omega arith) in
    let r4 = crc_bit r3 (x / 16 % 2) in
    let s4 : r4 ≡ r * 16 % 65536 = shifts_on r3 r 8 (x / 16 % 2) (r * 16 % 65536) s3 (omega arith) (omega arith) in
    let r5 = crc_bit r4 (x / 8 % 2) in
    let s5 : r5 ≡ r * 32 % 65536 = shifts_on r4 r 16 (x / 8 % 2) (r * 32 % 65536) s4 (omega arith) (omega arith) in
    let r6 = crc_bit r5 (x / 4 % 2) in
    let s6 : r6 ≡ r * 64 % 65536 = shifts_on r5 r 32 (x / 4 % 2) (r * 64 % 65536) s5 (omega arith) (omega arith) in
    let r7 = crc_bit r6 (x / 2 % 2) in
    let s7 : r7 ≡ r * 128 % 65536 = shifts_on r6 r 64 (x / 2 % 2) (r * 128 % 65536) s6 (omega arith) (omega arith) in
    let r8 = crc_bit r7 (x / 1 % 2) in
    let s8 : r8 ≡ r * 256 % 65536 = shifts_on r7 r 128 (x / 1 % 2) (r * 256 % 65536) s7 (omega arith) (omega arith) in
    s8 ∙ omega arith

both_bytes : (r : ℕ) → r < 65536 → crc_more r (r / 256 ∷ r % 256 ∷ []) ≡ 0
both_bytes r l =
    let low : crc_bits 8 (r % 256 * 256) (r % 256) ≡ 0 =
    ap (λ x. crc_bits 8 (r % 256 * 256) x) (omega arith) ∙ (crc_bits-own (r % 256 * 256) (omega arith) ∙ omega arith) in
    ap (λ t. crc_bits 8 t (r % 256)) (crc_bits-own r l) ∙ low

pub crc_of-own : (bytes : List ℕ) → crc_of (bytes ++ crc_bytes bytes) ≡ 0
crc_of-own bytes = crc_more-append 0xFFFF bytes (crc_bytes bytes) ∙ both_bytes (crc_of bytes) (crc_more-small bytes 0xFFFF (omega arith))
