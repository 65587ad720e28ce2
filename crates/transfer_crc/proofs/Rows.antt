-- Bytes in a row, and the size of the register.
use Rattle.std.proofs.Common.{◌≡◌, ℕ, zero, suc, ◌+◌, ◌*◌, ◌/◌, ◌%◌, ◌^◌, ◌<◌, eqb, List, [], ◌∷◌, ◌++◌, length, take, get_or, refl, sym, ap, ◌∙◌, add-one, arith}
use Rattle.std.proofs.Math.Seq.{take-suc}
use Rattle.std.specs.Int.RustNames.{bit_xor}
use Rattle.std.proofs.lemmas.Bool.{cond_both}
use Rattle.std.proofs.lemmas.Nat.{xor_of_16}
use Rattle.transfer_crc.specs.Crc.{crc_bit, crc_bits, crc_more}

pub crc_more-append : (c : ℕ) (a b : List ℕ) → crc_more c (a ++ b) ≡ crc_more (crc_more c a) b
crc_more-append c [] b = refl
crc_more-append c (x ∷ a) b = crc_more-append (crc_bits 8 c x) a b

crc_bit-small : (r b : ℕ) → crc_bit r b < 65536
crc_bit-small r b =
    cond_both (eqb (r / 32768 % 2) b) (2 * r % 65536) (bit_xor (2 * r % 65536) 0x1021) (λ t. t < 65536) (λ _. omega arith) (λ _. xor_of_16 (2 * r % 65536) 0x1021 (omega arith) (omega arith))

crc_bits-small : (k r x : ℕ) → r < 65536 → crc_bits k r x < 65536
crc_bits-small zero r x l = l
crc_bits-small (suc k) r x l = crc_bits-small k (crc_bit r (x / 2 ^ k % 2)) x (crc_bit-small r (x / 2 ^ k % 2))

pub crc_more-small : (bytes : List ℕ) (r : ℕ) → r < 65536 → crc_more r bytes < 65536
crc_more-small [] r l = l
crc_more-small (x ∷ bytes) r l = crc_more-small bytes (crc_bits 8 r x) (crc_bits-small 8 r x l)

-- one more byte of a row
pub crc_more-next : (c i : ℕ) (bytes : List ℕ) (r s : ℕ) → i < length bytes → r ≡ crc_more c (take i bytes) → s ≡ crc_bits 8 r (get_or bytes i 0)
    → s ≡ crc_more c (take (i + 1) bytes)
crc_more-next c i bytes r s l before step =
    step
    ∙ sym (ap (λ n. crc_more c (take n bytes)) (add-one i) ∙ (ap (crc_more c) (take-suc bytes i 0 l)
    ∙ (crc_more-append c (take i bytes) (get_or bytes i 0 ∷ []) ∙ ap (λ t. crc_bits 8 t (get_or bytes i 0)) (sym before))))
