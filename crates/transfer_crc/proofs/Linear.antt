-- The register is linear in its start and in the bits, so a byte is one look-up in a table.
use Rattle.std.proofs.Common.{◌≡◌, ℕ, zero, suc, ◌+◌, ◌*◌, ◌/◌, ◌%◌, ◌<◌, Bool, true, false, cond, eqb, refl, sym, ap, ap₂, ◌∙◌, arith}
use Rattle.std.specs.Bool.{beq}
use Rattle.std.specs.Int.{bit_at}
use Rattle.std.specs.Int.RustNames.{bit_xor}
use Rattle.std.specs.Int.Bits.{xor_assoc, xor_self, xor_zero_l, xor_zero_r}
use Rattle.std.proofs.lemmas.Nat.{xor_comm, xor_mod}
use Rattle.std.proofs.lemmas.Nat.Bits.{bit_at_xor, bit_at-suc, bit_at-lt, same_from_bits}
use Rattle.transfer_crc.specs.Crc.{crc_bit, crc_bits}
use Rattle.transfer_crc.proofs.Own.{crc_bits-own}

twice_at : (a i : ℕ) → bit_at (2 * a) (suc i) ≡ bit_at a i
twice_at a i = bit_at-suc (2 * a) i ∙ (let half : 2 * a / 2 ≡ a = omega arith in ap (λ n. bit_at n i) half)

twice_xor : (a b : ℕ) → 2 * bit_xor a b ≡ bit_xor (2 * a) (2 * b)
twice_xor a b = same_from_bits (2 * bit_xor a b) (bit_xor (2 * a) (2 * b)) at
  where
    at : (i : ℕ) → bit_at (2 * bit_xor a b) i ≡ bit_at (bit_xor (2 * a) (2 * b)) i
    at zero =
        let low : (n : ℕ) → bit_at (2 * n) 0 ≡ 0 = λ n. omega arith in
        low (bit_xor a b) ∙ sym (bit_at_xor (2 * a) (2 * b) 0 ∙ ap₂ (λ m n. (m + n) % 2) (low a) (low b))
    at (suc i) =
        twice_at (bit_xor a b) i ∙ (bit_at_xor a b i
        ∙ sym (bit_at_xor (2 * a) (2 * b) (suc i) ∙ ap₂ (λ m n. (m + n) % 2) (twice_at a i) (twice_at b i)))

shifted_xor : (a b : ℕ) → 2 * bit_xor a b % 65536 ≡ bit_xor (2 * a % 65536) (2 * b % 65536)
shifted_xor a b = ap (λ n. n % 65536) (twice_xor a b) ∙ xor_mod (2 * a) (2 * b) 16

bit : Bool → ℕ
bit false = 0
bit true = 1

as_bit : (n : ℕ) → n < 2 → (v : Bool) × (n ≡ bit v)
unfolding bit
as_bit zero l = (false, refl)
as_bit (suc zero) l = (true, refl)
as_bit (suc (suc n)) l = absurd (omega arith)

same_bits : (t u b c : Bool) → eqb ((bit t + bit u) % 2) ((bit b + bit c) % 2) ≡ beq (eqb (bit t) (bit b)) (eqb (bit u) (bit c))
unfolding bit
same_bits true true true true = refl
same_bits true true true false = refl
same_bits true true false true = refl
same_bits true true false false = refl
same_bits true false true true = refl
same_bits true false true false = refl
same_bits true false false true = refl
same_bits true false false false = refl
same_bits false true true true = refl
same_bits false true true false = refl
same_bits false true false true = refl
same_bits false true false false = refl
same_bits false false true true = refl
same_bits false false true false = refl
same_bits false false false true = refl
same_bits false false false false = refl

same : (t u b c : ℕ) → t < 2 → u < 2 → b < 2 → c < 2 → eqb ((t + u) % 2) ((b + c) % 2) ≡ beq (eqb t b) (eqb u c)
same t u b c lt lu lb lc =
    let x = as_bit t lt in
    let y = as_bit u lu in
    let z = as_bit b lb in
    let w = as_bit c lc in
    rw (x.1, y.1, z.1, w.1) (same_bits x.0 y.0 z.0 w.0)

-- the polynomial is added where one of two differs, and not where both do
added : (d e : Bool) (x y p : ℕ) → cond (beq d e) (bit_xor x y) (bit_xor (bit_xor x y) p) ≡ bit_xor (cond d x (bit_xor x p)) (cond e y (bit_xor y p))
added true true x y p = refl
added true false x y p = xor_assoc x y p
added false true x y p = xor_assoc x y p ∙ (ap (bit_xor x) (xor_comm y p) ∙ sym (xor_assoc x p y))
added false false x y p =
    sym (xor_assoc x p (bit_xor y p)
    ∙ ap (bit_xor x) (ap (bit_xor p) (xor_comm y p) ∙ (sym (xor_assoc p p y) ∙ (ap (λ n. bit_xor n y) (xor_self p) ∙ xor_zero_l y))))

crc_bit_xor : (r s b c : ℕ) → b < 2 → c < 2 → crc_bit (bit_xor r s) ((b + c) % 2) ≡ bit_xor (crc_bit r b) (crc_bit s c)
crc_bit_xor r s b c lb lc =
    let t = r / 32768 % 2 in
    let u = s / 32768 % 2 in
    let x = 2 * r % 65536 in
    let y = 2 * s % 65536 in
    let top : bit_xor r s / 32768 % 2 ≡ (t + u) % 2 = bit_at_xor r s 15 in
    let test : eqb (bit_xor r s / 32768 % 2) ((b + c) % 2) ≡ beq (eqb t b) (eqb u c) =
    ap (λ n. eqb n ((b + c) % 2)) top ∙ same t u b c (bit_at-lt r 15) (bit_at-lt s 15) lb lc in
    ap₂ (λ (d : Bool) (n : ℕ). cond d n (bit_xor n 0x1021)) test (shifted_xor r s) ∙ added (eqb t b) (eqb u c) x y 0x1021

pub crc_bits_xor : (k r s x y : ℕ) → crc_bits k (bit_xor r s) (bit_xor x y) ≡ bit_xor (crc_bits k r x) (crc_bits k s y)
crc_bits_xor zero r s x y = refl
crc_bits_xor (suc k) r s x y =
    ap (λ n. crc_bits k n (bit_xor x y)) (ap (crc_bit (bit_xor r s)) (bit_at_xor x y k) ∙ crc_bit_xor r s (bit_at x k) (bit_at y k) (bit_at-lt x k) (bit_at-lt y k))
    ∙ crc_bits_xor k (crc_bit r (bit_at x k)) (crc_bit s (bit_at y k)) x y

-- a byte is that of the register's high byte, with the difference looked up
pub crc_bits-by_table : (r x : ℕ) → r < 65536 → crc_bits 8 r x ≡ bit_xor (r % 256 * 256) (crc_bits 8 0 (bit_xor (r / 256) x))
crc_bits-by_table r x l =
    let h = r / 256 in
    let back : bit_xor h (bit_xor h x) ≡ x = sym (xor_assoc h h x) ∙ (ap (λ n. bit_xor n x) (xor_self h) ∙ xor_zero_l x) in
    ap₂ (crc_bits 8) (sym (xor_zero_r r)) (sym back)
    ∙ (crc_bits_xor 8 r 0 h (bit_xor h x) ∙ ap (λ n. bit_xor n (crc_bits 8 0 (bit_xor h x))) (crc_bits-own r l))
