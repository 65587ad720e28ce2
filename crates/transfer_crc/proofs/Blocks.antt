-- Bytes in blocks: the register is the sum of one look-up for each byte.
use Rattle.std.proofs.Common.{◌≡◌, ℕ, ◌+◌, ◌*◌, ◌/◌, ◌%◌, ◌<◌, List, [], ◌∷◌, length, take, drop, get_or, refl, sym, ap, ap₂, ◌∙◌, arith}
use Rattle.std.proofs.Math.Seq.{take-add}
use Rattle.std.proofs.lemmas.List.{take-append-drop}
use Rattle.std.specs.Int.RustNames.{bit_xor}
use Rattle.std.specs.Int.Bits.{xor_assoc, xor_self, xor_zero_l, xor_zero_r}
use Rattle.transfer_crc.specs.Crc.{crc_bits, crc_more, after_zeros}
use Rattle.transfer_crc.proofs.Rows.{crc_more-append}
use Rattle.transfer_crc.proofs.Own.{crc_bits-own}
use Rattle.transfer_crc.proofs.Linear.{crc_bits_xor, crc_bits-by_table}

-- what is added to the register goes through the bytes as through zeros
more_xor : (xs : List ℕ) (r s : ℕ) → crc_more (bit_xor r s) xs ≡ bit_xor (crc_more r xs) (after_zeros (length xs) s)
more_xor [] r s = refl
more_xor (x ∷ xs) r s =
    ap (λ t. crc_more t xs) (ap (crc_bits 8 (bit_xor r s)) (sym (xor_zero_r x)) ∙ crc_bits_xor 8 r s x 0) ∙ more_xor xs (crc_bits 8 r x) (crc_bits 8 s 0)

-- from a register of zeros, the first byte is one look-up
pub from_zeros : (x : ℕ) (xs : List ℕ) → crc_more 0 (x ∷ xs) ≡ bit_xor (crc_more 0 xs) (after_zeros (length xs) (crc_bits 8 0 x))
from_zeros x xs = ap (λ t. crc_more t xs) (sym (xor_zero_l (crc_bits 8 0 x))) ∙ more_xor xs 0 (crc_bits 8 0 x)

back : (a x : ℕ) → bit_xor a (bit_xor a x) ≡ x
back a x = sym (xor_assoc a a x) ∙ (ap (λ n. bit_xor n x) (xor_self a) ∙ xor_zero_l x)

-- a register goes into the two bytes after it
pub absorbs : (r x y : ℕ) (xs : List ℕ) → r < 65536 → crc_more r (x ∷ y ∷ xs) ≡ crc_more 0 (bit_xor (r / 256) x ∷ bit_xor (r % 256) y ∷ xs)
absorbs r x y xs l =
    let low = r % 256 in
    let u = crc_bits 8 0 (bit_xor (r / 256) x) in
    let gone : crc_bits 8 (low * 256) low ≡ 0 = ap (crc_bits 8 (low * 256)) (omega arith) ∙ (crc_bits-own (low * 256) (omega arith) ∙ omega arith) in
    let next : crc_bits 8 (crc_bits 8 r x) y ≡ crc_bits 8 u (bit_xor low y) =
    ap₂ (crc_bits 8) (crc_bits-by_table r x l) (sym (back low y))
    ∙ (crc_bits_xor 8 (low * 256) u low (bit_xor low y) ∙ (ap (λ n. bit_xor n (crc_bits 8 u (bit_xor low y))) gone ∙ xor_zero_l (crc_bits 8 u (bit_xor low y)))) in
    ap (λ t. crc_more t xs) next

-- the next bytes of a row, and the last ones
pub block-next : (c i j n : ℕ) (bytes : List ℕ) (r s : ℕ) → j ≡ i + n → r ≡ crc_more c (take i bytes) → s ≡ crc_more r (take n (drop i bytes)) → s ≡ crc_more c (take j bytes)
block-next c i j n bytes r s at before step =
    step ∙ (ap (λ t. crc_more t (take n (drop i bytes))) before
    ∙ (sym (crc_more-append c (take i bytes) (take n (drop i bytes))) ∙ ap (crc_more c) (sym (ap (λ k. take k bytes) at ∙ take-add i n bytes))))

pub block-last : (c i : ℕ) (bytes : List ℕ) (r s : ℕ) → r ≡ crc_more c (take i bytes) → s ≡ crc_more r (drop i bytes) → s ≡ crc_more c bytes
block-last c i bytes r s before step =
    step ∙ (ap (λ t. crc_more t (drop i bytes)) before ∙ (sym (crc_more-append c (take i bytes) (drop i bytes)) ∙ ap (crc_more c) (take-append-drop i bytes)))

-- seven and eight bytes
abbrev pub after : ℕ → ℕ → ℕ
after k x = after_zeros k (crc_bits 8 0 x)

more : {n : ℕ} (x : ℕ) (xs : List ℕ) → crc_more 0 xs ≡ n → crc_more 0 (x ∷ xs) ≡ bit_xor n (after (length xs) x)
more x xs e = from_zeros x xs ∙ ap (λ t. bit_xor t (after (length xs) x)) e

pub five : (a b c d e : ℕ) → crc_more 0 (a ∷ b ∷ c ∷ d ∷ e ∷ []) ≡ bit_xor (bit_xor (bit_xor (bit_xor (after 0 e) (after 1 d)) (after 2 c)) (after 3 b)) (after 4 a)
five a b c d e = more a (b ∷ c ∷ d ∷ e ∷ []) (more b (c ∷ d ∷ e ∷ []) (more c (d ∷ e ∷ []) (more d (e ∷ []) refl)))

pub seven : (r : ℕ) (xs : List ℕ) → r < 65536 → length xs ≡ 7
    → crc_more r xs ≡ bit_xor (bit_xor (bit_xor (bit_xor (bit_xor (bit_xor (after 0 (get_or xs 6 0)) (after 1 (get_or xs 5 0))) (after 2 (get_or xs 4 0))) (after 3 (get_or xs 3 0))) (after 4 (get_or xs 2 0))) (after 5 (bit_xor (r % 256) (get_or xs 1 0)))) (after 6 (bit_xor (r / 256) (get_or xs 0 0)))
seven r (x0 ∷ x1 ∷ x2 ∷ x3 ∷ x4 ∷ x5 ∷ x6 ∷ []) l n =
    let ys = x2 ∷ x3 ∷ x4 ∷ x5 ∷ x6 ∷ [] in
    absorbs r x0 x1 ys l ∙ more (bit_xor (r / 256) x0) (bit_xor (r % 256) x1 ∷ ys) (more (bit_xor (r % 256) x1) ys (five x2 x3 x4 x5 x6))
seven r [] l n = absurd (omega arith)
seven r (x0 ∷ []) l n = absurd (omega arith)
seven r (x0 ∷ x1 ∷ []) l n = absurd (omega arith)
seven r (x0 ∷ x1 ∷ x2 ∷ []) l n = absurd (omega arith)
seven r (x0 ∷ x1 ∷ x2 ∷ x3 ∷ []) l n = absurd (omega arith)
seven r (x0 ∷ x1 ∷ x2 ∷ x3 ∷ x4 ∷ []) l n = absurd (omega arith)
seven r (x0 ∷ x1 ∷ x2 ∷ x3 ∷ x4 ∷ x5 ∷ []) l n = absurd (omega arith)
seven r (x0 ∷ x1 ∷ x2 ∷ x3 ∷ x4 ∷ x5 ∷ x6 ∷ x7 ∷ xs) l n = absurd (omega arith)

pub eight : (r : ℕ) (xs : List ℕ) → r < 65536 → length xs ≡ 8
    → crc_more r xs ≡ bit_xor (bit_xor (bit_xor (bit_xor (bit_xor (bit_xor (bit_xor (after 0 (get_or xs 7 0)) (after 1 (get_or xs 6 0))) (after 2 (get_or xs 5 0))) (after 3 (get_or xs 4 0))) (after 4 (get_or xs 3 0))) (after 5 (get_or xs 2 0))) (after 6 (bit_xor (r % 256) (get_or xs 1 0)))) (after 7 (bit_xor (r / 256) (get_or xs 0 0)))
eight r (x0 ∷ x1 ∷ x2 ∷ x3 ∷ x4 ∷ x5 ∷ x6 ∷ x7 ∷ []) l n =
    let ys = x2 ∷ x3 ∷ x4 ∷ x5 ∷ x6 ∷ x7 ∷ [] in
    absorbs r x0 x1 ys l
    ∙ more (bit_xor (r / 256) x0) (bit_xor (r % 256) x1 ∷ ys) (more (bit_xor (r % 256) x1) ys (more x2 (x3 ∷ x4 ∷ x5 ∷ x6 ∷ x7 ∷ []) (five x3 x4 x5 x6 x7)))
eight r [] l n = absurd (omega arith)
eight r (x0 ∷ []) l n = absurd (omega arith)
eight r (x0 ∷ x1 ∷ []) l n = absurd (omega arith)
eight r (x0 ∷ x1 ∷ x2 ∷ []) l n = absurd (omega arith)
eight r (x0 ∷ x1 ∷ x2 ∷ x3 ∷ []) l n = absurd (omega arith)
eight r (x0 ∷ x1 ∷ x2 ∷ x3 ∷ x4 ∷ []) l n = absurd (omega arith)
eight r (x0 ∷ x1 ∷ x2 ∷ x3 ∷ x4 ∷ x5 ∷ []) l n = absurd (omega arith)
eight r (x0 ∷ x1 ∷ x2 ∷ x3 ∷ x4 ∷ x5 ∷ x6 ∷ []) l n = absurd (omega arith)
eight r (x0 ∷ x1 ∷ x2 ∷ x3 ∷ x4 ∷ x5 ∷ x6 ∷ x7 ∷ x8 ∷ xs) l n = absurd (omega arith)
