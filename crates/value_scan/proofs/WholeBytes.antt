-- Bits that are whole bytes.
use Rattle.std.proofs.Common.{◌≡◌, ◌∙◌, ℕ, ◌+◌, ◌*◌, ◌/◌, ◌%◌, ◌<◌, ◌≤◌, List, ◌++◌, length, take, drop, get_or, length-take, take-append-drop, sym, ap, arith}
use Rattle.std.proofs.lemmas.List.{append-nil}
use Rattle.cy_bits.specs.Bits.{bits, bytes, zeros, gap}
use Rattle.cy_bits.specs.Put.{put_bits}
use Rattle.cy_bits.proofs.BitPlaces.{length_bits}
use Rattle.wire_values.proofs.Buffers.{front_bytes}
use Rattle.value_scan.proofs.BlockLemmas.{take_byte}

pub whole_bytes : (b : List ℕ) (p : ℕ) → ((i : ℕ) → get_or b i 0 < 256) → p % 8 ≡ 0 → p ≤ 8 * length b → take (p / 8) b ≡ bytes (take p (bits b))
unfolding put_bits
whole_bytes b p small whole within =
    let l = take p (bits b) in
    let n = p / 8 in
    let long : length l ≡ p = omega (arith, length-take p (bits b), length_bits b, within) in
    let none : gap (length l) ≡ 0 = omega arith in
    let pad : l ++ zeros (gap (length l)) ≡ l = ap (λ k. l ++ zeros k) none ∙ append-nil l in
    let size : p ≡ 0 + length l = omega (arith, long) in
    let e : bits b ≡ l ++ drop (0 + length l) (bits b) = sym (take-append-drop p (bits b)) ∙ ap (λ m. l ++ drop m (bits b)) size in
    front_bytes b b l n (take_byte n b small) (omega arith) (e ∙ ap (λ x. x ++ drop (0 + length x) (bits b)) (sym pad)) (omega arith)
