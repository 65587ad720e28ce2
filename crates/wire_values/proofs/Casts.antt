-- Numbers in the range of a type, by their low bits
use Rattle.std.proofs.Common.{◌≡◌, ◌∙◌, ℕ, ◌+◌, ◌*◌, ◌-◌, ◌/◌, ◌%◌, ◌^◌, ◌<◌, ◌≤◌, min, true, false, refl, sym, ap, subst, arith, pos, negsuc, ℤ}
use Rattle.std.proofs.Common.{inl, inr}
use Rattle.std.proofs.lemmas.Bool.{false≢true, cases_lt}
use Rattle.std.proofs.Math.Nat.{mul-le-mul_right, mod-eq_of_lt}
use Rattle.std.proofs.lemmas.Nat.{pow_pos, pow-add, mod_low, shr_high, mod_below, shr_split, pow_below}
use Rattle.std.proofs.Math.Pow.{pow_mono}
use Rattle.cy_bits.specs.Bits.{bits_of}
use Rattle.cy_bits.proofs.BitPlaces.{bits_of_low}
use Rattle.dsdl_types.specs.Cast.{cast_int, cast_uint}
use Rattle.dsdl_types.specs.Encoding.{raw}
use Rattle.dsdl_types.specs.Fits.{IsNumber}
use Rattle.dsdl_types.specs.Values.{Num}
use Rattle.wire_values.specs.Numbers.{is_negative, magnitude}

-- all ones of 64 bits are all ones of w bits
pub most_is : (w j : ℕ) → w + j ≡ 64 → (2 ^ 64 - 1) / 2 ^ j ≡ 2 ^ w - 1
most_is w j e =
    let a : 2 ^ 64 ≡ 2 ^ w * 2 ^ j = ap (λ n. 2 ^ n) (sym e) ∙ pow-add 2 w j in
    let p = pow_pos w in
    let q = pow_pos j in
    let b : (2 ^ w - 1) * 2 ^ j + 2 ^ j ≡ 2 ^ w * 2 ^ j = (let f : 2 ^ w - 1 + 1 ≡ 2 ^ w = omega arith in (let g : (2 ^ w - 1 + 1) * 2 ^ j ≡ (2 ^ w - 1) * 2 ^ j + 2 ^ j = omega arith in sym g ∙ ap (λ n. n * 2 ^ j) f)) in
    let c : 2 ^ 64 - 1 ≡ (2 ^ w - 1) * 2 ^ j + (2 ^ j - 1) = omega arith in
    ap (λ n. n / 2 ^ j) c ∙ shr_high (2 ^ w - 1) j (2 ^ j - 1) (omega arith)

-- the low bits of a complement
pub complement : (w n : ℕ) → w ≤ 64 → n < 2 ^ 64 → bits_of w (2 ^ 64 - 1 - n) ≡ bits_of w (2 ^ w - 1 - n % 2 ^ w)
complement w n h small =
    let j = 64 - w in
    let e : w + j ≡ 64 = omega arith in
    let a : 2 ^ 64 ≡ 2 ^ w * 2 ^ j = ap (λ k. 2 ^ k) (sym e) ∙ pow-add 2 w j in
    let q = n / 2 ^ w in
    let r = n % 2 ^ w in
    let low : r < 2 ^ w = mod_below n (2 ^ w) (pow_pos w) in
    let whole : q * 2 ^ w + r ≡ n = shr_split n w in
    let many : q < 2 ^ j = quotient q (2 ^ w) (2 ^ j) r (subst (λ k. q * 2 ^ w + r < k) a (subst (λ k. k < 2 ^ 64) (sym whole) small)) in
    let d = 2 ^ j - 1 - q in
    let f : d + (1 + q) ≡ 2 ^ j = omega arith in
    let g : (d + (1 + q)) * 2 ^ w ≡ d * 2 ^ w + (2 ^ w + q * 2 ^ w) = omega arith in
    let k : d * 2 ^ w + (2 ^ w + q * 2 ^ w) ≡ 2 ^ 64 = sym g ∙ ap (λ x. x * 2 ^ w) f ∙ (let m : 2 ^ j * 2 ^ w ≡ 2 ^ w * 2 ^ j = omega arith in m) ∙ sym a in
    let is : 2 ^ 64 - 1 - n ≡ d * 2 ^ w + (2 ^ w - 1 - r) = omega arith in
    sym (bits_of_low w (2 ^ 64 - 1 - n)) ∙ ap (λ x. bits_of w (x % 2 ^ w)) is ∙ ap (λ x. bits_of w x) (mod_low d w (2 ^ w - 1 - r) (omega arith))
  where
    quotient : (q m k r : ℕ) → q * m + r < m * k → q < k
    quotient q m k r h = elim (cases_lt q k) [
      | inl low ↦ low
      | inr high ↦ let e : m * k ≤ q * m = (let f : k * m ≤ q * m = mul-le-mul_right m high in omega arith) in absurd (omega arith)
    ]

pub saturated_low : (w m n : ℕ) (z : ℤ) → is_negative z ≡ false → m ≡ magnitude z → n ≡ 2 ^ w - 1 → bits_of w (min m n) ≡ bits_of w (cast_uint w true z)
saturated_low w m n (pos k) h e f = λ i. bits_of w (min (e i) (f i))
saturated_low w m n (negsuc k) h e f = absurd (false≢true (sym h))

pub saturated_negative : (w : ℕ) (z : ℤ) → is_negative z ≡ true → bits_of w 0 ≡ bits_of w (cast_uint w true z)
saturated_negative w (pos k) h = absurd (false≢true h)
saturated_negative w (negsuc k) h = refl

pub truncated_low : (w m : ℕ) (z : ℤ) → is_negative z ≡ false → m ≡ magnitude z → bits_of w m ≡ bits_of w (cast_uint w false z)
truncated_low w m (pos k) h e = ap (λ n. bits_of w n) e ∙ sym (bits_of_low w k)
truncated_low w m (negsuc k) h e = absurd (false≢true (sym h))

pub truncated_negative : (w m : ℕ) (z : ℤ) → w ≤ 64 → IsNumber z → is_negative z ≡ true → m ≡ magnitude z → bits_of w (2 ^ 64 - 1 - m) ≡ bits_of w (cast_uint w false z)
truncated_negative w m (pos k) h n neg e = absurd (false≢true neg)
truncated_negative w m (negsuc k) h n neg e = ap (λ x. bits_of w (2 ^ 64 - 1 - x)) e ∙ complement w k h (omega arith)

pub signed_low : (w m n k : ℕ) (z : ℤ) → is_negative z ≡ false → m ≡ magnitude z → n ≡ 2 ^ (w - 1) - 1 → k ≡ min m n → bits_of w k ≡ bits_of w (raw w (Num (cast_int w z)))
signed_low w m n k (pos i) h e f g = ap (λ x. bits_of w x) (g ∙ (λ j. min (e j) (f j)))
signed_low w m n k (negsuc i) h e f g = absurd (false≢true (sym h))

pub signed_negative : (w m n k : ℕ) (z : ℤ) → 1 ≤ w → w ≤ 64 → is_negative z ≡ true → m ≡ magnitude z → n ≡ 2 ^ (w - 1) - 1 → k ≡ min m n → bits_of w (2 ^ 64 - 1 - k) ≡ bits_of w (raw w (Num (cast_int w z)))
signed_negative w m n k (pos i) one h neg e f g = absurd (false≢true neg)
signed_negative w m n k (negsuc i) one h neg e f g =
    let is : k ≡ min i (2 ^ (w - 1) - 1) = g ∙ (λ j. min (e j) (f j)) in
    let half : 2 ^ (w - 1) < 2 ^ w = pow_below (w - 1) w (omega arith) in
    let most : 2 ^ w ≤ 2 ^ 64 = pow_mono h in
    let low : k < 2 ^ w = omega arith in
    let same : k % 2 ^ w ≡ k = mod_small k (2 ^ w) low in
    complement w k h (omega arith) ∙ ap (λ x. bits_of w (2 ^ w - 1 - x)) (same ∙ is)
  where
    mod_small : (n m : ℕ) → n < m → n % m ≡ n
    mod_small n m h = let e : n % m ≡ n = mod-eq_of_lt h in e
