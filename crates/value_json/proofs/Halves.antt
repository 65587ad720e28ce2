-- Float16 values as float32 values.
use Rattle.std.proofs.Common.{◌≡◌, ◌∙◌, ℕ, zero, suc, ◌+◌, ◌*◌, ◌/◌, ◌%◌, ◌^◌, ◌<◌, ◌≤◌, ◌==◌, ◌⊎◌, inl, inr, Bool, true, false, refl, sym, ap, arith, pos}
use Rattle.std.specs.Prelude.{nat_le, if◌then◌else◌}
use Rattle.std.specs.Float.{Float, binary32, nan, inf, fin}
use lib.Ieee.{of_fields, of_bits, odd, mul, unlike, up, down, round}
use lib.Ieee.Exact.{HasValue, odd_sign}
use lib.Ieee.Fits.{down_pos}
use lib.Ieee.Scale.{round_same}
use lib.Dec.{leb, eqb}
use lib.Pow.{pow_pos}
use borrow.Author.Tests.{ne_eqb, lt-leb, le-leb}
use mathlib.Core.Bool.{cond}
use Rattle.value_json.specs.Floats.{half, half_of}

-- a float32 of a sign, an exponent field and a fraction field
pattern_is : (b : ℕ) → of_bits binary32 b ≡ of_fields binary32 (leb (2 ^ 31) b) (b % 2 ^ 31 / 2 ^ 23) (b % 2 ^ 23)
unfolding of_bits
pattern_is b = refl

-- 2^112
scale_is : of_bits binary32 0x7780_0000 ≡ fin false 1 (pos 112)
unfolding of_bits of_fields odd
scale_is = refl

keeps : (t : Bool) → unlike t false ≡ t
keeps true = refl
keeps false = refl

-- a float32 of the size q / 2^149 times 2^112 is the float32 nearest to n / 2^24
scaled : (x : Float) (s : Bool) (q n : ℕ) → q ≡ n * 2 ^ 13 → HasValue x s q (2 ^ 149) → mul binary32 x (fin false 1 (pos 112)) ≡ round binary32 s n (2 ^ 24)
unfolding mul
scaled nan s q n e h = absurd h
scaled (inf t) s q n e h = absurd h
scaled (fin t m e) s q n is (sign, size) =
    let k : m * up e * 2 ^ 149 ≡ n * 2 ^ 13 * down e = size ∙ ap (λ x. x * down e) is in
    let p : m * up e * (1 * 2 ^ 112) * 2 ^ 24 ≡ n * (down e * 1) = omega (arith, k) in
    let d : 0 < down e * 1 = omega (arith, down_pos e) in
    ap (λ b. round binary32 b (m * up e * (1 * 2 ^ 112)) (down e * 1)) (keeps t ∙ sign)
    ∙ round_same binary32 s (m * up e * (1 * 2 ^ 112)) (down e * 1) n (2 ^ 24) d (pow_pos 24) p

-- the fields of a finite float16 in the places of those of a float32, times 2^112
fields_scaled : (s : Bool) (e t : ℕ) → e < 31 → mul binary32 (of_fields binary32 s e (t * 8192)) (fin false 1 (pos 112)) ≡ half_of s e t
unfolding of_fields
fields_scaled s zero t h = scaled (odd 24 s (t * 8192) 0 149) s (t * 8192 * 2 ^ 0) t (omega arith) (odd_sign 24 s (t * 8192) 0 149)
fields_scaled s (suc e) t h =
    let n : eqb (suc e) 255 ≡ false = ne_eqb (suc e) 255 (λ x. omega arith) in
    let m : eqb (suc e) 31 ≡ false = ne_eqb (suc e) 31 (λ x. omega arith) in
    ap (λ b. mul binary32 (cond b (cond (eqb (t * 8192) 0) (inf s) nan) (odd 24 s (2 ^ 23 + t * 8192) e 149)) (fin false 1 (pos 112))) n
    ∙ scaled (odd 24 s (2 ^ 23 + t * 8192) e 149) s ((2 ^ 23 + t * 8192) * 2 ^ e) ((1024 + t) * 2 ^ e) (omega arith) (odd_sign 24 s (2 ^ 23 + t * 8192) e 149)
    ∙ sym (ap (λ b. if b then (if t == 0 then inf s else nan) else round binary32 s ((1024 + t) * 2 ^ e) (2 ^ 24)) m)

-- an infinity, or NaN
fields_special : (s : Bool) (t : ℕ) → of_fields binary32 s 255 (t * 8192) ≡ half_of s 31 t
unfolding of_fields
fields_special s zero = refl
fields_special s (suc t) =
    let a : eqb (suc t * 8192) 0 ≡ false = ne_eqb (suc t * 8192) 0 (λ x. omega (arith, x)) in
    let b : eqb (suc t) 0 ≡ false = ne_eqb (suc t) 0 (λ x. omega (arith, x)) in
    ap (λ x. cond x (inf s) nan) a ∙ sym (ap (λ x. cond x (inf s) nan) b)

-- a sign's bit
abbrev pub IsSign : ℕ → ℕ → Type 0
IsSign n sign = ((0x8000 ≤ n) × (sign ≡ 2 ^ 31)) ⊎ ((n < 0x8000) × (sign ≡ 0))

signs : (n b sign r : ℕ) → IsSign n sign → b ≡ sign + r → r < 2 ^ 31 → (leb (2 ^ 31) b ≡ nat_le 0x8000 n) × (b % 2 ^ 31 ≡ r)
signs n b sign r (inl (h, k)) e f =
    let x : leb (2 ^ 31) b ≡ true = le-leb (2 ^ 31) b (omega arith) in
    let y : leb 0x8000 n ≡ true = le-leb 0x8000 n h in
    (x ∙ sym y, omega arith)
signs n b sign r (inr (h, k)) e f =
    let x : leb (2 ^ 31) b ≡ false = lt-leb (2 ^ 31) b (omega arith) in
    let y : leb 0x8000 n ≡ false = lt-leb 0x8000 n h in
    (x ∙ sym y, omega arith)

same_fields : (s u : Bool) (e f t v : ℕ) → s ≡ u → e ≡ f → t ≡ v → of_fields binary32 s e t ≡ of_fields binary32 u f v
same_fields s u e f t v p q r = λ i. of_fields binary32 (p i) (q i) (r i)

pub half_finite : (n b sign size : ℕ) → IsSign n sign → size ≡ n % 0x8000 → size < 0x7c00 → b ≡ sign + size * 0x2000 →
    mul binary32 (of_bits binary32 b) (of_bits binary32 0x7780_0000) ≡ half n
unfolding half
half_finite n b sign size is e f g =
    let k = signs n b sign (size * 0x2000) is g (omega arith) in
    let low : b % 2 ^ 31 ≡ size * 0x2000 = k.1 in
    let x : b % 2 ^ 31 / 2 ^ 23 ≡ n / 1024 % 32 = omega arith in
    let t : b % 2 ^ 23 ≡ n % 1024 * 8192 = omega arith in
    ap (λ y. mul binary32 y (of_bits binary32 0x7780_0000)) (pattern_is b ∙ same_fields _ _ _ _ _ _ k.0 x t)
    ∙ ap (λ y. mul binary32 (of_fields binary32 (nat_le 0x8000 n) (n / 1024 % 32) (n % 1024 * 8192)) y) scale_is
    ∙ fields_scaled (nat_le 0x8000 n) (n / 1024 % 32) (n % 1024) (omega arith)

pub half_special : (n b sign size : ℕ) → IsSign n sign → size ≡ n % 0x8000 → 0x7c00 ≤ size → b ≡ sign + size * 0x2000 + 0x7000_0000 →
    of_bits binary32 b ≡ half n
unfolding half
half_special n b sign size is e f g =
    let k = signs n b sign (size * 0x2000 + 0x7000_0000) is (omega arith) (omega arith) in
    let low : b % 2 ^ 31 ≡ size * 0x2000 + 0x7000_0000 = k.1 in
    let x : b % 2 ^ 31 / 2 ^ 23 ≡ 255 = omega arith in
    let t : b % 2 ^ 23 ≡ n % 1024 * 8192 = omega arith in
    let h : 31 ≡ n / 1024 % 32 = omega arith in
    pattern_is b ∙ same_fields _ _ _ _ _ _ k.0 x t ∙ fields_special (nat_le 0x8000 n) (n % 1024)
    ∙ ap (λ y. half_of (nat_le 0x8000 n) y (n % 1024)) h
