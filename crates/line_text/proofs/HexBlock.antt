-- Two hex digits for each of eight bytes.
use Rattle.std.proofs.Common.{◌≡◌, ℕ, ◌+◌, ◌/◌, ◌%◌, ◌^◌, ◌<◌, List, [], ◌∷◌, ◌++◌, length, cond, ltb, bit_and, get_or, slice_index, replicate, refl, arith, Fits, w8}
use Rattle.std.specs.Simd.Lanes.{zip2, top, Each1}
use Rattle.hex.specs.Hex.{encode_with, encode_upper, upper_digits}
use Rattle.line_text.proofs.Tables.{agree}

-- the digit of a value, as a lane computes it
abbrev pub lane : ℕ → ℕ
lane x = (x + cond (top 7 (cond (ltb 9 x) 255 0)) 55 48) % 256

-- what the code computes of eight lanes
abbrev pub lanes : List ℕ → List ℕ
lanes b =
    let v = zip2 (λ a s. a / 2 ^ s) b (replicate 8 4) ++ zip2 bit_and b (replicate 8 15) in
    lane (get_or v 0 0) ∷ lane (get_or v 8 0) ∷ lane (get_or v 1 0) ∷ lane (get_or v 9 0)
    ∷ lane (get_or v 2 0) ∷ lane (get_or v 10 0) ∷ lane (get_or v 3 0) ∷ lane (get_or v 11 0)
    ∷ lane (get_or v 4 0) ∷ lane (get_or v 12 0) ∷ lane (get_or v 5 0) ∷ lane (get_or v 13 0)
    ∷ lane (get_or v 6 0) ∷ lane (get_or v 14 0) ∷ lane (get_or v 7 0) ∷ lane (get_or v 15 0) ∷ []

-- the digits of each byte
abbrev pub spread : List ℕ → List ℕ
spread [] = []
spread (b ∷ bs) = lane (b / 2 ^ 4) ∷ lane (bit_and b 15) ∷ spread bs

pub eight : (b : List ℕ) → length b ≡ 8 → lanes b ≡ spread b
eight (a ∷ b ∷ c ∷ d ∷ e ∷ f ∷ g ∷ h ∷ []) l = refl
eight _ l = absurd (omega arith)

-- the lane has the digit of each value
first : (b : ℕ) → b < 256 → lane (b / 2 ^ 4) ≡ slice_index upper_digits (b / 16)
first b h = agree (λ x. lane (x / 2 ^ 4)) (λ x. slice_index upper_digits (x / 16)) 256 b h refl

second : (b : ℕ) → b < 256 → lane (bit_and b 15) ≡ slice_index upper_digits (b % 16)
second b h = agree (λ x. lane (bit_and x 15)) (λ x. slice_index upper_digits (x % 16)) 256 b h refl

pub spread_is : (bs : List ℕ) → Each1 (Fits w8) bs → spread bs ≡ encode_upper bs
unfolding encode_with
spread_is [] e = refl
spread_is (b ∷ bs) e =
    let h : b < 256 = omega (arith, e.0.fits) in
    rw (first b h, second b h, spread_is bs e.1) refl
