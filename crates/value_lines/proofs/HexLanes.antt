-- Sixteen hex digits at a time.
use Rattle.std.proofs.Common.{◌≡◌, ◌∙◌, ◌<◌, ℕ, suc, ◌+◌, ◌-◌, ◌%◌, ◌^◌, Bool, true, false, not, cond, ltb, List, [], ◌∷◌, length, map, replicate, bit_or, get_or, refl, sym, ap, subst, arith, Fits, w8}
use Rattle.std.specs.List.{range_with_len, prefix_len}
use Rattle.std.specs.Simd.Lanes.{zip2, sel_l, top, Each1, mask_l}
use Rattle.std.proofs.lemmas.List.{length-map}
use Rattle.std.proofs.lemmas.List.FromFn.{get_or-map-range_with_len}
use Rattle.std.proofs.lemmas.Bool.Decides.{nat_tests}
use Rattle.std.proofs.lemmas.Simd.{leading_from_mask_l, mask_l-mod}
use Rattle.value_lines.specs.Digits.{AreDigits, digit}

-- what the code computes of vectors
abbrev pub vector : List ℕ → ℕ → List ℕ
vector c n =
    let d = zip2 (λ a b. (a + (2 ^ 8 - b)) % 2 ^ 8) c (replicate n 48) in
    let l = zip2 (λ a b. (a + (2 ^ 8 - b)) % 2 ^ 8) (zip2 bit_or c (replicate n 32)) (replicate n 87) in
    sel_l (map (top 7) (zip2 (λ a b. cond (ltb a b) 255 0) d (replicate n 10))) d
    (sel_l (map (top 7) (zip2 (λ a b. cond (ltb a b) 255 0) (zip2 (λ a b. (a + (2 ^ 8 - b)) % 2 ^ 8) l (replicate n 10)) (replicate n 6))) l (replicate n 16))

-- and of one lane
abbrev pub lane : ℕ → ℕ
lane x =
    let d = (x + (2 ^ 8 - 48)) % 2 ^ 8 in
    let l = (bit_or x 32 + (2 ^ 8 - 87)) % 2 ^ 8 in
    cond (top 7 (cond (ltb d 10) 255 0)) d (cond (top 7 (cond (ltb ((l + (2 ^ 8 - 10)) % 2 ^ 8) 6) 255 0)) l 16)

pub whole : (c : List ℕ) → vector c (length c) ≡ map lane c
whole [] = refl
whole (x ∷ xs) = ap (λ (t : List ℕ). lane x ∷ t) (whole xs)

-- the lane has the value of each byte
table_is : map lane (range_with_len 0 256) ≡ map digit (range_with_len 0 256)
table_is = refl

lane_is : (x : ℕ) → x < 256 → lane x ≡ digit x
lane_is x h = sym (get_or-map-range_with_len lane 0 256 x x 0 (omega arith) (omega arith)) ∙ (ap (λ (t : List ℕ). get_or t x 0) table_is ∙ get_or-map-range_with_len digit 0 256 x x 0 (omega arith) (omega arith))

pub lanes_are : (c : List ℕ) → Each1 (Fits w8) c → map lane c ≡ map digit c
lanes_are [] e = refl
lanes_are (x ∷ xs) e = ap (λ (a : ℕ). a ∷ map lane xs) (lane_is x (omega (arith, e.0.fits))) ∙ ap (λ (t : List ℕ). digit x ∷ t) (lanes_are xs e.1)

-- the lanes that are no digit's value, as the mask has them
abbrev is_bad : ℕ → Bool
is_bad x = top 7 (cond (ltb 15 x) 255 0)

-- what the mask is, of so many lanes
mask_is : (v : List ℕ) → map (top 7) (zip2 (λ a b. cond (ltb a b) 255 0) (replicate (length v) 15) v) ≡ map is_bad v
mask_is [] = refl
mask_is (x ∷ xs) = ap (λ (t : List Bool). is_bad x ∷ t) (mask_is xs)

mask_of : (v : List ℕ) → length v ≡ 16 → mask_l (map (top 7) (zip2 (λ a b. cond (ltb a b) 255 0) (replicate 16 15) v)) % 2 ^ 64 ≡ mask_l (map is_bad v)
mask_of v long =
    ap (λ (ms : List Bool). mask_l ms % 2 ^ 64) (subst (λ (n : ℕ). map (top 7) (zip2 (λ a b. cond (ltb a b) 255 0) (replicate n 15) v) ≡ map is_bad v) long (mask_is v))
    ∙ mask_l-mod (map is_bad v) 64 (omega (arith, length-map v is_bad, long))

-- no lane is bad
good : (x : ℕ) (n : ℕ) (xs : List ℕ) → cond (not (is_bad x)) (1 + n) 0 ≡ suc (length xs) → (x < 16) × (n ≡ length xs)
good x n xs h = go (ltb 15 x) refl h
  where
    go : (t : Bool) → ltb 15 x ≡ t → cond (not (top 7 (cond t 255 0))) (1 + n) 0 ≡ suc (length xs) → (x < 16) × (n ≡ length xs)
    go true e k = absurd (omega (arith, k))
    go false e k = (let g : x < 16 = grind (arith, nat_tests) in g, omega (arith, k))

all_good : (v : List ℕ) → prefix_len (λ (x : ℕ). not (is_bad x)) v ≡ length v → AreDigits v
all_good [] h = tt
all_good (x ∷ xs) h = let g = good x (prefix_len (λ (y : ℕ). not (is_bad y)) xs) xs h in (g.0, all_good xs g.1)

pub no_bad : (v : List ℕ) → length v ≡ 16 → mask_l (map (top 7) (zip2 (λ a b. cond (ltb a b) 255 0) (replicate 16 15) v)) % 2 ^ 64 ≡ 0 → AreDigits v
no_bad v long e = all_good v (leading_from_mask_l is_bad v (sym (mask_of v long) ∙ e))
