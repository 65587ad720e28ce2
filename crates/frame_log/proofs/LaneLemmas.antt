-- Lemmas on sixteen hex digits at a time.
use Rattle.std.proofs.Common.{suc, zero, ◌≤◌, take, ap₂, eqb, Bool, true, false, not, sym, ◌≡◌, ◌∙◌, ℕ, ◌+◌, ◌-◌, ◌%◌, ◌^◌, ◌<◌, List, [], ◌∷◌, length, map, cond, ltb, bit_or, bit_and, replicate, get_or, refl, ap, arith, Fits, w8}
use Rattle.std.specs.Simd.Lanes.{zip2, sel_l, top, Each1}
use Rattle.std.specs.Simd.Lanes.{mask_l}
use Rattle.std.proofs.lemmas.Simd.{length-zip2, tops_compared, mask_l-mod, leading_from_mask_l, trailing_mask_l}
use Rattle.std.proofs.lemmas.List.{map-id}
use Rattle.std.proofs.lemmas.List.Sums.{prefix_len-le-length}
use Rattle.std.proofs.lemmas.Bool.{eqb-true}
use lib.Count.{count_trailing_zeros}
use Rattle.std.proofs.lemmas.List.FromFn.{get_or-map-range_with_len}
use Rattle.std.specs.List.{range_with_len, prefix_len}
use Rattle.frame_log.specs.Line.{hex_digit}
use Rattle.frame_log.specs.Lanes.{is_digit}

-- what the code computes of vectors: where no digit stands, and the digits' values
abbrev pub flags : List ℕ → ℕ → List ℕ
flags c n = sel_l (map (top 7) (zip2 bit_or
    (zip2 (λ a b. cond (ltb a b) 255 0) (zip2 (λ a b. (a + (2 ^ 8 - b)) % 2 ^ 8) c (replicate n 48)) (replicate n 10))
    (zip2 (λ a b. cond (ltb a b) 255 0) (zip2 (λ a b. (a + (2 ^ 8 - b)) % 2 ^ 8) (zip2 bit_or c (replicate n 32)) (replicate n 97)) (replicate n 6))))
    (replicate n 0) (replicate n 16)

abbrev pub sums : List ℕ → ℕ → List ℕ
sums c n = zip2 (λ a b. (a + b) % 2 ^ 8) (zip2 bit_and c (replicate n 15))
    (sel_l (map (top 7) (zip2 (λ a b. cond (ltb a b) 255 0) (zip2 (λ a b. (a + (2 ^ 8 - b)) % 2 ^ 8) (zip2 bit_or c (replicate n 32)) (replicate n 97)) (replicate n 6)))
    (replicate n 9) (replicate n 0))

-- and of one lane
abbrev pub flag : ℕ → ℕ
flag x = cond (top 7 (bit_or (cond (ltb ((x + (2 ^ 8 - 48)) % 2 ^ 8) 10) 255 0) (cond (ltb ((bit_or x 32 + (2 ^ 8 - 97)) % 2 ^ 8) 6) 255 0))) 0 16

abbrev pub one_sum : ℕ → ℕ
one_sum x = (bit_and x 15 + cond (top 7 (cond (ltb ((bit_or x 32 + (2 ^ 8 - 97)) % 2 ^ 8) 6) 255 0)) 9 0) % 2 ^ 8

pub flags-whole : (c : List ℕ) → flags c (length c) ≡ map flag c
flags-whole [] = refl
flags-whole (x ∷ xs) = ap (λ (t : List ℕ). flag x ∷ t) (flags-whole xs)

pub sums-whole : (c : List ℕ) → sums c (length c) ≡ map one_sum c
sums-whole [] = refl
sums-whole (x ∷ xs) = ap (λ (t : List ℕ). one_sum x ∷ t) (sums-whole xs)

-- each byte, by a table
abbrev told : ℕ → ℕ
told x = cond (is_digit (flag x)) (one_sum x) 16

one : Bool → ℕ
one true = 1
one false = 0

abbrev of_flag : ℕ → ℕ
of_flag x = one (is_digit (flag x))

abbrev of_digit : ℕ → ℕ
of_digit x = one (is_digit (hex_digit x))

flag_table : map of_flag (range_with_len 0 256) ≡ map of_digit (range_with_len 0 256)
unfolding one
flag_table = refl

told_table : map told (range_with_len 0 256) ≡ map hex_digit (range_with_len 0 256)
told_table = refl

one_of : (a b : Bool) → one a ≡ one b → a ≡ b
unfolding one
one_of true true e = refl
one_of true false e = absurd (omega (arith, e))
one_of false true e = absurd (omega (arith, e))
one_of false false e = refl

flag_is : (x : ℕ) → x < 256 → is_digit (flag x) ≡ is_digit (hex_digit x)
flag_is x h =
    one_of (is_digit (flag x)) (is_digit (hex_digit x))
    (sym (get_or-map-range_with_len of_flag 0 256 x x 0 (omega arith) (omega arith)) ∙ (ap (λ (t : List ℕ). get_or t x 0) flag_table ∙ get_or-map-range_with_len of_digit 0 256 x x 0 (omega arith) (omega arith)))

told_is : (x : ℕ) → x < 256 → told x ≡ hex_digit x
told_is x h = sym (get_or-map-range_with_len told 0 256 x x 0 (omega arith) (omega arith)) ∙ (ap (λ (t : List ℕ). get_or t x 0) told_table ∙ get_or-map-range_with_len hex_digit 0 256 x x 0 (omega arith) (omega arith))

pub same_count : (c : List ℕ) → Each1 (Fits w8) c → prefix_len is_digit (map flag c) ≡ prefix_len is_digit (map hex_digit c)
same_count [] e = refl
same_count (x ∷ xs) e =
    ap (λ (b : Bool). cond b (1 + prefix_len is_digit (map flag xs)) 0) (flag_is x (omega (arith, e.0.fits)))
    ∙ ap (λ (n : ℕ). cond (is_digit (hex_digit x)) (1 + n) 0) (same_count xs e.1)

one_more : (n a : ℕ) (t : List ℕ) → take (1 + n) (a ∷ t) ≡ a ∷ take n t
one_more n a t = let e : 1 + n ≡ suc n = omega arith in rw e refl

-- as far as digits stand, the sums are their values
pub same_values : (c : List ℕ) → Each1 (Fits w8) c → take (prefix_len is_digit (map hex_digit c)) (map one_sum c) ≡ take (prefix_len is_digit (map hex_digit c)) (map hex_digit c)
same_values [] e = refl
same_values (x ∷ xs) e = go (same_values xs e.1) (is_digit (hex_digit x)) refl
  where
    go : take (prefix_len is_digit (map hex_digit xs)) (map one_sum xs) ≡ take (prefix_len is_digit (map hex_digit xs)) (map hex_digit xs) → (b : Bool) → is_digit (hex_digit x) ≡ b → take (cond b (1 + prefix_len is_digit (map hex_digit xs)) 0) (one_sum x ∷ map one_sum xs) ≡ take (cond b (1 + prefix_len is_digit (map hex_digit xs)) 0) (hex_digit x ∷ map hex_digit xs)
    go more true y =
        let f : is_digit (flag x) ≡ true = flag_is x (omega (arith, e.0.fits)) ∙ y in
        let v : one_sum x ≡ hex_digit x = sym (ap (λ (b : Bool). cond b (one_sum x) 16) f) ∙ told_is x (omega (arith, e.0.fits)) in
        let n = prefix_len is_digit (map hex_digit xs) in
        one_more n (one_sum x) (map one_sum xs) ∙ (ap₂ (λ (a : ℕ) (t : List ℕ). a ∷ t) v more ∙ sym (one_more n (hex_digit x) (map hex_digit xs)))
    go more false y = refl

-- the lanes that are no digit's value, as the mask has them
abbrev pub is_bad : ℕ → Bool
is_bad x = top 7 (cond (ltb 15 x) 255 0)

bit : (b : Bool) → not (top 7 (cond b 255 0)) ≡ not b
bit true = refl
bit false = refl

pub same_prefix : (xs : List ℕ) → prefix_len (λ (x : ℕ). not (is_bad x)) xs ≡ prefix_len is_digit xs
same_prefix [] = refl
same_prefix (x ∷ xs) = ap (λ (b : Bool). cond b (1 + prefix_len (λ (y : ℕ). not (is_bad y)) xs) 0) (bit (ltb 15 x)) ∙ ap (λ (n : ℕ). cond (not (ltb 15 x)) (1 + n) 0) (same_prefix xs)

-- what the mask is, of so many lanes
pub mask_is : (v : List ℕ) → map (top 7) (zip2 (λ a b. cond (ltb a b) 255 0) (replicate (length v) 15) v) ≡ map is_bad v
mask_is [] = refl
mask_is (x ∷ xs) = ap (λ (t : List Bool). is_bad x ∷ t) (mask_is xs)

-- the lanes in which two vectors differ
abbrev pub differ : ℕ → ℕ → Bool
differ a b = not (eqb a b)

pub equal-front : (n : ℕ) (xs ys : List ℕ) → length xs ≡ length ys → n ≤ prefix_len (λ (b : Bool). not b) (zip2 differ xs ys) → take n xs ≡ take n ys
equal-front zero xs ys l h = refl
equal-front (suc n) [] [] l h = refl
equal-front (suc n) [] (y ∷ ys) l h = absurd (omega (arith, l))
equal-front (suc n) (x ∷ xs) [] l h = absurd (omega (arith, l))
equal-front (suc n) (x ∷ xs) (y ∷ ys) l h = go (λ k. equal-front n xs ys (omega (arith, l)) k) (eqb x y) refl h
  where
    go : (n ≤ prefix_len (λ (b : Bool). not b) (zip2 differ xs ys) → take n xs ≡ take n ys) → (v : Bool) → eqb x y ≡ v → suc n ≤ cond (not (not v)) (1 + prefix_len (λ (b : Bool). not b) (zip2 differ xs ys)) 0 → take (suc n) (x ∷ xs) ≡ take (suc n) (y ∷ ys)
    go more true e k = ap₂ (λ (a : ℕ) (t : List ℕ). a ∷ t) (eqb-true x y e) (more (omega (arith, k)))
    go more false e k = absurd (omega (arith, k))

-- the mask of two vectors of sixteen lanes
pub mask_of_two : (a b : List ℕ) → length a ≡ 16 → length b ≡ 16
    → mask_l (map (top 7) (zip2 (λ x y. cond (not (eqb x y)) 255 0) a b)) % 2 ^ 64 ≡ mask_l (map (λ (t : Bool). t) (zip2 differ a b))
mask_of_two a b h k =
    let l : length (zip2 differ a b) ≡ length a = length-zip2 differ a b (h ∙ sym k) in
    ap (λ (ms : List Bool). mask_l ms % 2 ^ 64) (tops_compared w8 differ a b) ∙ mask_l-mod (zip2 differ a b) 64 (omega (arith, l, h)) ∙ ap mask_l (sym (map-id (zip2 differ a b)))

pub equal_all : (a b : List ℕ) (m : ℕ) → length a ≡ 16 → length b ≡ 16 → m ≡ mask_l (map (λ (t : Bool). t) (zip2 differ a b)) → m ≡ 0 → take 16 a ≡ take 16 b
equal_all a b m h k e z =
    let l : length (zip2 differ a b) ≡ length a = length-zip2 differ a b (h ∙ sym k) in
    let p = leading_from_mask_l (λ (t : Bool). t) (zip2 differ a b) (sym e ∙ z) in
    equal-front 16 a b (h ∙ sym k) (omega (arith, p, l, h))

pub record EqualTo (a b : List ℕ) (n : ℕ) : Type 0 where
  pub same : take n a ≡ take n b
  pub within : n ≤ 16

pub equal_some : (a b : List ℕ) (m : ℕ) → length a ≡ 16 → length b ≡ 16 → m ≡ mask_l (map (λ (t : Bool). t) (zip2 differ a b)) → 0 < m → EqualTo a b (count_trailing_zeros 64 m)
equal_some a b m h k e z =
    let ms = zip2 differ a b in
    let l : length ms ≡ length a = length-zip2 differ a b (h ∙ sym k) in
    let t : count_trailing_zeros 64 (mask_l (map (λ (t : Bool). t) ms)) ≡ prefix_len (λ (t : Bool). not t) ms = trailing_mask_l (λ (t : Bool). t) 64 ms (omega (arith, l, h)) (omega (arith, e, z)) in
    let is : count_trailing_zeros 64 m ≡ prefix_len (λ (t : Bool). not t) ms = ap (count_trailing_zeros 64) e ∙ t in
    let most = prefix_len-le-length (λ (t : Bool). not t) ms in record {
      same = equal-front (count_trailing_zeros 64 m) a b (h ∙ sym k) (omega (arith, is));
      within = omega (arith, is, most, l, h);
    }
