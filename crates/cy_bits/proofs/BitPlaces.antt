-- Bits at a place of bytes: those that are read there, and those that are put there
use Rattle.std.proofs.Common.{◌≡◌, ℕ, zero, suc, ◌+◌, ◌*◌, ◌-◌, ◌/◌, ◌%◌, ◌^◌, ◌<◌, ◌≤◌, ◌==◌, Bool, true, false, List, [], ◌∷◌, ◌++◌, length, take, drop, get_or, refl, sym, ap, ◌∙◌, subst, arith, inl, inr, append_assoc, length-append}
use Rattle.std.proofs.lemmas.Bool.{cases_lt}
use Rattle.std.proofs.lemmas.List.{take_at, drop_at, drop_all}
use Rattle.std.proofs.lemmas.Nat.{pow_pos, shr-shr, mod_below, mod-pow-add, shl_whole}
use Rattle.std.proofs.Math.Nat.{zero-div, zero-mod, mul_left_comm}
use Rattle.std.proofs.Math.Pow.{mod-mod-pow, pow_mono}
use Rattle.std.proofs.Math.Seq.{drop-append-add}
use Rattle.cy_bits.specs.Bits.{one, number, bits_of, bits}
use Rattle.cy_bits.proofs.BitFacts.{length_bits_of, number_bits_of}

pub length_bits : (b : List ℕ) → length (bits b) ≡ 8 * length b
length_bits [] = refl
length_bits (x ∷ b) = omega (arith, length-append (bits_of 8 x) (bits b), length_bits_of 8 x, length_bits b)

-- the low bits of a number, and those behind them
pub bits_of_split : (a b n : ℕ) → bits_of (a + b) n ≡ bits_of a n ++ bits_of b (n / 2 ^ a)
unfolding bits_of
bits_of_split zero b n =
    let e : zero + b ≡ b = omega arith in
    let f : n ≡ n / 2 ^ zero = omega arith in
    ap (λ m. bits_of m n) e ∙ ap (λ m. bits_of b m) f
bits_of_split (suc a) b n =
    let e : suc a + b ≡ suc (a + b) = omega arith in
    let f : 1 + a ≡ suc a = omega arith in
    let half : n / 2 ≡ n / 2 ^ 1 = refl in
    let h : n / 2 / 2 ^ a ≡ n / 2 ^ suc a = shr-shr n 1 a ∙ ap (λ m. n / 2 ^ m) f in
    ap (λ m. bits_of m n) e ∙ ap (λ l. (n % 2 == 1) ∷ l) (bits_of_split a b (n / 2) ∙ ap (λ m. bits_of a (n / 2) ++ bits_of b m) h)

-- only the low bits of a number count
pub bits_of_mod : (w k n : ℕ) → bits_of w (n % 2 ^ (w + k)) ≡ bits_of w n
unfolding bits_of
bits_of_mod zero k n = refl
bits_of_mod (suc w) k n =
    let e : suc w + k ≡ suc (w + k) = omega arith in
    let d : 2 ^ suc (w + k) ≡ 2 * 2 ^ (w + k) = omega arith in
    let p = pow_pos (w + k) in
    let low : n % 2 ^ (suc w + k) % 2 ≡ n % 2 = ap (λ m. n % 2 ^ m % 2) e ∙ low_bit (w + k) n in
    let high : n % 2 ^ (suc w + k) / 2 ≡ n / 2 % 2 ^ (w + k) = ap (λ m. n % 2 ^ m / 2) e ∙ other_bits (w + k) n in
    ap (λ m. (m == 1) ∷ bits_of w (n % 2 ^ (suc w + k) / 2)) low ∙ ap (λ m. (n % 2 == 1) ∷ bits_of w m) high ∙ ap (λ l. (n % 2 == 1) ∷ l) (bits_of_mod w k (n / 2))
  where
    low_bit : (k n : ℕ) → n % 2 ^ suc k % 2 ≡ n % 2
    low_bit k n = let e : k + 1 ≡ suc k = omega arith in ap (λ m. n % 2 ^ m % 2) (sym e) ∙ mod-mod-pow n k 1

    other_bits : (k n : ℕ) → n % 2 ^ suc k / 2 ≡ n / 2 % 2 ^ k
    other_bits k n =
        let e : k + 1 ≡ suc k = omega arith in
        let m : n % 2 ^ (k + 1) ≡ (n / 2 ^ 1 % 2 ^ k) * 2 ^ 1 + n % 2 ^ 1 = mod-pow-add n k 1 in
        ap (λ j. n % 2 ^ j / 2) (sym e) ∙ (let f : n % 2 ^ (k + 1) / 2 ≡ n / 2 % 2 ^ k = omega (arith, m) in f)

pub bits_of_low : (w n : ℕ) → bits_of w (n % 2 ^ w) ≡ bits_of w n
bits_of_low w n = let e : w ≡ w + 0 = omega arith in ap (λ m. bits_of w (n % 2 ^ m)) e ∙ bits_of_mod w 0 n

pub number_low : (w n : ℕ) → number (bits_of w n) ≡ n % 2 ^ w
number_low w n = ap number (sym (bits_of_low w n)) ∙ number_bits_of w (n % 2 ^ w) (mod_below n (2 ^ w) (pow_pos w))

none : (k p : ℕ) → take {A = Bool} k (drop p []) ≡ []
none zero p = refl
none (suc k) zero = refl
none (suc k) (suc p) = refl

nothing : (n m : ℕ) → n ≡ 0 → 0 ≡ 0 + n * m
nothing n m e = let f : n * m ≡ 0 * m = ap (λ k. k * m) e in omega arith

-- the number of bits of which some are taken first
pub number_take_more : (a b : ℕ) (l : List Bool) → number (take (a + b) l) ≡ number (take a l) + number (take b (drop a l)) * 2 ^ a
unfolding number
number_take_more zero b l =
    let e : zero + b ≡ b = omega arith in
    let n = number (take b l) in
    ap (λ m. number (take m l)) e ∙ (let f : n ≡ 0 + n * 2 ^ zero = omega arith in f)
number_take_more (suc a) b [] = ap number (none (suc a + b) 0) ∙ nothing (number (take b [])) (2 ^ suc a) (ap number (none b 0))
number_take_more (suc a) b (x ∷ l) =
    let e : suc a + b ≡ suc (a + b) = omega arith in
    let d : 2 ^ suc a ≡ 2 * 2 ^ a = omega arith in
    let h = number_take_more a b l in
    let m = number (take b (drop a l)) in
    let k : m * 2 ^ suc a ≡ 2 * (m * 2 ^ a) = ap (λ z. m * z) d ∙ mul_left_comm m 2 (2 ^ a) in
    ap (λ n. number (take n (x ∷ l))) e ∙ (let f : one x + 2 * number (take (a + b) l) ≡ one x + 2 * number (take a l) + m * 2 ^ suc a = omega (arith, h, k) in f)

pub number_below : (w : ℕ) (l : List Bool) → number (take w l) < 2 ^ w
unfolding number
number_below zero l = omega arith
number_below (suc w) [] = pow_pos (suc w)
number_below (suc w) (true ∷ l) = let d : 2 ^ suc w ≡ 2 * 2 ^ w = omega arith in omega (arith, number_below w l)
number_below (suc w) (false ∷ l) = let d : 2 ^ suc w ≡ 2 * 2 ^ w = omega arith in omega (arith, number_below w l)

-- a byte's bits, in three parts
pub byte_parts : (o k r x : ℕ) → o + (k + r) ≡ 8 → bits_of 8 x ≡ bits_of o x ++ (bits_of k (x / 2 ^ o) ++ bits_of r (x / 2 ^ (o + k)))
byte_parts o k r x e =
    ap (λ m. bits_of m x) (sym e)
    ∙ bits_of_split o (k + r) x
    ∙ ap (λ l. bits_of o x ++ l) (bits_of_split k r (x / 2 ^ o) ∙ ap (λ m. bits_of k (x / 2 ^ o) ++ bits_of r m) (shr-shr x o k))

take_middle : {A : Type 0} (a b c d : List A) (o k : ℕ) → length a ≡ o → length b ≡ k → take k (drop o ((a ++ (b ++ c)) ++ d)) ≡ b
take_middle a b c d o k e f =
    ap (λ l. take k (drop o l)) (append_assoc a (b ++ c) d)
    ∙ ap (λ l. take k l) (drop_at a ((b ++ c) ++ d) o e)
    ∙ ap (λ l. take k l) (append_assoc b c d)
    ∙ take_at b (c ++ d) k f

zero_part : (o k : ℕ) → 0 / 2 ^ o % 2 ^ k ≡ number []
unfolding number
zero_part o k = let z : 0 / 2 ^ o ≡ 0 = zero-div (2 ^ o) in ap (λ m. m % 2 ^ k) z ∙ (let y : 0 % 2 ^ k ≡ 0 = zero-mod (2 ^ k) in y)

-- bits within one byte
pub bits_in_byte : (b : List ℕ) (p k : ℕ) → p % 8 + k ≤ 8 → number (take k (drop p (bits b))) ≡ get_or b (p / 8) 0 / 2 ^ (p % 8) % 2 ^ k
bits_in_byte [] p k h = ap number (none k p) ∙ sym (zero_part (p % 8) k)
bits_in_byte (x ∷ b) p k h = elim (cases_lt p 8) [
  | inl low ↦
      let q : 0 ≡ p / 8 = omega arith in
      let r : p ≡ p % 8 = omega arith in
      let s : p + (k + (8 - (p + k))) ≡ 8 = omega arith in
      ap (λ l. number (take k (drop p (l ++ bits b)))) (byte_parts p k (8 - (p + k)) x s)
      ∙ ap number (take_middle (bits_of p x) (bits_of k (x / 2 ^ p)) (bits_of (8 - (p + k)) (x / 2 ^ (p + k))) (bits b) p k (length_bits_of p x) (length_bits_of k (x / 2 ^ p)))
      ∙ number_low k (x / 2 ^ p)
      ∙ ap (λ m. x / 2 ^ m % 2 ^ k) r
      ∙ ap (λ m. get_or (x ∷ b) m 0 / 2 ^ (p % 8) % 2 ^ k) q
  | inr high ↦
      let q : suc ((p - 8) / 8) ≡ p / 8 = omega arith in
      let r : (p - 8) % 8 ≡ p % 8 = omega arith in
      let g : (p - 8) % 8 + k ≤ 8 = omega arith in
      ap (λ l. number (take k l)) (drop_byte x b p high)
      ∙ bits_in_byte b (p - 8) k g
      ∙ ap (λ m. get_or b ((p - 8) / 8) 0 / 2 ^ m % 2 ^ k) r
      ∙ ap (λ m. get_or (x ∷ b) m 0 / 2 ^ (p % 8) % 2 ^ k) q
]
  where
    drop_byte : (x : ℕ) (b : List ℕ) (p : ℕ) → 8 ≤ p → drop p (bits_of 8 x ++ bits b) ≡ drop (p - 8) (bits b)
    drop_byte x b p h =
        let e : p ≡ length (bits_of 8 x) + (p - 8) = omega (arith, length_bits_of 8 x) in
        ap (λ m. drop m (bits_of 8 x ++ bits b)) e ∙ drop-append-add (bits_of 8 x) (bits b) (p - 8)

-- bits past the end
pub bits_past : (b : List ℕ) (p k : ℕ) → length b ≤ p / 8 → 0 ≡ number (take k (drop p (bits b)))
unfolding number
bits_past b p k h =
    let e : drop p (bits b) ≡ [] = drop_all p (bits b) (omega (arith, length_bits b)) in
    let n : 0 ≡ number (take k []) = ap number (sym (none k 0)) in
    n ∙ ap (λ l. number (take k l)) (sym e)

-- one more part of a number
pub number_step : (l : List Bool) (a k : ℕ) (value more : ℕ) → value ≡ number (take a l) → more ≡ number (take k (drop a l)) → a + k ≤ 64 →
    value + more * 2 ^ a % 2 ^ 64 ≡ number (take (a + k) l)
number_step l a k value more e f h =
    let s = number_take_more a k l in
    let small : more < 2 ^ k = subst (λ m. m < 2 ^ k) (sym f) (number_below k (drop a l)) in
    let whole : more * 2 ^ a % 2 ^ 64 ≡ more * 2 ^ a = shl_whole more k a 64 small (omega arith) in
    ap (λ m. value + m) whole ∙ (λ i. e i + f i * 2 ^ a) ∙ sym s

pub number_none : (l : List Bool) → 0 ≡ number (take 0 l)
unfolding number
number_none l = refl

pub number_fits : (l : List Bool) (w : ℕ) → w ≤ 64 → number (take w l) < 2 ^ 64
number_fits l w h = let m : 2 ^ w ≤ 2 ^ 64 = pow_mono h in omega (arith, number_below w l)
