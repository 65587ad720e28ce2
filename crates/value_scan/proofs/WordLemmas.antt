-- A number put from a bit on, in eight bytes.
use Rattle.std.proofs.Common.{◌≡◌, ◌∙◌, ℕ, suc, ◌+◌, ◌-◌, ◌*◌, ◌/◌, ◌%◌, ◌^◌, ◌<◌, ◌≤◌, Bool, List, [], ◌∷◌, ◌++◌, length, take, drop, get_or, append_assoc, length-append, take_at, refl, sym, ap, subst, arith}
use Rattle.std.proofs.lemmas.List.{take-append-le, take-append-drop, length-take-le}
use Rattle.std.proofs.Math.Seq.{take-append-add, drop-cons}
use Rattle.std.proofs.lemmas.Nat.{one_shl, shr_high, mod_low, shr_split, shr-shr, pow-add, pow_pos, mod_below}
use Rattle.std.specs.Int.{to_le_bytes, w64}
use Rattle.cy_bits.specs.Bits.{bits, bits_of}
use Rattle.cy_bits.proofs.BitFacts.{bits-append, length_bits_of}
use Rattle.cy_bits.proofs.BitPlaces.{bits_of_split, bits_of_low, length_bits}

-- ---- a byte's low bits, and a number behind them

-- the number that the code computes
pub record Joined (b v s m : ℕ) : Type 0 where
  pub is : m ≡ (v % 2 ^ (64 - s)) * 2 ^ s + b % 2 ^ s
  pub small : m < 2 ^ 64

shifted : (v s : ℕ) → s < 64 → v * 2 ^ s % 2 ^ 64 ≡ (v % 2 ^ (64 - s)) * 2 ^ s
shifted v s h =
    let j = 64 - s in
    let q = v / 2 ^ j in
    let r = v % 2 ^ j in
    let size : j + s ≡ 64 = omega arith in
    let pow : 2 ^ 64 ≡ 2 ^ j * 2 ^ s = ap (λ n. 2 ^ n) (sym size) ∙ pow-add 2 j s in
    let low : r < 2 ^ j = mod_below v (2 ^ j) (pow_pos j) in
    let p = pow_pos s in
    let below : r * 2 ^ s < 2 ^ 64 = subst (λ n. r * 2 ^ s < n) (sym pow) (times_below r (2 ^ j) (2 ^ s) low p) in
    let whole : v * 2 ^ s ≡ q * 2 ^ 64 + r * 2 ^ s =
    ap (λ n. n * 2 ^ s) (sym (shr_split v j))
    ∙ (let e : (q * 2 ^ j + r) * 2 ^ s ≡ q * (2 ^ j * 2 ^ s) + r * 2 ^ s = omega arith in e)
    ∙ ap (λ n. q * n + r * 2 ^ s) (sym pow) in
    ap (λ n. n % 2 ^ 64) whole ∙ mod_low q 64 (r * 2 ^ s) below
  where
    times_below : (a b c : ℕ) → a < b → 0 < c → a * c < b * c
    times_below a b c h p = grind arith

pub joined : (b v s : ℕ) → s < 8 → Joined b v s (b % (1 * 2 ^ s % 2 ^ 64) + v * 2 ^ s % 2 ^ 64)
joined b v s h =
    let j = 64 - s in
    let r = v % 2 ^ j in
    let mask : 1 * 2 ^ s % 2 ^ 64 ≡ 2 ^ s = one_shl s 64 (let e : s < 64 = omega arith in e) in
    let high = shifted v s (let e : s < 64 = omega arith in e) in
    let is : b % (1 * 2 ^ s % 2 ^ 64) + v * 2 ^ s % 2 ^ 64 ≡ r * 2 ^ s + b % 2 ^ s =
    (λ i. b % mask i + high i) ∙ (let e : b % 2 ^ s + r * 2 ^ s ≡ r * 2 ^ s + b % 2 ^ s = omega arith in e) in
    let size : j + s ≡ 64 = omega arith in
    let pow : 2 ^ 64 ≡ 2 ^ j * 2 ^ s = ap (λ n. 2 ^ n) (sym size) ∙ pow-add 2 j s in
    let low : r < 2 ^ j = mod_below v (2 ^ j) (pow_pos j) in
    let least : b % 2 ^ s < 2 ^ s = mod_below b (2 ^ s) (pow_pos s) in
    record { is = is; small = subst (λ n. n < 2 ^ 64) (sym is) (subst (λ n. r * 2 ^ s + b % 2 ^ s < n) (sym pow) (sum_below r (2 ^ j) (b % 2 ^ s) (2 ^ s) low least)) }
  where
    sum_below : (a b c d : ℕ) → a < b → c < d → a * d + c < b * d
    sum_below a b c d h k =
        let e : suc a ≤ b = omega arith in
        let f : suc a * d ≤ b * d = grind arith in
        let g : suc a * d ≡ a * d + d = omega arith in
        omega arith

pub joined_bits : (b v s m : ℕ) → s < 8 → Joined b v s m → bits_of 64 m ≡ bits_of s b ++ bits_of (64 - s) v
joined_bits b v s m h e =
    let j = 64 - s in
    let r = v % 2 ^ j in
    let c = b % 2 ^ s in
    let least : c < 2 ^ s = mod_below b (2 ^ s) (pow_pos s) in
    let size : 64 ≡ s + j = omega arith in
    let low : bits_of s m ≡ bits_of s b = sym (bits_of_low s m) ∙ ap (λ n. bits_of s (n % 2 ^ s)) e.is ∙ ap (λ n. bits_of s n) (mod_low r s c least) ∙ bits_of_low s b in
    let high : bits_of j (m / 2 ^ s) ≡ bits_of j v = ap (λ n. bits_of j (n / 2 ^ s)) e.is ∙ ap (λ n. bits_of j n) (shr_high r s c least) ∙ bits_of_low j v in
    ap (λ n. bits_of n m) size ∙ bits_of_split s j m ∙ (λ i. low i ++ high i)

-- ---- eight bytes of a number

next_byte : (k j n : ℕ) (rest : List ℕ) → bits rest ≡ bits_of k (n / 2 ^ (j + 8)) → bits ((n / 2 ^ j % 2 ^ 8) ∷ rest) ≡ bits_of (8 + k) (n / 2 ^ j)
next_byte k j n rest e =
    (λ i. bits_of_low 8 (n / 2 ^ j) i ++ e i)
    ∙ ap (λ m. bits_of 8 (n / 2 ^ j) ++ bits_of k m) (sym (shr-shr n j 8))
    ∙ sym (bits_of_split 8 k (n / 2 ^ j))

none : (n : ℕ) → [] ≡ bits_of 0 n
unfolding bits_of
none n = refl

pub bits_of_bytes : (n : ℕ) → bits (to_le_bytes w64 n) ≡ bits_of 64 n
bits_of_bytes n =
    let whole : n / 2 ^ 0 ≡ n = omega arith in
    let h = (n / 2 ^ 56 % 2 ^ 8) ∷ [] in
    let g = (n / 2 ^ 48 % 2 ^ 8) ∷ h in
    let f = (n / 2 ^ 40 % 2 ^ 8) ∷ g in
    let e = (n / 2 ^ 32 % 2 ^ 8) ∷ f in
    let d = (n / 2 ^ 24 % 2 ^ 8) ∷ e in
    let c = (n / 2 ^ 16 % 2 ^ 8) ∷ d in
    let b = (n / 2 ^ 8 % 2 ^ 8) ∷ c in
    ap (λ m. bits ((m % 2 ^ 8) ∷ b)) (sym whole)
    ∙ next_byte 56 0 n b (next_byte 48 8 n c (next_byte 40 16 n d (next_byte 32 24 n e (next_byte 24 32 n f (next_byte 16 40 n g (next_byte 8 48 n h (next_byte 0 56 n [] (none (n / 2 ^ 64)))))))))
    ∙ ap (λ m. bits_of 64 m) whole

-- ---- in their place

head_bits : (b : ℕ) (s : ℕ) (l : List Bool) → s ≤ 8 → take s (bits_of 8 b ++ l) ≡ bits_of s b
head_bits b s l h =
    let size : 8 ≡ s + (8 - s) = omega arith in
    ap (λ n. take s (bits_of n b ++ l)) size
    ∙ ap (λ x. take s (x ++ l)) (bits_of_split s (8 - s) b)
    ∙ ap (λ x. take s x) (append_assoc (bits_of s b) (bits_of (8 - s) (b / 2 ^ s)) l)
    ∙ take_at (bits_of s b) (bits_of (8 - s) (b / 2 ^ s) ++ l) s (length_bits_of s b)

front_of : (xs : List ℕ) (a s : ℕ) → a < length xs → s ≤ 8 → take (8 * a + s) (bits xs) ≡ bits (take a xs) ++ bits_of s (get_or xs a 0)
front_of xs a s h few =
    let f = take a xs in
    let size : 8 * a + s ≡ length (bits f) + s = omega (arith, length_bits f, length-take-le a xs (omega arith)) in
    ap (λ n. take n (bits xs)) size
    ∙ ap (λ l. take (length (bits f) + s) (bits l)) (sym (take-append-drop a xs))
    ∙ ap (λ l. take (length (bits f) + s) l) (bits-append f (drop a xs))
    ∙ take-append-add (bits f) (bits (drop a xs)) s
    ∙ ap (λ l. bits f ++ take s (bits l)) (drop-cons xs a 0 h)
    ∙ ap (λ l. bits f ++ l) (head_bits (get_or xs a 0) s (bits (drop (suc a) xs)) few)

pub word_put : (xs ys zs : List ℕ) (b p w v m : ℕ) → p / 8 + 8 ≤ length xs → b ≡ get_or xs (p / 8) 0 → p % 8 + w ≤ 64 → bits_of 64 m ≡ bits_of (p % 8) b ++ bits_of (64 - p % 8) v →
    ys ≡ to_le_bytes w64 m → take (p / 8 + 8) zs ≡ take (p / 8) xs ++ ys → take (p + w) (bits zs) ≡ take p (bits xs) ++ bits_of w v
word_put xs ys zs b p w v m room is_b fits is_m is_ys is_zs =
    let a = p / 8 in
    let s = p % 8 in
    let f = take a xs in
    let word : bits ys ≡ bits_of s b ++ bits_of (64 - s) v = ap (λ l. bits l) is_ys ∙ bits_of_bytes m ∙ is_m in
    let front : bits (take (a + 8) zs) ≡ bits f ++ (bits_of s b ++ bits_of (64 - s) v) = ap (λ l. bits l) is_zs ∙ bits-append f ys ∙ ap (λ l. bits f ++ l) word in
    let long : length (bits f) ≡ 8 * a = omega (arith, length_bits f, length-take-le a xs (omega arith)) in
    let all : length (bits (take (a + 8) zs)) ≡ 8 * a + 64 = omega (arith, ap length front, length-append (bits f) (bits_of s b ++ bits_of (64 - s) v), length-append (bits_of s b) (bits_of (64 - s) v), length_bits_of s b, length_bits_of (64 - s) v, long) in
    let cut : take (p + w) (bits zs) ≡ take (p + w) (bits (take (a + 8) zs)) =
    ap (λ l. take (p + w) (bits l)) (sym (take-append-drop (a + 8) zs))
    ∙ ap (λ l. take (p + w) l) (bits-append (take (a + 8) zs) (drop (a + 8) zs))
    ∙ take-append-le (p + w) (bits (take (a + 8) zs)) (bits (drop (a + 8) zs)) (omega arith) in
    let place : p + w ≡ length (bits f ++ bits_of s b) + w = omega (arith, length-append (bits f) (bits_of s b), length_bits_of s b, long) in
    let rest : 64 - s ≡ w + (64 - s - w) = omega arith in
    cut
    ∙ ap (λ l. take (p + w) l) (front ∙ sym (append_assoc (bits f) (bits_of s b) (bits_of (64 - s) v)))
    ∙ ap (λ n. take n ((bits f ++ bits_of s b) ++ bits_of (64 - s) v)) place
    ∙ take-append-add (bits f ++ bits_of s b) (bits_of (64 - s) v) w
    ∙ ap (λ n. (bits f ++ bits_of s b) ++ take w (bits_of n v)) rest
    ∙ ap (λ l. (bits f ++ bits_of s b) ++ take w l) (bits_of_split w (64 - s - w) v)
    ∙ ap (λ l. (bits f ++ bits_of s b) ++ l) (take_at (bits_of w v) (bits_of (64 - s - w) (v / 2 ^ w)) w (length_bits_of w v))
    ∙ ap (λ n. (bits f ++ bits_of s n) ++ bits_of w v) is_b
    ∙ ap (λ l. l ++ bits_of w v) (sym (front_of xs a s (omega arith) (omega arith)) ∙ (let e : 8 * a + s ≡ p = omega arith in ap (λ n. take n (bits xs)) e))
