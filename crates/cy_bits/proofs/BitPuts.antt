-- Bits that are put into others
use Rattle.std.proofs.Common.{◌≡◌, ℕ, zero, suc, ◌+◌, ◌*◌, ◌-◌, ◌/◌, ◌%◌, ◌^◌, ◌<◌, ◌≤◌, Bool, false, List, [], ◌∷◌, ◌++◌, length, take, drop, get_or, set, refl, sym, ap, ◌∙◌, subst, arith, inl, inr, append_assoc, length-append}
use Rattle.std.proofs.lemmas.Bool.{cases_lt}
use Rattle.std.proofs.lemmas.List.{take_at, drop_at, take-append-le, drop-append-le, length-drop, length-take-le, take-append-drop, drop-drop}
use Rattle.std.proofs.lemmas.Nat.{pow_pos, pow-add, shr-shr, shr_high, mod_low, mod_below, shl_whole, shr_below, mul-add-lt, one_shl}
use Rattle.std.proofs.Math.Nat.{mul_comm}
use Rattle.std.proofs.Math.Seq.{drop-append-add}
use Rattle.cy_bits.specs.Bits.{bits_of, bits, zeros}
use Rattle.cy_bits.specs.Put.{put_bits}
use Rattle.cy_bits.proofs.BitFacts.{length_bits_of}
use Rattle.cy_bits.proofs.BitPlaces.{bits_of_split, bits_of_low, byte_parts}

pub put_none : (all : List Bool) (p : ℕ) → put_bits all p [] ≡ all
unfolding put_bits
put_none all p = let e : p + length {A = Bool} [] ≡ p = omega arith in ap (λ m. take p all ++ drop m all) e ∙ take-append-drop p all

pub length_put : (all : List Bool) (p : ℕ) (l : List Bool) → p + length l ≤ length all → length (put_bits all p l) ≡ length all
unfolding put_bits
length_put all p l h =
    omega (arith, length-append (take p all) (l ++ drop (p + length l) all), length-append l (drop (p + length l) all), length-take-le p all (omega arith), length-drop (p + length l) all)

-- one piece behind the other
pub put_append : (all : List Bool) (p : ℕ) (l m : List Bool) → p + length l ≤ length all → put_bits (put_bits all p l) (p + length l) m ≡ put_bits all p (l ++ m)
unfolding put_bits
put_append all p l m h =
    let front = take p all in
    let back = drop (p + length l) all in
    let size : length front ≡ p = length-take-le p all (omega arith) in
    let n : length (front ++ l) ≡ p + length l = omega (arith, length-append front l) in
    let split : front ++ (l ++ back) ≡ (front ++ l) ++ back = sym (append_assoc front l back) in
    let t : take (p + length l) (front ++ (l ++ back)) ≡ front ++ l = ap (λ x. take (p + length l) x) split ∙ take_at (front ++ l) back (p + length l) n in
    let k : p + length l + length m ≡ length (front ++ l) + length m = omega arith in
    let d : drop (p + length l + length m) (front ++ (l ++ back)) ≡ drop (length m) back = ap (λ x. drop (p + length l + length m) x) split ∙ ap (λ j. drop j ((front ++ l) ++ back)) k ∙ drop-append-add (front ++ l) back (length m) in
    let e : p + length l + length m ≡ p + length (l ++ m) = omega (arith, length-append l m) in
    let f : drop (length m) back ≡ drop (p + length (l ++ m)) all = drop-drop (length m) (p + length l) all ∙ ap (λ j. drop j all) e in
    ap (λ x. x ++ (m ++ drop (p + length l + length m) (front ++ (l ++ back)))) t
    ∙ ap (λ x. (front ++ l) ++ (m ++ x)) (d ∙ f)
    ∙ append_assoc front l (m ++ drop (p + length (l ++ m)) all)
    ∙ ap (λ x. front ++ x) (sym (append_assoc l m (drop (p + length (l ++ m)) all)))

-- the same bits put again
pub put_again : (all : List Bool) (p : ℕ) (k l m : List Bool) → p + length (k ++ m) ≤ length all → length k ≡ length l → put_bits (put_bits all p (k ++ m)) p l ≡ put_bits all p (l ++ m)
unfolding put_bits
put_again all p k l m h e =
    let front = take p all in
    let back = drop (p + length (k ++ m)) all in
    let size : length front ≡ p = length-take-le p all (omega arith) in
    let t : take p (front ++ ((k ++ m) ++ back)) ≡ front = take_at front ((k ++ m) ++ back) p size in
    let n : length (front ++ k) ≡ p + length l = omega (arith, length-append front k) in
    let split : front ++ ((k ++ m) ++ back) ≡ (front ++ k) ++ (m ++ back) = ap (λ x. front ++ x) (append_assoc k m back) ∙ sym (append_assoc front k (m ++ back)) in
    let d : drop (p + length l) (front ++ ((k ++ m) ++ back)) ≡ m ++ back = ap (λ x. drop (p + length l) x) split ∙ drop_at (front ++ k) (m ++ back) (p + length l) n in
    let same : p + length (k ++ m) ≡ p + length (l ++ m) = omega (arith, length-append k m, length-append l m) in
    ap (λ x. x ++ (l ++ drop (p + length l) (front ++ ((k ++ m) ++ back)))) t
    ∙ ap (λ x. front ++ (l ++ x)) d
    ∙ ap (λ x. front ++ x) (sym (append_assoc l m back))
    ∙ ap (λ j. front ++ ((l ++ m) ++ drop j all)) same

put_behind : (front all : List Bool) (p : ℕ) (l : List Bool) → put_bits (front ++ all) (length front + p) l ≡ front ++ put_bits all p l
unfolding put_bits
put_behind front all p l =
    let e : length front + p + length l ≡ length front + (p + length l) = omega arith in
    ap (λ x. x ++ (l ++ drop (length front + p + length l) (front ++ all))) (take_behind front all p)
    ∙ ap (λ j. (front ++ take p all) ++ (l ++ drop j (front ++ all))) e
    ∙ ap (λ x. (front ++ take p all) ++ (l ++ x)) (drop-append-add front all (p + length l))
    ∙ append_assoc front (take p all) (l ++ drop (p + length l) all)
  where
    take_behind : (front all : List Bool) (p : ℕ) → take (length front + p) (front ++ all) ≡ front ++ take p all
    take_behind [] all p = let e : 0 + p ≡ p = omega arith in ap (λ j. take j all) e
    take_behind (b ∷ front) all p = let e : suc (length front) + p ≡ suc (length front + p) = omega arith in ap (λ j. take j (b ∷ (front ++ all))) e ∙ ap (λ x. b ∷ x) (take_behind front all p)

put_front : (front all : List Bool) (p : ℕ) (l : List Bool) → p + length l ≤ length front → put_bits (front ++ all) p l ≡ put_bits front p l ++ all
unfolding put_bits
put_front front all p l h =
    let t : take p (front ++ all) ≡ take p front = take-append-le p front all (omega arith) in
    ap (λ x. x ++ (l ++ drop (p + length l) (front ++ all))) t
    ∙ ap (λ x. take p front ++ (l ++ x)) (drop-append-le (p + length l) front all h)
    ∙ ap (λ x. take p front ++ x) (sym (append_assoc l (drop (p + length l) front) all))
    ∙ sym (append_assoc (take p front) (l ++ drop (p + length l) front) all)

-- a byte changed within a list of bytes
pub put_byte : (b : List ℕ) (p y : ℕ) (l : List Bool) → p < 8 * length b → p % 8 + length l ≤ 8 → bits_of 8 y ≡ put_bits (bits_of 8 (get_or b (p / 8) 0)) (p % 8) l → bits (set b (p / 8) y) ≡ put_bits (bits b) p l
put_byte [] p y l room h e = absurd (omega arith)
put_byte (x ∷ b) p y l room h e = elim (cases_lt p 8) [
  | inl low ↦
      let q : p / 8 ≡ 0 = omega arith in
      let r : p % 8 ≡ p = omega arith in
      let f : bits_of 8 y ≡ put_bits (bits_of 8 x) p l = e ∙ (λ i. put_bits (bits_of 8 (get_or (x ∷ b) (q i) 0)) (r i) l) in
      ap (λ j. bits (set (x ∷ b) j y)) q
      ∙ ap (λ z. z ++ bits b) f
      ∙ sym (put_front (bits_of 8 x) (bits b) p l (omega (arith, length_bits_of 8 x)))
  | inr high ↦
      let q : p / 8 ≡ suc ((p - 8) / 8) = omega arith in
      let r : p % 8 ≡ (p - 8) % 8 = omega arith in
      let s : length (bits_of 8 x) + (p - 8) ≡ p = omega (arith, length_bits_of 8 x) in
      let f : bits_of 8 y ≡ put_bits (bits_of 8 (get_or b ((p - 8) / 8) 0)) ((p - 8) % 8) l = e ∙ (λ i. put_bits (bits_of 8 (get_or (x ∷ b) (q i) 0)) (r i) l) in
      ap (λ j. bits (set (x ∷ b) j y)) q
      ∙ ap (λ z. bits_of 8 x ++ z) (put_byte b (p - 8) y l (omega arith) (omega arith) f)
      ∙ sym (put_behind (bits_of 8 x) (bits b) (p - 8) l)
      ∙ ap (λ j. put_bits (bits_of 8 x ++ bits b) j l) s
]

-- a byte by its three parts
abbrev joined : ℕ → ℕ → ℕ → ℕ → ℕ
joined o k v x = x % 2 ^ o + v % 2 ^ k * 2 ^ o + x / 2 ^ (o + k) * 2 ^ (o + k)

joined_is : (o k v x : ℕ) → joined o k v x ≡ (x / 2 ^ (o + k) * 2 ^ k + v % 2 ^ k) * 2 ^ o + x % 2 ^ o
joined_is o k v x =
    let a = x / 2 ^ (o + k) in
    let c = v % 2 ^ k in
    let e : 2 ^ (o + k) ≡ 2 ^ o * 2 ^ k = pow-add 2 o k in
    let f : a * 2 ^ (o + k) ≡ a * (2 ^ o * 2 ^ k) = ap (λ m. a * m) e in
    let g : a * (2 ^ o * 2 ^ k) + c * 2 ^ o ≡ (a * 2 ^ k + c) * 2 ^ o = omega arith in
    omega arith

joined_below : (o k v x : ℕ) → o + k ≤ 8 → x < 256 → joined o k v x < 256
joined_below o k v x h b =
    let r = 8 - (o + k) in
    let e : r + (o + k) ≡ 8 = omega arith in
    let a = x / 2 ^ (o + k) in
    let c = v % 2 ^ k in
    let high : a < 2 ^ r = shr_below x r (o + k) (subst (λ m. x < 2 ^ m) (sym e) b) in
    let low : x % 2 ^ o < 2 ^ o = mod_below x (2 ^ o) (pow_pos o) in
    let mid : c < 2 ^ k = mod_below v (2 ^ k) (pow_pos k) in
    let top : a * 2 ^ k + c < 2 ^ (r + k) = below r k a c high mid in
    let all : (a * 2 ^ k + c) * 2 ^ o + x % 2 ^ o < 2 ^ (r + k + o) = below (r + k) o (a * 2 ^ k + c) (x % 2 ^ o) top low in
    let f : r + k + o ≡ 8 = omega arith in
    subst (λ m. joined o k v x < 2 ^ m) f (subst (λ n. n < 2 ^ (r + k + o)) (sym (joined_is o k v x)) all)
  where
    below : (i j a b : ℕ) → a < 2 ^ i → b < 2 ^ j → a * 2 ^ j + b < 2 ^ (i + j)
    below i j a b h k = subst (λ m. a * 2 ^ j + b < m) (sym (pow-add 2 i j)) (let e : 2 ^ j * 2 ^ i ≡ 2 ^ i * 2 ^ j = mul_comm (2 ^ j) (2 ^ i) in subst (λ m. a * 2 ^ j + b < m) e (mul-add-lt a (2 ^ j) b (2 ^ i) h k))

-- a byte with other bits from a place on
joined_bits : (o k v x : ℕ) → o + k ≤ 8 → bits_of 8 (joined o k v x) ≡ put_bits (bits_of 8 x) o (bits_of k v)
unfolding put_bits
joined_bits o k v x h =
    let r = 8 - (o + k) in
    let e : o + (k + r) ≡ 8 = omega arith in
    let y = joined o k v x in
    let a = x / 2 ^ (o + k) in
    let c = v % 2 ^ k in
    let is = joined_is o k v x in
    let low_small : x % 2 ^ o < 2 ^ o = mod_below x (2 ^ o) (pow_pos o) in
    let mid_small : c < 2 ^ k = mod_below v (2 ^ k) (pow_pos k) in
    let low : bits_of o y ≡ bits_of o x = sym (bits_of_low o y) ∙ ap (λ n. bits_of o (n % 2 ^ o)) is ∙ ap (λ n. bits_of o n) (mod_low (a * 2 ^ k + c) o (x % 2 ^ o) low_small) ∙ bits_of_low o x in
    let up : y / 2 ^ o ≡ a * 2 ^ k + c = ap (λ n. n / 2 ^ o) is ∙ shr_high (a * 2 ^ k + c) o (x % 2 ^ o) low_small in
    let mid : bits_of k (y / 2 ^ o) ≡ bits_of k v = ap (λ n. bits_of k n) up ∙ sym (bits_of_low k (a * 2 ^ k + c)) ∙ ap (λ n. bits_of k n) (mod_low a k c mid_small) ∙ bits_of_low k v in
    let top : y / 2 ^ (o + k) ≡ a = sym (shr-shr y o k) ∙ ap (λ n. n / 2 ^ k) up ∙ shr_high a k c mid_small in
    let tail = bits_of r a in
    let parts : bits_of 8 x ≡ bits_of o x ++ (bits_of k (x / 2 ^ o) ++ tail) = byte_parts o k r x e in
    let front : take o (bits_of 8 x) ≡ bits_of o x = ap (λ l. take o l) parts ∙ take_at (bits_of o x) (bits_of k (x / 2 ^ o) ++ tail) o (length_bits_of o x) in
    let n : length (bits_of o x ++ bits_of k (x / 2 ^ o)) ≡ o + length (bits_of k v) = omega (arith, length-append (bits_of o x) (bits_of k (x / 2 ^ o)), length_bits_of o x, length_bits_of k (x / 2 ^ o), length_bits_of k v) in
    let back : drop (o + length (bits_of k v)) (bits_of 8 x) ≡ tail =
    ap (λ l. drop (o + length (bits_of k v)) l) (parts ∙ sym (append_assoc (bits_of o x) (bits_of k (x / 2 ^ o)) tail)) ∙ drop_at (bits_of o x ++ bits_of k (x / 2 ^ o)) tail (o + length (bits_of k v)) n in
    byte_parts o k r y e
    ∙ (λ i. low i ++ (mid i ++ bits_of r (top i)))
    ∙ sym (λ i. front i ++ (bits_of k v ++ back i))

-- the byte as the code makes it
abbrev pub made_byte : ℕ → ℕ → ℕ → ℕ → ℕ
made_byte o k v x = x % (1 * 2 ^ o % 2 ^ 64) + v % (1 * 2 ^ k % 2 ^ 64) * 2 ^ o % 2 ^ 64 + x / 2 ^ (o + k) * 2 ^ (o + k) % 2 ^ 64

made_is : (o k v x : ℕ) → o + k ≤ 8 → x < 256 → made_byte o k v x ≡ joined o k v x
made_is o k v x h b =
    let r = 8 - (o + k) in
    let e : r + (o + k) ≡ 8 = omega arith in
    let a = x / 2 ^ (o + k) in
    let c = v % 2 ^ k in
    let high : a < 2 ^ r = shr_below x r (o + k) (subst (λ m. x < 2 ^ m) (sym e) b) in
    let mid : c < 2 ^ k = mod_below v (2 ^ k) (pow_pos k) in
    let first : 1 * 2 ^ o % 2 ^ 64 ≡ 2 ^ o = one_shl o 64 (omega arith) in
    let second : 1 * 2 ^ k % 2 ^ 64 ≡ 2 ^ k = one_shl k 64 (omega arith) in
    let third : c * 2 ^ o % 2 ^ 64 ≡ c * 2 ^ o = shl_whole c k o 64 mid (omega arith) in
    let fourth : a * 2 ^ (o + k) % 2 ^ 64 ≡ a * 2 ^ (o + k) = shl_whole a r (o + k) 64 high (omega arith) in
    (λ i. x % first i + v % second i * 2 ^ o % 2 ^ 64 + fourth i) ∙ ap (λ m. x % 2 ^ o + m + a * 2 ^ (o + k)) third

pub made_below : (o k v x : ℕ) → o + k ≤ 8 → x < 256 → made_byte o k v x < 256
made_below o k v x h b = subst (λ n. n < 256) (sym (made_is o k v x h b)) (joined_below o k v x h b)

pub made_bits : (o k v x : ℕ) → o + k ≤ 8 → x < 256 → bits_of 8 (made_byte o k v x) ≡ put_bits (bits_of 8 x) o (bits_of k v)
made_bits o k v x h b = ap (λ n. bits_of 8 n) (made_is o k v x h b) ∙ joined_bits o k v x h

-- one more part of a number is put
pub put_step : (all now : List Bool) (p k n v : ℕ) → k ≤ n → p + n ≤ length all → now ≡ put_bits all p (bits_of k v) → put_bits now (p + k) (bits_of (n - k) (v / 2 ^ k)) ≡ put_bits all p (bits_of n v)
put_step all now p k n v h room e =
    let f : p + k ≡ p + length (bits_of k v) = omega (arith, length_bits_of k v) in
    let g : k + (n - k) ≡ n = omega arith in
    (λ i. put_bits (e i) (f i) (bits_of (n - k) (v / 2 ^ k)))
    ∙ put_append all p (bits_of k v) (bits_of (n - k) (v / 2 ^ k)) (omega (arith, length_bits_of k v))
    ∙ ap (λ l. put_bits all p l) (sym (bits_of_split k (n - k) v) ∙ ap (λ m. bits_of m v) g)

pub put_end : (all : List Bool) (p n v : ℕ) → n ≡ 0 → put_bits all p (bits_of n v) ≡ all
unfolding bits_of
put_end all p n v e = ap (λ m. put_bits all p (bits_of m v)) e ∙ put_none all p

pub zero_bits : (w : ℕ) → bits_of w 0 ≡ zeros w
unfolding bits_of
zero_bits zero = refl
zero_bits (suc w) = ap (λ l. false ∷ l) (zero_bits w)
