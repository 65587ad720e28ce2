-- Lemmas on pairs of hex digits, many at a time.
use Rattle.std.proofs.Common.{◌≡◌, ◌∙◌, ◌<◌, ◌≤◌, ℕ, zero, suc, ◌+◌, ◌-◌, ◌*◌, ◌/◌, ◌%◌, Bool, true, false, not, cond, List, [], ◌∷◌, ◌++◌, Option, Some, None, refl, sym, ap, ap₂, map, length, take, drop, get_or, get_or-take, bit_or, arith, append_assoc, append-nil, length-append}
use Rattle.std.specs.Prelude.{nat_lt}
use Rattle.std.specs.List.{prefix_len, range_with_len}
use Rattle.std.specs.Int.{from_be_bytes, w32}
use Rattle.std.proofs.lemmas.List.FromFn.{get_or-map-range_with_len}
use Rattle.std.proofs.lemmas.Bool.Decides.{nat_tests}
use Rattle.std.proofs.lemmas.List.{take-append-drop, take-take}
use Rattle.std.proofs.Math.Seq.{take-add}
use Rattle.std.proofs.lemmas.Grind.{common_steps}
use Rattle.frame_log.specs.Line.{hex_digit, hex_from, pairs_of, with_front, ◌>>=◌}
use Rattle.frame_log.specs.Reads.{IsHex}
use Rattle.frame_log.specs.Lanes.{is_digit, bytes_of_pairs}
use Rattle.frame_log.proofs.LineLemmas.{pairs_of-two, no}

-- the byte of two values, by a table
bytes_are : map (λ n. bit_or (n / 16 * 16 % 256) (n % 16)) (range_with_len 0 256) ≡ map (λ n. n) (range_with_len 0 256)
bytes_are = refl

joined_is : (n : ℕ) → n < 256 → bit_or (n / 16 * 16 % 256) (n % 16) ≡ n
joined_is n h = sym (get_or-map-range_with_len (λ n. bit_or (n / 16 * 16 % 256) (n % 16)) 0 256 n n 0 (omega arith) (omega arith))
    ∙ (ap (λ (t : List ℕ). get_or t n 0) bytes_are ∙ get_or-map-range_with_len (λ n. n) 0 256 n n 0 (omega arith) (omega arith))

pub byte_is : (a b : ℕ) → a ≤ 15 → b ≤ 15 → bit_or (a * 16 % 256) b ≡ a * 16 + b
byte_is a b h k =
    let high : (a * 16 + b) / 16 ≡ a = omega arith in
    let low : (a * 16 + b) % 16 ≡ b = omega arith in
    ap₂ (λ x y. bit_or (x * 16 % 256) y) (sym high) (sym low) ∙ joined_is (a * 16 + b) (omega arith)

-- the first value is a digit's, where some are
pub first_digit : (x k : ℕ) (xs : List ℕ) → suc k ≤ prefix_len is_digit (x ∷ xs) → (x ≤ 15) × (k ≤ prefix_len is_digit xs)
first_digit x k xs h = go (nat_lt 15 x) refl h
  where
    go : (t : Bool) → nat_lt 15 x ≡ t → suc k ≤ cond (not t) (1 + prefix_len is_digit xs) 0 → (x ≤ 15) × (k ≤ prefix_len is_digit xs)
    go true e l = absurd (omega (arith, l))
    go false e l = (let g : x ≤ 15 = grind (arith, nat_tests) in g, omega (arith, l))

bind-same : (o : Option (List ℕ)) → o ≡ (o >>= (λ more. Some ([] ++ more)))
bind-same None = refl
bind-same (Some m) = refl

bind-front : (o : Option (List ℕ)) (bytes : List ℕ) (x : ℕ) → ((o >>= (λ more. Some (bytes ++ more))) >>= (λ m. Some (x ∷ m))) ≡ (o >>= (λ more. Some ((x ∷ bytes) ++ more)))
bind-front None bytes x = refl
bind-front (Some m) bytes x = refl

pub bind-both : (o : Option (List ℕ)) (front bytes : List ℕ) → ((o >>= (λ more. Some (bytes ++ more))) >>= (λ more. Some (front ++ more))) ≡ (o >>= (λ more. Some ((front ++ bytes) ++ more)))
bind-both None front bytes = refl
bind-both (Some m) front bytes = ap Some (sym (append_assoc front bytes m))

-- the first k of these bytes are digits, and so m pairs
pub pairs_of-block : (m k : ℕ) (c t : List ℕ) → k ≡ 2 * m → k ≤ prefix_len is_digit (map hex_digit c)
    → pairs_of (take k c ++ t) ≡ (pairs_of t >>= (λ more. Some (take m (bytes_of_pairs (map hex_digit c)) ++ more)))
pairs_of-block zero zero c t e h = bind-same (pairs_of t)
pairs_of-block zero (suc k) c t e h = absurd (omega (arith, e))
pairs_of-block (suc m) zero c t e h = absurd (omega (arith, e))
pairs_of-block (suc m) (suc zero) c t e h = absurd (omega (arith, e))
pairs_of-block (suc m) (suc (suc k)) [] t e h = absurd (omega (arith, h))
pairs_of-block (suc m) (suc (suc k)) (a ∷ []) t e h = absurd (let f = first_digit (hex_digit a) (suc k) [] h in omega (arith, f.1))
pairs_of-block (suc m) (suc (suc k)) (a ∷ b ∷ c) t e h =
    let f = first_digit (hex_digit a) (suc k) (map hex_digit (b ∷ c)) h in
    let g = first_digit (hex_digit b) k (map hex_digit c) f.1 in
    let bytes = take m (bytes_of_pairs (map hex_digit c)) in
    pairs_of-two a b (take k c ++ t) f.0 g.0
    ∙ ap (λ (o : Option (List ℕ)). o >>= (λ more. Some ((hex_digit a * 16 + hex_digit b) ∷ more))) (pairs_of-block m k c t (omega (arith, e)) g.1)
    ∙ bind-front (pairs_of t) bytes (hex_digit a * 16 + hex_digit b)
    ∙ ap (λ x. pairs_of t >>= (λ more. Some ((x ∷ bytes) ++ more))) (sym (byte_is (hex_digit a) (hex_digit b) f.0 g.0))

-- these pairs have so many bytes
pub pairs-length : (m k : ℕ) (c : List ℕ) → k ≡ 2 * m → k ≤ prefix_len is_digit (map hex_digit c) → m ≤ length (bytes_of_pairs (map hex_digit c))
pairs-length zero k c e h = omega arith
pairs-length (suc m) zero c e h = absurd (omega (arith, e))
pairs-length (suc m) (suc zero) c e h = absurd (omega (arith, e))
pairs-length (suc m) (suc (suc k)) [] e h = absurd (omega (arith, h))
pairs-length (suc m) (suc (suc k)) (a ∷ []) e h = absurd (let f = first_digit (hex_digit a) (suc k) [] h in omega (arith, f.1))
pairs-length (suc m) (suc (suc k)) (a ∷ b ∷ c) e h =
    let f = first_digit (hex_digit a) (suc k) (map hex_digit (b ∷ c)) h in
    let g = first_digit (hex_digit b) k (map hex_digit c) f.1 in
    let l = pairs-length m k c (omega (arith, e)) g.1 in omega (arith, l)

length-front : (n : ℕ) (s : List ℕ) → n ≤ length s → length (take n s) ≡ n
length-front n s h = grind (arith, common_steps)

pub take-less : (k n : ℕ) (s : List ℕ) → k ≤ n → take k (take n s) ≡ take k s
take-less zero n s h = refl
take-less (suc k) zero s h = absurd (omega (arith, h))
take-less (suc k) (suc n) [] h = refl
take-less (suc k) (suc n) (x ∷ s) h = ap (λ t. x ∷ t) (take-less k n s (omega (arith, h)))

-- what stands behind the first n, as a slice has it
pub rest-is : (n : ℕ) (s : List ℕ) → take (length s - n) (drop n s) ≡ drop n s
rest-is n s = grind (arith, common_steps)

pub within-front : (n m : ℕ) (s : List ℕ) → n ≤ length (take m s) → n ≤ m
within-front n m s h = grind (arith, common_steps)

-- digits in front of a part
pub front-wider : (s bytes : List ℕ) (n m : ℕ) → n ≤ length (take m s) → IsHex (take m s) n bytes → IsHex s n bytes
front-wider s bytes n m h f t = ap (λ x. pairs_of (x ++ t)) (sym (take-less n m s (within-front n m s h))) ∙ f t

pub no_front : (s : List ℕ) → IsHex s 0 []
no_front s t = bind-same (pairs_of t)

pub record Further (s bytes next : List ℕ) (i m : ℕ) : Type 0 where
  pub front : IsHex s i next
  pub count : length next ≡ length bytes + m

-- k digits more, and so m bytes
pub front-more : (s bytes next : List ℕ) (i j k m : ℕ) → IsHex s i bytes → j ≡ i + k → k ≡ 2 * m → k ≤ 16 → k ≤ prefix_len is_digit (map hex_digit (take 16 (drop i s)))
    → next ≡ bytes ++ take m (bytes_of_pairs (map hex_digit (take 16 (drop i s)))) → Further s bytes next j m
front-more s bytes next i j k m e a b le h n =
    let c = take 16 (drop i s) in
    let some = take m (bytes_of_pairs (map hex_digit c)) in
    let l : m ≤ length (bytes_of_pairs (map hex_digit c)) = pairs-length m k c b h in
    let split : take j s ≡ take i s ++ take k c = ap (λ x. take x s) a ∙ take-add i k s ∙ ap (λ x. take i s ++ x) (sym (take-less k 16 (drop i s) le)) in record {
      front = λ t. ap (λ x. pairs_of (x ++ t)) split
          ∙ ap pairs_of (append_assoc (take i s) (take k c) t)
          ∙ e (take k c ++ t)
          ∙ ap (with_front bytes) (pairs_of-block m k c t b h)
          ∙ bind-both (pairs_of t) bytes some
          ∙ ap (λ x. with_front x (pairs_of t)) (sym n);
      count = ap length n ∙ length-append bytes some ∙ ap (λ x. length bytes + x) (length-front m (bytes_of_pairs (map hex_digit c)) l);
    }

-- all of it is read
pub front-whole : (s bytes : List ℕ) (i : ℕ) → IsHex s i bytes → pairs_of s ≡ with_front bytes (pairs_of (drop i s))
front-whole s bytes i f = ap pairs_of (sym (take-append-drop i s)) ∙ f (drop i s)

pub front-alone : (s bytes : List ℕ) (i : ℕ) → IsHex s i bytes → pairs_of (take i s) ≡ Some bytes
front-alone s bytes i f = ap pairs_of (sym (append-nil (take i s))) ∙ f [] ∙ ap Some (append-nil bytes)

-- the number of bytes, behind the number n
abbrev number_from : ℕ → List ℕ → ℕ
number_from n [] = n
number_from n (b ∷ s) = number_from (n * 256 + b) s

hex_from-two : (n a b : ℕ) (s : List ℕ) → hex_digit a ≤ 15 → hex_digit b ≤ 15 → hex_from n (a ∷ b ∷ s) ≡ hex_from (n * 256 + (hex_digit a * 16 + hex_digit b)) s
hex_from-two n a b s h k =
    let x : nat_lt 15 (hex_digit a) ≡ false = grind (arith, nat_tests) in
    let y : nat_lt 15 (hex_digit b) ≡ false = grind (arith, nat_tests) in
    let e : (n * 16 + hex_digit a) * 16 + hex_digit b ≡ n * 256 + (hex_digit a * 16 + hex_digit b) = omega arith in
    sym (no (nat_lt 15 (hex_digit a)) None (hex_from (n * 16 + hex_digit a) (b ∷ s)) x)
    ∙ sym (no (nat_lt 15 (hex_digit b)) None (hex_from ((n * 16 + hex_digit a) * 16 + hex_digit b) s) y)
    ∙ ap (λ v. hex_from v s) e

hex_from-block : (m k n : ℕ) (c : List ℕ) → k ≡ 2 * m → k ≤ prefix_len is_digit (map hex_digit c)
    → hex_from n (take k c) ≡ Some (number_from n (take m (bytes_of_pairs (map hex_digit c))))
hex_from-block zero zero n c e h = refl
hex_from-block zero (suc k) n c e h = absurd (omega (arith, e))
hex_from-block (suc m) zero n c e h = absurd (omega (arith, e))
hex_from-block (suc m) (suc zero) n c e h = absurd (omega (arith, e))
hex_from-block (suc m) (suc (suc k)) n [] e h = absurd (omega (arith, h))
hex_from-block (suc m) (suc (suc k)) n (a ∷ []) e h = absurd (let f = first_digit (hex_digit a) (suc k) [] h in omega (arith, f.1))
hex_from-block (suc m) (suc (suc k)) n (a ∷ b ∷ c) e h =
    let f = first_digit (hex_digit a) (suc k) (map hex_digit (b ∷ c)) h in
    let g = first_digit (hex_digit b) k (map hex_digit c) f.1 in
    hex_from-two n a b (take k c) f.0 g.0
    ∙ hex_from-block m k (n * 256 + (hex_digit a * 16 + hex_digit b)) c (omega (arith, e)) g.1
    ∙ ap (λ x. Some (number_from (n * 256 + x) (take m (bytes_of_pairs (map hex_digit c))))) (sym (byte_is (hex_digit a) (hex_digit b) f.0 g.0))

four_bytes : (s : List ℕ) → 4 ≤ length s → number_from 0 (take 4 s) ≡ from_be_bytes w32 (get_or s 0 0 ∷ get_or s 1 0 ∷ get_or s 2 0 ∷ get_or s 3 0 ∷ [])
four_bytes [] h = absurd (omega (arith, h))
four_bytes (a ∷ []) h = absurd (omega (arith, h))
four_bytes (a ∷ b ∷ []) h = absurd (omega (arith, h))
four_bytes (a ∷ b ∷ c ∷ []) h = absurd (omega (arith, h))
four_bytes (a ∷ b ∷ c ∷ d ∷ s) h = omega arith

-- eight digits give the number of four bytes
pub hex_from-eight : (c : List ℕ) → 8 ≤ prefix_len is_digit (map hex_digit c) → let s = bytes_of_pairs (map hex_digit c) in
    hex_from 0 (take 8 c) ≡ Some (from_be_bytes w32 (get_or s 0 0 ∷ get_or s 1 0 ∷ get_or s 2 0 ∷ get_or s 3 0 ∷ []))
hex_from-eight c h = let s = bytes_of_pairs (map hex_digit c) in
    hex_from-block 4 8 0 c refl h ∙ ap Some (four_bytes s (pairs-length 4 8 c refl h))

-- pairs of fewer values
pairs-take : (k : ℕ) (v : List ℕ) → bytes_of_pairs (take (2 * k) v) ≡ take k (bytes_of_pairs v)
pairs-take zero v = refl
pairs-take (suc k) [] = let two : 2 * suc k ≡ suc (suc (2 * k)) = omega arith in rw two refl
pairs-take (suc k) (a ∷ []) = let two : 2 * suc k ≡ suc (suc (2 * k)) = omega arith in rw two refl
pairs-take (suc k) (a ∷ b ∷ v) =
    let two : 2 * suc k ≡ suc (suc (2 * k)) = omega arith in
    rw two (ap (λ (s : List ℕ). bit_or (a * 16 % 256) b ∷ s) (pairs-take k v))

-- the bytes of pairs, as far as two lists agree
pub pairs-same : (k n : ℕ) (v w : List ℕ) → 2 * k ≤ n → take n v ≡ take n w → take k (bytes_of_pairs v) ≡ take k (bytes_of_pairs w)
pairs-same k n v w h e =
    sym (pairs-take k v)
    ∙ (ap bytes_of_pairs (sym (take-take (2 * k) n v h) ∙ (ap (take (2 * k)) e ∙ take-take (2 * k) n w h)) ∙ pairs-take k w)

-- the number of four bytes, as far as two lists agree
pub first_four : (s t : List ℕ) → take 4 s ≡ take 4 t
    → from_be_bytes w32 (get_or s 0 0 ∷ get_or s 1 0 ∷ get_or s 2 0 ∷ get_or s 3 0 ∷ []) ≡ from_be_bytes w32 (get_or t 0 0 ∷ get_or t 1 0 ∷ get_or t 2 0 ∷ get_or t 3 0 ∷ [])
first_four s t e =
    let at : (i : ℕ) → i < 4 → get_or s i 0 ≡ get_or t i 0 = λ i h. sym (get_or-take 4 s i 0 h) ∙ (ap (λ l. get_or l i 0) e ∙ get_or-take 4 t i 0 h) in
    rw (at 0 (omega arith), at 1 (omega arith), at 2 (omega arith), at 3 (omega arith)) refl
