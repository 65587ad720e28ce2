-- Hex digits of a number and of its bytes.
use Rattle.std.proofs.Common.{◌≡◌, ◌∙◌, ℕ, zero, suc, ◌+◌, ◌-◌, ◌*◌, ◌/◌, ◌%◌, ◌^◌, ◌<◌, ◌≤◌, Bool, List, [], ◌∷◌, ◌++◌, length, take, drop, get_or, slice_index, append_assoc, length-append, take_at, refl, sym, ap, subst, arith}
use Rattle.std.proofs.lemmas.List.{take-append-drop, append-nil, length-take-le, take_all}
use Rattle.std.proofs.lemmas.Nat.{shr_high, shr_split, shr-shr, pow-add, pow_pos, mod_below, le_bytes_8}
use Rattle.std.specs.Int.{from_be_bytes, from_le_bytes, w64}
use Rattle.hex.specs.Hex.{encode_upper, encode_with, upper_digits}
use Rattle.cy_bits.specs.Bits.{bits, bits_of}
use Rattle.cy_bits.proofs.BitFacts.{bits-append, length_bits_of}
use Rattle.cy_bits.proofs.BitPlaces.{bits_of_split, length_bits}
use Rattle.value_scan.specs.Bytes.{AreInFront, ScansBytes}
use Rattle.value_text.specs.Words.{hex_digits}
use Rattle.value_scan.proofs.BlockLemmas.{take_byte}
use Rattle.value_scan.proofs.WordLemmas.{bits_of_bytes}

-- the number of bytes, the highest first
be : List ℕ → ℕ
be [] = 0
be (x ∷ xs) = x * 2 ^ (4 * (2 * length xs)) + be xs

tail_byte : (x : ℕ) (xs : List ℕ) → ((i : ℕ) → get_or (x ∷ xs) i 0 < 256) → (i : ℕ) → get_or xs i 0 < 256
tail_byte x xs h i = h (suc i)

be_below : (xs : List ℕ) → ((i : ℕ) → get_or xs i 0 < 256) → be xs < 2 ^ (4 * (2 * length xs))
unfolding be
be_below [] h = omega arith
be_below (x ∷ xs) h =
    let n = length xs in
    let p = 2 ^ (4 * (2 * n)) in
    let r = be_below xs (tail_byte x xs h) in
    let byte : x < 256 = h 0 in
    let size : 4 * (2 * suc n) ≡ 8 + 4 * (2 * n) = omega arith in
    let pow : 2 ^ (4 * (2 * suc n)) ≡ 256 * p = ap (λ m. 2 ^ m) size ∙ pow-add 2 8 (4 * (2 * n)) in
    subst (λ m. x * p + be xs < m) (sym pow) (within x p (be xs) byte r)
  where
    within : (a b c : ℕ) → a < 256 → c < b → a * b + c < 256 * b
    within a b c h k =
        let e : suc a ≤ 256 = omega arith in
        let f : suc a * b ≤ 256 * b = grind arith in
        let g : suc a * b ≡ a * b + b = omega arith in
        omega arith

-- only the low bits count
hex_low : (k h r : ℕ) → hex_digits k (h * 2 ^ (4 * k) + r) ≡ hex_digits k r
unfolding hex_digits
hex_low zero h r = refl
hex_low (suc k) h r =
    let p = 2 ^ (4 * k) in
    let size : 4 * suc k ≡ 4 + 4 * k = omega arith in
    let pow : 2 ^ (4 * suc k) ≡ 16 * p = ap (λ m. 2 ^ m) size ∙ pow-add 2 4 (4 * k) in
    let low : r % p < p = mod_below r p (pow_pos (4 * k)) in
    let split : r / p * p + r % p ≡ r = shr_split r (4 * k) in
    let more : h * 2 ^ (4 * suc k) + r ≡ h * 16 * p + r = ap (λ m. h * m + r) pow ∙ (let e : h * (16 * p) + r ≡ h * 16 * p + r = grind arith in e) in
    let whole : h * 16 * p + r ≡ (h * 16 + r / p) * p + r % p =
    ap (λ m. h * 16 * p + m) (sym split) ∙ (let e : h * 16 * p + (r / p * p + r % p) ≡ (h * 16 + r / p) * p + r % p = grind arith in e) in
    let first : (h * 2 ^ (4 * suc k) + r) / p % 16 ≡ r / p % 16 =
    ap (λ m. m / p % 16) (more ∙ whole) ∙ ap (λ m. m % 16) (shr_high (h * 16 + r / p) (4 * k) (r % p) low) ∙ mod_low_16 h (r / p) in
    (λ i. slice_index upper_digits (first i) ∷ hex_digits k (more i)) ∙ ap (λ l. slice_index upper_digits (r / p % 16) ∷ l) (hex_low k (h * 16) r)
  where
    mod_low_16 : (h q : ℕ) → (h * 16 + q) % 16 ≡ q % 16
    mod_low_16 h q = omega arith

-- the digits of bytes
digits_of_bytes : (xs : List ℕ) → ((i : ℕ) → get_or xs i 0 < 256) → encode_upper xs ≡ hex_digits (2 * length xs) (be xs)
unfolding encode_with hex_digits be
digits_of_bytes [] h = refl
digits_of_bytes (x ∷ xs) h =
    let n = length xs in
    let k = 2 * n in
    let p = 2 ^ (4 * k) in
    let r = be xs in
    let all = x * p + r in
    let byte : x < 256 = h 0 in
    let low : r < p = be_below xs (tail_byte x xs h) in
    let size : suc (suc k) ≡ 2 * suc n = omega arith in
    let value : all / p ≡ x = shr_high x (4 * k) r low in
    let four : 4 * suc k ≡ 4 * k + 4 = omega arith in
    let high : all / 2 ^ (4 * suc k) ≡ x / 16 = ap (λ m. all / 2 ^ m) four ∙ sym (shr-shr all (4 * k) 4) ∙ ap (λ m. m / 2 ^ 4) value in
    let a : x / 16 ≡ all / 2 ^ (4 * suc k) % 16 = (let e : x / 16 ≡ x / 16 % 16 = omega arith in e) ∙ ap (λ m. m % 16) (sym high) in
    let b : x % 16 ≡ all / p % 16 = ap (λ m. m % 16) (sym value) in
    (λ i. slice_index upper_digits (a i) ∷ slice_index upper_digits (b i) ∷ digits_of_bytes xs (tail_byte x xs h) i)
    ∙ ap (λ l. slice_index upper_digits (all / 2 ^ (4 * suc k) % 16) ∷ slice_index upper_digits (all / p % 16) ∷ l) (sym (hex_low k x r))
    ∙ ap (λ m. hex_digits m all) size

-- the first of several digits
take_digits : (d j n : ℕ) → take d (hex_digits (d + j) n) ≡ hex_digits d (n / 2 ^ (4 * j))
unfolding hex_digits
take_digits zero j n = refl
take_digits (suc d) j n =
    let e : suc d + j ≡ suc (d + j) = omega arith in
    let f : 4 * j + 4 * d ≡ 4 * (d + j) = omega arith in
    let digit : n / 2 ^ (4 * (d + j)) % 16 ≡ n / 2 ^ (4 * j) / 2 ^ (4 * d) % 16 = ap (λ m. n / 2 ^ m % 16) (sym f) ∙ ap (λ m. m % 16) (sym (shr-shr n (4 * j) (4 * d))) in
    ap (λ m. take (suc d) (hex_digits m n)) e ∙ (λ i. slice_index upper_digits (digit i) ∷ take_digits d j n i)

be_eight : (a b c d e f g h : ℕ) → from_be_bytes w64 (a ∷ b ∷ c ∷ d ∷ e ∷ f ∷ g ∷ h ∷ []) ≡ be (a ∷ b ∷ c ∷ d ∷ e ∷ f ∷ g ∷ h ∷ [])
unfolding be
be_eight a b c d e f g h = omega arith

be_number : (xs : List ℕ) → length xs ≡ 8 → from_be_bytes w64 xs ≡ be xs
be_number (a ∷ b ∷ c ∷ d ∷ e ∷ f ∷ g ∷ h ∷ []) size = be_eight a b c d e f g h
be_number _ size = absurd (omega arith)

-- the first digits of eight bytes are those of the high bits of their number
pub number_text : (xs : List ℕ) (d : ℕ) → length xs ≡ 8 → ((i : ℕ) → get_or xs i 0 < 256) → d ≤ 16 → take d (encode_upper xs) ≡ hex_digits d (from_be_bytes w64 xs / 2 ^ (64 - 4 * d))
number_text xs d size small few =
    let j = 16 - d in
    let sixteen : 2 * length xs ≡ d + j = omega arith in
    let shift : 4 * j ≡ 64 - 4 * d = omega arith in
    ap (λ l. take d l) (digits_of_bytes xs small)
    ∙ ap (λ m. take d (hex_digits m (be xs))) sixteen
    ∙ take_digits d j (be xs)
    ∙ (λ i. hex_digits d (sym (be_number xs size) i / 2 ^ shift i))

pub number_fits : (n d : ℕ) → n < 2 ^ 64 → d ≤ 16 → n / 2 ^ (64 - 4 * d) < 2 ^ (4 * d)
number_fits n d h few =
    let s = 64 - 4 * d in
    let size : s + 4 * d ≡ 64 = omega arith in
    let pow : 2 ^ 64 ≡ 2 ^ s * 2 ^ (4 * d) = ap (λ m. 2 ^ m) (sym size) ∙ pow-add 2 s (4 * d) in
    quotient_below (n / 2 ^ s) (2 ^ s) (2 ^ (4 * d)) (n % 2 ^ s) (subst (λ m. n / 2 ^ s * 2 ^ s + n % 2 ^ s < m) pow (subst (λ m. m < 2 ^ 64) (sym (shr_split n s)) h))
  where
    quotient_below : (q m k r : ℕ) → q * m + r < m * k → q < k
    quotient_below q m k r h = grind arith

-- ---- bytes

length-encoded : (xs : List ℕ) → length (encode_upper xs) ≡ 2 * length xs
unfolding encode_with
length-encoded [] = refl
length-encoded (x ∷ xs) = omega (arith, length-encoded xs)

pub take_encoded : (k : ℕ) (xs : List ℕ) → take (2 * k) (encode_upper xs) ≡ encode_upper (take k xs)
unfolding encode_with
take_encoded zero xs = refl
take_encoded (suc k) [] = let e : 2 * suc k ≡ suc (suc (2 * k)) = omega arith in ap (λ m. take {A = ℕ} m []) e
take_encoded (suc k) (x ∷ xs) =
    let e : 2 * suc k ≡ suc (suc (2 * k)) = omega arith in
    ap (λ m. take m (slice_index upper_digits (x / 16) ∷ slice_index upper_digits (x % 16) ∷ encode_upper xs)) e
    ∙ ap (λ l. slice_index upper_digits (x / 16) ∷ slice_index upper_digits (x % 16) ∷ l) (take_encoded k xs)

encode-append : (xs ys : List ℕ) → encode_upper (xs ++ ys) ≡ encode_upper xs ++ encode_upper ys
unfolding encode_with
encode-append [] ys = refl
encode-append (x ∷ xs) ys = ap (λ l. slice_index upper_digits (x / 16) ∷ slice_index upper_digits (x % 16) ∷ l) (encode-append xs ys)

-- so many bits of eight bytes
pub low_bits : (k : ℕ) (xs : List ℕ) → length xs ≡ 8 → ((i : ℕ) → get_or xs i 0 < 256) → k ≤ 8 → bits_of (8 * k) (from_le_bytes w64 xs) ≡ bits (take k xs)
low_bits k xs size small few =
    let n = from_le_bytes w64 xs in
    let w = 8 * k in
    let front = bits (take k xs) in
    let long : length front ≡ w = omega (arith, length_bits (take k xs), length-take-le k xs (omega arith)) in
    let split : 64 ≡ w + (64 - w) = omega arith in
    let all : bits_of 64 n ≡ front ++ bits (drop k xs) = sym (bits_of_bytes n) ∙ ap (λ l. bits l) (le_bytes_8 xs n size small refl) ∙ ap (λ l. bits l) (sym (take-append-drop k xs)) ∙ bits-append (take k xs) (drop k xs) in
    sym (take_at (bits_of w n) (bits_of (64 - w) (n / 2 ^ w)) w (length_bits_of w n))
    ∙ ap (λ l. take w l) (sym (bits_of_split w (64 - w) n))
    ∙ ap (λ m. take w (bits_of m n)) (sym split)
    ∙ ap (λ l. take w l) all
    ∙ take_at front (bits (drop k xs)) w long

pub bytes_none : (before : List ℕ) (old : List Bool) → ScansBytes 0 before before old old
unfolding encode_with
bytes_none before old = record { bytes = []; small = λ i. omega arith; count = refl; spelled = refl; put = sym (append-nil old) }

-- none, or the first of eight
pub no_bytes : (text : List ℕ) → AreInFront 0 0 text
unfolding encode_with bits_of
no_bytes text = record { bytes = []; small = λ i. omega arith; count = refl; spelled = refl; low = refl }

pub first_bytes : (k : ℕ) (xs digits text : List ℕ) → length xs ≡ 8 → ((i : ℕ) → get_or xs i 0 < 256) → k ≤ 8 → digits ≡ encode_upper xs → text ≡ take (2 * k) digits ++ drop (length (take (2 * k) digits)) text →
    AreInFront k (from_le_bytes w64 xs) text
first_bytes k xs digits text size small few is e =
    let front : take (2 * k) digits ≡ encode_upper (take k xs) = ap (λ l. take (2 * k) l) is ∙ take_encoded k xs in
    let count : length (take (2 * k) digits) ≡ 2 * k = ap length front ∙ length-encoded (take k xs) ∙ ap (λ m. 2 * m) (length-take-le k xs (omega arith)) in
    record {
      bytes = take k xs;
      small = take_byte k xs small;
      count = length-take-le k xs (omega arith);
      spelled = e ∙ (λ i. front i ++ drop (count i) text);
      low = low_bits k xs size small few;
    }

-- bytes that stand there, put
pub bytes_put : (n word : ℕ) (line after : List ℕ) (old new : List Bool) → AreInFront n word line → after ≡ drop (2 * n) line → new ≡ old ++ bits_of (8 * n) word → ScansBytes n line after old new
bytes_put n word line after old new there e f = record {
  bytes = there.bytes;
  small = there.small;
  count = there.count;
  spelled = there.spelled ∙ ap (λ t. encode_upper there.bytes ++ t) (sym e);
  put = f ∙ ap (λ l. old ++ l) there.low;
}

either_byte : (xs ys : List ℕ) → ((i : ℕ) → get_or xs i 0 < 256) → ((i : ℕ) → get_or ys i 0 < 256) → (i : ℕ) → get_or (xs ++ ys) i 0 < 256
either_byte [] ys h k i = k i
either_byte (x ∷ xs) ys h k zero = h 0
either_byte (x ∷ xs) ys h k (suc i) = either_byte xs ys (tail_byte x xs h) k i

pub bytes_more : (m n : ℕ) (a b c : List ℕ) (u v w : List Bool) → ScansBytes m a b u v → ScansBytes n b c v w → ScansBytes (m + n) a c u w
bytes_more m n a b c u v w first next = record {
  bytes = first.bytes ++ next.bytes;
  small = either_byte first.bytes next.bytes first.small next.small;
  count = length-append first.bytes next.bytes ∙ (λ i. first.count i + next.count i);
  spelled = first.spelled ∙ ap (λ t. encode_upper first.bytes ++ t) next.spelled ∙ sym (append_assoc (encode_upper first.bytes) (encode_upper next.bytes) c) ∙ ap (λ t. t ++ c) (sym (encode-append first.bytes next.bytes));
  put = next.put ∙ ap (λ l. l ++ bits next.bytes) first.put ∙ append_assoc u (bits first.bytes) (bits next.bytes) ∙ ap (λ l. u ++ l) (sym (bits-append first.bytes next.bytes));
}

-- digits that were written again and compared
pub number_found : (xs text bytes : List ℕ) (d k n m : ℕ) → length xs ≡ 8 → ((i : ℕ) → get_or xs i 0 < 256) → d ≤ 16 → text ≡ encode_upper (take 8 xs) →
    bytes ≡ take k text ++ drop (length (take k text)) bytes → k ≡ d → n ≡ from_be_bytes w64 xs → n < 2 ^ 64 → m ≡ d →
    (n / 2 ^ (64 - 4 * m) < 2 ^ (4 * d)) × (bytes ≡ hex_digits d (n / 2 ^ (64 - 4 * m)) ++ drop d bytes)
number_found xs text bytes d k n m size small few is e is_k is_n fits is_m =
    let whole : text ≡ encode_upper xs = is ∙ ap (λ l. encode_upper l) (take_all 8 xs (omega arith)) in
    let value : n / 2 ^ (64 - 4 * m) ≡ from_be_bytes w64 xs / 2 ^ (64 - 4 * d) = λ i. is_n i / 2 ^ (64 - 4 * is_m i) in
    let front : take k text ≡ take d (encode_upper xs) = λ i. take (is_k i) (whole i) in
    let digits : take k text ≡ hex_digits d (n / 2 ^ (64 - 4 * m)) = front ∙ number_text xs d size small few ∙ ap (λ v. hex_digits d v) (sym value) in
    let long : length (take k text) ≡ d = ap length front ∙ length-take-le d (encode_upper xs) (omega (arith, length-encoded xs)) in
    let below : n / 2 ^ (64 - 4 * m) < 2 ^ (4 * d) = subst (λ v. n / 2 ^ (64 - 4 * v) < 2 ^ (4 * d)) (sym is_m) (number_fits n d fits few) in
    (below, e ∙ (λ i. digits i ++ drop (long i) bytes))

pub bytes_found : (k word : ℕ) (xs digits text : List ℕ) → length xs ≡ 8 → ((i : ℕ) → get_or xs i 0 < 256) → k ≤ 8 → digits ≡ encode_upper (take 8 xs) →
    text ≡ take (2 * k) digits ++ drop (length (take (2 * k) digits)) text → word ≡ from_le_bytes w64 xs → AreInFront k word text
bytes_found k word xs digits text size small few is e f =
    let whole : digits ≡ encode_upper xs = is ∙ ap (λ l. encode_upper l) (take_all 8 xs (omega arith)) in
    subst (λ m. AreInFront k m text) (sym f) (first_bytes k xs digits text size small few whole e)
