-- Digits and the bytes of which they are the hex.
use Rattle.std.proofs.Common.{◌≡◌, ◌∙◌, ◌<◌, ◌≤◌, ℕ, zero, suc, ◌+◌, ◌*◌, ◌/◌, ◌%◌, ◌==◌, ◌++◌, Bool, false, List, [], ◌∷◌, Option, Some, None, Result, Ok, Err, refl, sym, ap, ap₂, map, length, take, drop, get_or, bit_or, arith, append_assoc, length-append, subst}
use Rattle.std.specs.Prelude.{if◌then◌else◌}
use Rattle.std.specs.List.{range_with_len}
use Rattle.std.proofs.lemmas.List.{append-nil, length-drop, length-take-le, take-append-drop, take-append-le, take-take, take_all}
use Rattle.std.proofs.lemmas.List.FromFn.{get_or-map-range_with_len}
use Rattle.std.proofs.Math.Seq.{drop-append_seam, take-add, take-append_seam}
use Rattle.hex.specs.Hex.{hex_digit_value, decode_pairs, decode_of, pair_value, ◌>>=◌}
use Rattle.hex.specs.declared.error.FromHexError.{FromHexError}
use Rattle.hex.specs.declared.error.FromHexError.TheVariants.{OddLength}
use Rattle.value_lines.specs.Digits.{AreDigits, IsHexOf, IsRead, PutsHex, bytes_of_pairs, digit, or_sixteen}

-- ---- the bytes of pairs of values

bytes_are : map (λ n. bit_or (n / 16 * 16 % 256) (n % 16)) (range_with_len 0 256) ≡ map (λ n. n) (range_with_len 0 256)
bytes_are = refl

joined_is : (n : ℕ) → n < 256 → bit_or (n / 16 * 16 % 256) (n % 16) ≡ n
joined_is n h = sym (get_or-map-range_with_len (λ n. bit_or (n / 16 * 16 % 256) (n % 16)) 0 256 n n 0 (omega arith) (omega arith))
    ∙ (ap (λ (t : List ℕ). get_or t n 0) bytes_are ∙ get_or-map-range_with_len (λ n. n) 0 256 n n 0 (omega arith) (omega arith))

byte_is : (a b : ℕ) → a < 16 → b < 16 → bit_or (a * 16 % 256) b ≡ a * 16 + b
byte_is a b h k =
    let high : (a * 16 + b) / 16 ≡ a = omega (arith, h, k) in
    let low : (a * 16 + b) % 16 ≡ b = omega (arith, h, k) in
    ap₂ (λ x y. bit_or (x * 16 % 256) y) (sym high) (sym low) ∙ joined_is (a * 16 + b) (omega (arith, h, k))

pub hex_of_pairs : (n : ℕ) (digits : List ℕ) → length digits ≡ 2 * n → AreDigits (map digit digits) → IsHexOf digits (bytes_of_pairs (map digit digits))
hex_of_pairs zero [] e h = tt
hex_of_pairs (suc n) [] e h = absurd (omega (arith, e))
hex_of_pairs n (a ∷ []) e h = absurd (omega (arith, e))
hex_of_pairs zero (a ∷ b ∷ digits) e h = absurd (omega (arith, e))
hex_of_pairs (suc n) (a ∷ b ∷ digits) e h = ((h.0, h.1.0), (byte_is (digit a) (digit b) h.0 h.1.0, hex_of_pairs n digits (omega (arith, e)) h.1.1))

-- ---- what `hex` decodes

some_digit : (o : Option ℕ) → or_sixteen o < 16 → o ≡ Some (or_sixteen o)
some_digit (Some v) h = refl
some_digit None h = absurd (omega (arith, h))

pair_is : (i a b : ℕ) → digit a < 16 → digit b < 16 → pair_value a b i ≡ Ok (digit a * 16 + digit b)
pair_is i a b h k = rw (some_digit (hex_digit_value a) h, some_digit (hex_digit_value b) k) refl

pairs_are : (i : ℕ) (digits bytes : List ℕ) → IsHexOf digits bytes → decode_pairs i digits ≡ Ok bytes
unfolding decode_pairs
pairs_are i [] [] h = refl
pairs_are i [] (byte ∷ bytes) h = absurd h
pairs_are i (a ∷ []) bytes h = absurd h
pairs_are i (a ∷ b ∷ digits) [] h = absurd h
pairs_are i (a ∷ b ∷ digits) (byte ∷ bytes) h =
    ap (λ r. r >>= (λ x. decode_pairs (i + 2) digits >>= (λ xs. Ok (x ∷ xs)))) (pair_is i a b h.0.0 h.0.1)
    ∙ ap (λ r. r >>= (λ xs. Ok ((digit a * 16 + digit b) ∷ xs))) (pairs_are (i + 2) digits bytes h.1.1)
    ∙ ap (λ x. Ok (x ∷ bytes)) (sym h.1.0)

pub hex_length : (digits bytes : List ℕ) → IsHexOf digits bytes → length digits ≡ 2 * length bytes
hex_length [] [] h = refl
hex_length [] (byte ∷ bytes) h = absurd h
hex_length (a ∷ []) bytes h = absurd h
hex_length (a ∷ b ∷ digits) [] h = absurd h
hex_length (a ∷ b ∷ digits) (byte ∷ bytes) h = let l = hex_length digits bytes h.1.1 in omega (arith, l)

if_even : (t : Bool) (r : Result (List ℕ) FromHexError) → t ≡ false → (if t then Err OddLength else r) ≡ r
if_even t r e = ap (λ u. if u then Err OddLength else r) e

even_test : (n : ℕ) → n % 2 ≡ 0 → (n % 2 == 1) ≡ false
even_test n e = ap (λ m. m == 1) e

pub hex_decodes : (digits bytes : List ℕ) → IsHexOf digits bytes → decode_of digits ≡ Ok bytes
hex_decodes digits bytes h =
    let even : length digits % 2 ≡ 0 = omega (arith, hex_length digits bytes h) in
    if_even (length digits % 2 == 1) (decode_pairs 0 digits) (even_test (length digits) even) ∙ pairs_are 0 digits bytes h

-- ---- parts

pub hex_take : (n m : ℕ) (digits bytes : List ℕ) → m ≡ 2 * n → IsHexOf digits bytes → IsHexOf (take m digits) (take n bytes)
hex_take zero zero digits bytes e h = tt
hex_take zero (suc m) digits bytes e h = absurd (omega (arith, e))
hex_take (suc n) zero digits bytes e h = absurd (omega (arith, e))
hex_take (suc n) (suc zero) digits bytes e h = absurd (omega (arith, e))
hex_take (suc n) (suc (suc m)) [] [] e h = tt
hex_take (suc n) (suc (suc m)) [] (byte ∷ bytes) e h = absurd h
hex_take (suc n) (suc (suc m)) (a ∷ []) bytes e h = absurd h
hex_take (suc n) (suc (suc m)) (a ∷ b ∷ digits) [] e h = absurd h
hex_take (suc n) (suc (suc m)) (a ∷ b ∷ digits) (byte ∷ bytes) e h = (h.0, (h.1.0, hex_take n m digits bytes (omega (arith, e)) h.1.1))

pub hex_drop : (n m : ℕ) (digits bytes : List ℕ) → m ≡ 2 * n → IsHexOf digits bytes → IsHexOf (drop m digits) (drop n bytes)
hex_drop zero zero digits bytes e h = h
hex_drop zero (suc m) digits bytes e h = absurd (omega (arith, e))
hex_drop (suc n) zero digits bytes e h = absurd (omega (arith, e))
hex_drop (suc n) (suc zero) digits bytes e h = absurd (omega (arith, e))
hex_drop (suc n) (suc (suc m)) [] [] e h = tt
hex_drop (suc n) (suc (suc m)) [] (byte ∷ bytes) e h = absurd h
hex_drop (suc n) (suc (suc m)) (a ∷ []) bytes e h = absurd h
hex_drop (suc n) (suc (suc m)) (a ∷ b ∷ digits) [] e h = absurd h
hex_drop (suc n) (suc (suc m)) (a ∷ b ∷ digits) (byte ∷ bytes) e h = hex_drop n m digits bytes (omega (arith, e)) h.1.1

hex_append : (digits bytes ds bs : List ℕ) → IsHexOf digits bytes → IsHexOf ds bs → IsHexOf (digits ++ ds) (bytes ++ bs)
hex_append [] [] ds bs h k = k
hex_append [] (byte ∷ bytes) ds bs h k = absurd h
hex_append (a ∷ []) bytes ds bs h k = absurd h
hex_append (a ∷ b ∷ digits) [] ds bs h k = absurd h
hex_append (a ∷ b ∷ digits) (byte ∷ bytes) ds bs h k = (h.0, (h.1.0, hex_append digits bytes ds bs h.1.1 k))

pub puts_none : (old : List ℕ) → PutsHex [] old old
puts_none old = record { bytes = []; hex = tt; put = sym (append-nil old) }

pub puts_more : (ds es old mid new : List ℕ) → PutsHex ds old mid → PutsHex es mid new → PutsHex (ds ++ es) old new
puts_more ds es old mid new h k = record {
  bytes = h.bytes ++ k.bytes;
  hex = hex_append ds h.bytes es k.bytes h.hex k.hex;
  put = k.put ∙ ap (λ x. x ++ k.bytes) h.put ∙ append_assoc old h.bytes k.bytes;
}

pub puts_all : (m : ℕ) (hex old new : List ℕ) → length hex ≤ m → PutsHex (take m hex) old new → PutsHex hex old new
puts_all m hex old new few h = subst (λ l. PutsHex l old new) (take_all m hex few) h

-- digits behind others
pub puts_next : (m k j : ℕ) (hex old mid new : List ℕ) → j ≡ m + k → PutsHex (take m hex) old mid → PutsHex (take k (drop m hex)) mid new → PutsHex (take j hex) old new
puts_next m k j hex old mid new e h g =
    subst (λ l. PutsHex l old new) (sym (ap (λ i. take i hex) e ∙ take-add m k hex)) (puts_more (take m hex) (take k (drop m hex)) old mid new h g)

-- the first of the bytes of sixteen digits
pub puts_sixteen : (n : ℕ) (hex block old new : List ℕ) → n ≤ 8 → IsHexOf (take 16 hex) block → new ≡ old ++ take n block → PutsHex (take (2 * n) hex) old new
puts_sixteen n hex block old new few h e = record {
  bytes = take n block;
  hex = subst (λ l. IsHexOf l (take n block)) (take-take (2 * n) 16 hex (omega (arith, few))) (hex_take n (2 * n) (take 16 hex) block refl h);
  put = e;
}

-- the byte of two digits
pub puts_pair : (a b byte : ℕ) (old new : List ℕ) → digit a ≤ 15 → digit b ≤ 15 → byte ≡ digit a * 16 + digit b → new ≡ old ++ byte ∷ [] → PutsHex (a ∷ b ∷ []) old new
puts_pair a b byte old new h k e f = record {
  bytes = byte ∷ [];
  hex = ((omega (arith, h), omega (arith, k)), (e, tt));
  put = f;
}

four_last : (b : List ℕ) → length b ≡ 8 → get_or b 4 0 ∷ get_or b 5 0 ∷ get_or b 6 0 ∷ get_or b 7 0 ∷ [] ≡ drop 4 b
four_last (a ∷ b ∷ c ∷ d ∷ e ∷ f ∷ g ∷ h ∷ []) l = refl
four_last [] l = absurd (omega (arith, l))
four_last (a ∷ []) l = absurd (omega (arith, l))
four_last (a ∷ b ∷ []) l = absurd (omega (arith, l))
four_last (a ∷ b ∷ c ∷ []) l = absurd (omega (arith, l))
four_last (a ∷ b ∷ c ∷ d ∷ []) l = absurd (omega (arith, l))
four_last (a ∷ b ∷ c ∷ d ∷ e ∷ []) l = absurd (omega (arith, l))
four_last (a ∷ b ∷ c ∷ d ∷ e ∷ f ∷ []) l = absurd (omega (arith, l))
four_last (a ∷ b ∷ c ∷ d ∷ e ∷ f ∷ g ∷ []) l = absurd (omega (arith, l))
four_last (a ∷ b ∷ c ∷ d ∷ e ∷ f ∷ g ∷ h ∷ i ∷ rest) l = absurd (omega (arith, l))

-- the first eight digits and the last eight
pub puts_short : (n : ℕ) (hex block old mid new : List ℕ) → length hex ≡ n + 8 → n ≤ 8 → n % 2 ≡ 0 → IsHexOf (take 8 hex ++ take 8 (drop n hex)) block →
    mid ≡ old ++ take (n / 2) block → new ≡ mid ++ (get_or block 4 0 ∷ get_or block 5 0 ∷ get_or block 6 0 ∷ get_or block 7 0 ∷ []) → PutsHex hex old new
puts_short n hex block old mid new size few even h e f =
    let digits = take 8 hex ++ take 8 (drop n hex) in
    let first : length (take 8 hex) ≡ 8 = length-take-le 8 hex (omega (arith, size)) in
    let behind : length (drop n hex) ≡ 8 = omega (arith, length-drop n hex, size) in
    let last : take 8 (drop n hex) ≡ drop n hex = take_all 8 (drop n hex) (omega (arith, behind)) in
    let all : length digits ≡ 16 = omega (arith, length-append (take 8 hex) (take 8 (drop n hex)), first, ap length last, behind) in
    let long : length block ≡ 8 = omega (arith, hex_length digits block h, all) in
    let front_is : take n digits ≡ take n hex = take-append-le n (take 8 hex) (take 8 (drop n hex)) (omega (arith, few, first)) ∙ take-take n 8 hex few in
    let end_is : drop 8 digits ≡ drop n hex = ap (λ m. drop m digits) (sym first) ∙ drop-append_seam (take 8 hex) (take 8 (drop n hex)) ∙ last in
    let front : IsHexOf (take n hex) (take (n / 2) block) = subst (λ l. IsHexOf l (take (n / 2) block)) front_is (hex_take (n / 2) n digits block (omega (arith, even)) h) in
    let end : IsHexOf (drop n hex) (drop 4 block) = subst (λ l. IsHexOf l (drop 4 block)) end_is (hex_drop 4 8 digits block refl h) in
    subst (λ l. PutsHex l old new) (take-append-drop n hex)
    (puts_more (take n hex) (drop n hex) old mid new (record { bytes = take (n / 2) block; hex = front; put = e })
    (record { bytes = drop 4 block; hex = end; put = f ∙ ap (λ l. mid ++ l) (four_last block long) }))

-- a text that was read, with some bytes behind its own
pub read : (n : ℕ) (hex mid zeros new : List ℕ) → length hex % 2 ≡ 0 → n ≡ length hex / 2 → PutsHex hex [] mid → length zeros ≡ 16 → new ≡ mid ++ zeros → IsRead hex n new
read n hex mid zeros new even e h size f =
    let count : length mid ≡ n = omega (arith, hex_length hex h.bytes h.hex, ap length h.put, e) in
    let front : take n new ≡ h.bytes = (λ i. take (sym count i) (f i)) ∙ take-append_seam mid zeros ∙ h.put in record {
      hex = hex_decodes hex h.bytes h.hex ∙ ap Ok (sym front);
      slack = omega (arith, ap length f, length-append mid zeros, count, size);
    }

-- two neighbours
pub two_at : (i j : ℕ) (hex : List ℕ) → j ≡ i + 1 → i + 2 ≤ length hex → get_or hex i 0 ∷ get_or hex j 0 ∷ [] ≡ take 2 (drop i hex)
two_at zero zero hex e h = absurd (omega (arith, e))
two_at zero (suc (suc j)) hex e h = absurd (omega (arith, e))
two_at zero (suc zero) [] e h = absurd (omega (arith, h))
two_at zero (suc zero) (a ∷ []) e h = absurd (omega (arith, h))
two_at zero (suc zero) (a ∷ b ∷ hex) e h = refl
two_at (suc i) zero hex e h = absurd (omega (arith, e))
two_at (suc i) (suc j) [] e h = absurd (omega (arith, h))
two_at (suc i) (suc j) (a ∷ hex) e h = two_at i j hex (omega (arith, e)) (omega (arith, h))
