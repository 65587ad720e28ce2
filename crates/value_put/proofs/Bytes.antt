-- Arrays of bytes, of which the text is hex.
use Rattle.std.proofs.Common.{◌≡◌, ◌∙◌, ℕ, zero, suc, ◌+◌, ◌*◌, ◌/◌, ◌%◌, ◌^◌, ◌<◌, ◌≤◌, ◌&&◌, slice_index, pos, arith, rules, length-take, take-append-drop, Bool, true, List, [], ◌∷◌, ◌++◌, length, take, drop, get_or, append_assoc, refl, sym, ap}
use Rattle.std.proofs.lemmas.Bool.{false≢true, lt-ltb}
use Rattle.std.specs.Prelude.{codes, if◌then◌else◌}
use Rattle.hex.specs.Hex.{encode_upper, encode_with, upper_digits}
use Rattle.cy_bits.specs.Bits.{bits, bits_of, number}
use Rattle.cy_bits.proofs.BitFacts.{take_bits, drop_bits}
use Rattle.cy_bits.proofs.BitPlaces.{length_bits}
use Rattle.dsdl_types.specs.Reading.{Got, and_then, part, row}
use Rattle.dsdl_types.specs.Schemas.{PBool, PUint, PInt, PFloat, Simple}
use Rattle.dsdl_types.specs.Schemas as D
use Rattle.dsdl_types.specs.Values.{Vals, Num, Empty, More}
use Rattle.value_text.proofs.Rest.{regroup}
use Rattle.value_text.specs.Texts.{are_bytes, array_text, byte_text, in_a_row, is_uint8, texts, value_text}
use Rattle.value_text.specs.Words.{hex_digits, in_brackets, separated}
use Rattle.value_put.specs.Parts.{array_told}
use Rattle.value_put.specs.Told.{AreBytes, Yes, told, after}

abbrev pub bytes_vals : List ℕ → Vals
bytes_vals [] = Empty
bytes_vals (x ∷ xs) = More (Num (pos x)) (bytes_vals xs)

pub are_all : (xs : List ℕ) → AreBytes xs → are_bytes (bytes_vals xs) ≡ true
are_all [] h = refl
are_all (x ∷ xs) h = ap (λ b. b && are_bytes (bytes_vals xs)) (lt-ltb x 256 h.0) ∙ are_all xs h.1

byte_digits : (x : ℕ) → x < 2 ^ 8 → hex_digits 2 x ≡ slice_index upper_digits (x / 16) ∷ slice_index upper_digits (x % 16) ∷ []
unfolding hex_digits
byte_digits x h =
    let a : x / 2 ^ 4 % 16 ≡ x / 16 = omega arith in
    let b : x / 2 ^ 0 % 16 ≡ x % 16 = omega arith in
    λ i. slice_index upper_digits (a i) ∷ slice_index upper_digits (b i) ∷ []

bytes_text : (xs : List ℕ) → AreBytes xs → in_a_row byte_text (bytes_vals xs) ≡ encode_upper xs
unfolding encode_with
bytes_text [] h = refl
bytes_text (x ∷ xs) h = ap (λ t. t ++ in_a_row byte_text (bytes_vals xs)) (byte_digits x h.0) ∙ ap (λ t. slice_index upper_digits (x / 16) ∷ slice_index upper_digits (x % 16) ∷ t) (bytes_text xs h.1)

bits_front : (x : ℕ) (xs : List ℕ) (tail : List Bool) → bits (x ∷ xs) ++ tail ≡ bits_of 8 x ++ (bits xs ++ tail)
bits_front x xs tail = simp append_assoc

pub row_bytes : (c : Bool) (xs : List ℕ) (tail : List Bool) (i p : ℕ) → AreBytes xs →
    row (part (Simple (PUint 8 c))) (length xs) i p (bits xs ++ tail) ≡ Got (bytes_vals xs) (p + 8 * length xs) tail
row_bytes c [] tail i p h = let e : p ≡ p + 8 * 0 = omega arith in ap (λ q. Got Empty q tail) e
row_bytes c (x ∷ xs) tail i p h =
    let more = bits xs ++ tail in
    let value : number (take 8 (bits (x ∷ xs) ++ tail)) ≡ x = ap (λ l. number (take 8 l)) (bits_front x xs tail) ∙ take_bits 8 x more h.0 in
    let rest : drop 8 (bits (x ∷ xs) ++ tail) ≡ more = ap (λ l. drop 8 l) (bits_front x xs tail) ∙ drop_bits 8 x more in
    let q : p + 8 + 8 * length xs ≡ p + 8 * suc (length xs) = omega arith in
    (λ k. and_then (row (part (Simple (PUint 8 c))) (length xs) (suc i) (p + 8) (rest k)) (λ vs. Got (More (Num (pos (value k))) vs)))
    ∙ ap (λ r. and_then r (λ vs. Got (More (Num (pos x)) vs))) (row_bytes c xs tail (suc i) (p + 8) h.1)
    ∙ ap (λ m. Got (More (Num (pos x)) (bytes_vals xs)) m tail) q

pub told_bytes : (c : Bool) (w : List ℕ) (x : List Bool) (n p q : ℕ) (y : List Bool) (old new : List ℕ) → AreBytes w → 8 * n ≤ length x → bits w ≡ take (8 * n) x → q ≡ p + 8 * n → y ≡ drop (8 * n) x →
    new ≡ (old ++ codes "#") ++ encode_upper w → after old (array_told (Simple (PUint 8 c)) n p x) ≡ Yes new q y
told_bytes c w x n p q y old new all room is_w is_q is_y f =
    let size : length w ≡ n = omega (arith, length_bits w, ap length is_w, length-take (8 * n) x, room) in
    let whole : x ≡ bits w ++ y = sym (take-append-drop (8 * n) x) ∙ (λ k. sym is_w k ++ sym is_y k) in
    let read : row (part (Simple (PUint 8 c))) n 0 p x ≡ Got (bytes_vals w) q y =
    (λ k. row (part (Simple (PUint 8 c))) (sym size k) 0 p (whole k)) ∙ row_bytes c w y 0 p all ∙ ap (λ m. Got (bytes_vals w) m y) (ap (λ m. p + 8 * m) size ∙ sym is_q) in
    ap (λ r. after old (told (λ vs. array_text true (λ v. value_text (Simple (PUint 8 c)) v) vs) r)) read
    ∙ ap (λ b. Yes (old ++ (if b then codes "#" ++ in_a_row byte_text (bytes_vals w) else in_brackets (separated (texts (λ v. value_text (Simple (PUint 8 c)) v) (bytes_vals w))))) q y) (are_all w all)
    ∙ ap (λ t. Yes (old ++ (codes "#" ++ t)) q y) (bytes_text w all)
    ∙ ap (λ t. Yes t q y) (sym (regroup old (codes "#") (encode_upper w)) ∙ sym f)

pub uint8_is : (s : D.Sch) → is_uint8 s ≡ true → (c : Bool) × (s ≡ Simple (PUint 8 c))
uint8_is (Simple (PUint w c)) h = let e : w ≡ 8 = search (rules, h) in (c, ap (λ m. Simple (PUint m c)) e)
uint8_is (Simple PBool) h = absurd (false≢true h)
uint8_is (Simple (PInt w)) h = absurd (false≢true h)
uint8_is (Simple (PFloat w c)) h = absurd (false≢true h)
uint8_is (D.Fixed s n) h = absurd (false≢true h)
uint8_is (D.Var s n) h = absurd (false≢true h)
uint8_is (D.Struct fs o) h = absurd (false≢true h)
uint8_is (D.Union fs o) h = absurd (false≢true h)

pub are_bytes_at : (xs : List ℕ) → ((i : ℕ) → get_or xs i 0 < 2 ^ 8) → AreBytes xs
are_bytes_at [] f = tt
are_bytes_at (x ∷ xs) f = (f 0, are_bytes_at xs (λ i. f (suc i)))

pub are_bytes_taken : (n : ℕ) (xs : List ℕ) → ((i : ℕ) → get_or xs i 0 < 2 ^ 8) → AreBytes (take n xs)
are_bytes_taken zero xs f = tt
are_bytes_taken (suc n) [] f = tt
are_bytes_taken (suc n) (x ∷ xs) f = (f 0, are_bytes_taken n xs (λ i. f (suc i)))
