-- Bits and bytes of each other, and how zeros go through
use Rattle.std.proofs.Common.{◌≡◌, ℕ, zero, suc, ◌+◌, ◌*◌, ◌-◌, ◌/◌, ◌%◌, ◌^◌, ◌<◌, ◌≤◌, ◌==◌, min, Bool, true, false, List, [], ◌∷◌, ◌++◌, length, take, drop, replicate, refl, sym, ap, ◌∙◌, arith, append_assoc}
use Rattle.std.proofs.lemmas.List.{take_at, drop_at, drop-replicate, take_all, replicate-append-replicate, take-append-drop, drop_all, length-drop, length-take-le, append-nil}
use Rattle.std.proofs.lemmas.Grind.{common_steps}
use Rattle.std.proofs.lemmas.Bool.{cases_lt}
use Rattle.std.proofs.Common.{inl, inr}
use Rattle.cy_bits.specs.Bits.{one, number, bits_of, zeros, bits, bytes_up_to}

pub length_bits_of : (w n : ℕ) → length (bits_of w n) ≡ w
unfolding bits_of
length_bits_of zero n = refl
length_bits_of (suc w) n = ap suc (length_bits_of w (n / 2))

one_odd : (n : ℕ) → one (n % 2 == 1) ≡ n % 2
one_odd n = grind (arith, common_steps)

pub number_bits_of : (w n : ℕ) → n < 2 ^ w → number (bits_of w n) ≡ n
unfolding bits_of number
number_bits_of zero n h = omega arith
number_bits_of (suc w) n h = omega (arith, one_odd n, number_bits_of w (n / 2) (omega arith))

pub number_zeros : (k : ℕ) → number (zeros k) ≡ 0
unfolding number
number_zeros zero = refl
number_zeros (suc k) = omega (arith, number_zeros k)

pub take_bits : (w n : ℕ) (tail : List Bool) → n < 2 ^ w → number (take w (bits_of w n ++ tail)) ≡ n
take_bits w n tail h = ap number (take_at (bits_of w n) tail w (length_bits_of w n)) ∙ number_bits_of w n h

pub drop_bits : (w n : ℕ) (tail : List Bool) → drop w (bits_of w n ++ tail) ≡ tail
drop_bits w n tail = drop_at (bits_of w n) tail w (length_bits_of w n)

pub zeros-append : (a b : ℕ) → zeros a ++ zeros b ≡ zeros (a + b)
zeros-append a b = replicate-append-replicate a b false

pub take_zeros : (w k : ℕ) → take w (zeros k) ≡ zeros (min w k)
take_zeros zero k = let e : 0 ≡ min zero k = omega arith in ap (λ n. zeros n) e
take_zeros (suc w) zero = let e : 0 ≡ min (suc w) zero = omega arith in ap (λ n. zeros n) e
take_zeros (suc w) (suc k) = let e : suc (min w k) ≡ min (suc w) (suc k) = omega arith in ap (λ l. false ∷ l) (take_zeros w k) ∙ ap (λ n. zeros n) e

pub drop_zeros : (w k : ℕ) → drop w (zeros k) ≡ zeros (k - w)
drop_zeros w k = drop-replicate w k false

pub number_take_zeros : (w k : ℕ) → number (take w (zeros k)) ≡ 0
number_take_zeros w k = ap number (take_zeros w k) ∙ number_zeros (min w k)

pub bits_padded : (w : ℕ) (l : List Bool) → length l ≤ w → bits_of w (number l) ≡ l ++ zeros (w - length l)
unfolding bits_of number
bits_padded zero [] h = refl
bits_padded zero (b ∷ l) h = absurd (omega arith)
bits_padded (suc w) [] h = ap (λ x. false ∷ x) (bits_padded w [] (omega arith)) ∙ (let e : suc (w - 0) ≡ suc w - 0 = omega arith in ap (λ n. zeros n) e)
bits_padded (suc w) (b ∷ l) h =
    ap (λ n. ((one b + 2 * number l) % 2 == 1) ∷ bits_of w n) (half b (number l))
    ∙ ap (λ x. x ∷ bits_of w (number l)) (low b (number l))
    ∙ ap (λ x. b ∷ x) (bits_padded w l (omega arith))
    ∙ (let e : w - length l ≡ suc w - suc (length l) = omega arith in ap (λ n. (b ∷ l) ++ zeros n) e)
  where
    half : (b : Bool) (n : ℕ) → (one b + 2 * n) / 2 ≡ n
    half true n = omega arith
    half false n = omega arith

    low : (b : Bool) (n : ℕ) → ((one b + 2 * n) % 2 == 1) ≡ b
    low true n = let e : (1 + 2 * n) % 2 ≡ 1 = omega arith in rw e refl
    low false n = let e : (0 + 2 * n) % 2 ≡ 0 = omega arith in rw e refl

pub bits-append : (xs ys : List ℕ) → bits (xs ++ ys) ≡ bits xs ++ bits ys
bits-append [] ys = refl
bits-append (x ∷ xs) ys = ap (λ l. bits_of 8 x ++ l) (bits-append xs ys) ∙ sym (append_assoc (bits_of 8 x) (bits xs) (bits ys))

bits_none : (w : ℕ) → bits_of w 0 ≡ zeros w
unfolding number
bits_none w = bits_padded w [] (omega arith) ∙ (let e : w - 0 ≡ w = omega arith in ap (λ n. zeros n) e)

pub bits_zero : (k : ℕ) → bits (replicate k 0) ≡ zeros (8 * k)
bits_zero zero = refl
bits_zero (suc k) =
    ap (λ l. bits_of 8 0 ++ l) (bits_zero k)
    ∙ ap (λ l. l ++ zeros (8 * k)) (bits_none 8)
    ∙ zeros-append 8 (8 * k)
    ∙ (let e : 8 + 8 * k ≡ 8 * suc k = omega arith in ap (λ n. zeros n) e)

bits_bytes_short : (n : ℕ) (l : List Bool) → length l ≤ 8 → bits_of 8 (number (take 8 l)) ++ zeros (8 * n) ≡ l ++ zeros (8 * suc n - length l)
bits_bytes_short n l h =
    ap (λ x. bits_of 8 (number x) ++ zeros (8 * n)) (take_all 8 l h)
    ∙ ap (λ x. x ++ zeros (8 * n)) (bits_padded 8 l h)
    ∙ append_assoc l (zeros (8 - length l)) (zeros (8 * n))
    ∙ ap (λ x. l ++ x) (zeros-append (8 - length l) (8 * n))
    ∙ (let e : 8 - length l + 8 * n ≡ 8 * suc n - length l = omega arith in ap (λ m. l ++ zeros m) e)

pub bits_bytes : (n : ℕ) (l : List Bool) → length l ≤ 8 * n → bits (bytes_up_to n l) ≡ l ++ zeros (8 * n - length l)
bits_bytes zero [] h = refl
bits_bytes zero (b ∷ l) h = absurd (omega arith)
bits_bytes (suc n) l h =
    ap (λ x. bits_of 8 (number (take 8 l)) ++ x) (bits_bytes n (drop 8 l) (omega (arith, length-drop 8 l)))
    ∙ elim (cases_lt (length l) 8) [
      | inr long ↦
          ap (λ x. x ++ (drop 8 l ++ zeros (8 * n - length (drop 8 l)))) (whole_byte long)
          ∙ sym (append_assoc (take 8 l) (drop 8 l) (zeros (8 * n - length (drop 8 l))))
          ∙ ap (λ x. x ++ zeros (8 * n - length (drop 8 l))) (take-append-drop 8 l)
          ∙ (let e : 8 * n - length (drop 8 l) ≡ 8 * suc n - length l = omega (arith, length-drop 8 l) in ap (λ m. l ++ zeros m) e)
      | inl short ↦
          ap (λ x. bits_of 8 (number (take 8 l)) ++ (x ++ zeros (8 * n - length x))) (drop_all 8 l (omega arith))
          ∙ (let e : 8 * n - 0 ≡ 8 * n = omega arith in ap (λ m. bits_of 8 (number (take 8 l)) ++ zeros m) e)
          ∙ bits_bytes_short n l (omega arith)
    ]
  where
    whole_byte : 8 ≤ length l → bits_of 8 (number (take 8 l)) ≡ take 8 l
    whole_byte long =
        let e : length (take 8 l) ≡ 8 = length-take-le 8 l long in
        bits_padded 8 (take 8 l) (omega arith)
        ∙ (let z : 8 - length (take 8 l) ≡ 0 = omega arith in ap (λ m. take 8 l ++ zeros m) z)
        ∙ append-nil (take 8 l)
