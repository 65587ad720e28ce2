-- What is found in a line.
use Rattle.std.proofs.Common.{◌≡◌, ℕ, zero, suc, ◌+◌, ◌-◌, ◌*◌, ◌^◌, ◌/◌, ◌%◌, ◌<◌, ◌≤◌, ◌==◌, Bool, true, false, List, [], ◌∷◌, ◌++◌, length, take, drop, get_or, slice_index, sym, ap, ◌∙◌, subst, arith, add-one}
use Rattle.std.proofs.Math.Nat.{div-div-eq-div-mul}
use Rattle.std.proofs.lemmas.Nat.{pow-add}
use Rattle.std.proofs.lemmas.Bool.{false≢true}
use Rattle.std.proofs.lemmas.Bool.Decides.{nat_tests}
use Rattle.std.proofs.Math.Pow.{pow_mono}
use Rattle.std.proofs.lemmas.List.{append-nil, take-append-drop}
use Rattle.hex.specs.Hex.{upper_digits}
use Rattle.value_text.specs.Ends.{Clear, Halts, stop, top}
use Rattle.value_text.specs.Words.{hex_digits}
use Rattle.value_text.proofs.Rest.{hex_next, hex_none}
use Rattle.value_text.proofs.Tokens.{behind, token_split}

clear_suc : (p : ℕ → Bool) (l : List ℕ) (i d : ℕ) → i < length l → Clear p (take i l) → p (get_or l i d) ≡ false → Clear p (take (suc i) l)
clear_suc p [] i d h f g = tt
clear_suc p (c ∷ l) zero d h f g = (g, tt)
clear_suc p (c ∷ l) (suc i) d h f g = (f.0, clear_suc p l i d (omega (arith, h)) f.1 g)

pub clear_more : (p : ℕ → Bool) (l : List ℕ) (i d : ℕ) → i < length l → Clear p (take i l) → p (get_or l i d) ≡ false → Clear p (take (i + 1) l)
clear_more p l i d h f g = subst (λ n. Clear p (take n l)) (sym (add-one i)) (clear_suc p l i d h f g)

halts_at : (p : ℕ → Bool) (l : List ℕ) (i d : ℕ) → i < length l → p (get_or l i d) ≡ true → Halts p (drop i l)
halts_at p [] i d h f = absurd (omega (arith, h))
halts_at p (c ∷ l) zero d h f = f
halts_at p (c ∷ l) (suc i) d h f = halts_at p l i d (omega (arith, h)) f

-- the bytes in front of the first that ends a text
pub token_is : (l : List ℕ) (i d : ℕ) → i < length l → Clear stop (take i l) → stop (get_or l i d) ≡ true → (t rest : List ℕ) → Clear stop t → Halts stop rest → l ≡ t ++ rest → take i l ≡ t
token_is l i d h f g t rest c k e =
    (token_split stop (take i l) t (drop i l) rest f c (halts_at stop l i d h g) k (take-append-drop i l ∙ e)).0

-- all bytes, where none ends a text
pub token_all : (l : List ℕ) → Clear stop l → (t rest : List ℕ) → Clear stop t → Halts stop rest → l ≡ t ++ rest → l ≡ t
token_all l f t rest c k e = (token_split stop l t [] rest f c tt k (append-nil l ∙ e)).0

-- ---- hex

-- one more digit
pub one_more : (n k : ℕ) → n / 2 ^ (4 * (k + 1)) * 16 + n / 2 ^ (4 * k) % 16 ≡ n / 2 ^ (4 * k)
one_more n k =
    let p : 4 * (k + 1) ≡ 4 * k + 4 = omega arith in
    let d : n / 2 ^ (4 * (k + 1)) ≡ n / 2 ^ (4 * k) / 16 = ap (λ x. n / 2 ^ x) p ∙ ap (λ x. n / x) (pow-add 2 (4 * k) 4) ∙ sym (div-div-eq-div-mul n (2 ^ (4 * k)) 16) in
    omega (arith, d)

-- there is room for one more digit
pub room : (number c d : ℕ) → number < 2 ^ (4 * c) → d < 16 → number * 16 + d < 2 ^ (4 * (c + 1))
room number c d h k =
    let p : 4 * (c + 1) ≡ 4 * c + 4 = omega arith in
    let e : 2 ^ (4 * (c + 1)) ≡ 2 ^ (4 * c) * 16 = ap (λ x. 2 ^ x) p ∙ pow-add 2 (4 * c) 4 in
    omega (arith, e, h, k)

pub in_word : (number c digits d : ℕ) → number < 2 ^ (4 * c) → c < digits → digits < 17 → d < 16 → number * 16 + d < 2 ^ 64
in_word number c digits d h l m k =
    let a = room number c d h k in
    let b : 4 * (c + 1) ≤ 64 = omega (arith, l, m) in
    let e : 2 ^ (4 * (c + 1)) ≤ 2 ^ 64 = pow_mono b in
    omega (arith, a, e)

pub digit_read : (n number left digit : ℕ) (at after rest : List ℕ) → 0 < left → number ≡ n / 2 ^ (4 * left) → at ≡ hex_digits left n ++ rest → ((d : ℕ) → d < 16 → top at ≡ slice_index upper_digits d → digit ≡ d) → after ≡ drop 1 at →
    (number * 16 + digit ≡ n / 2 ^ (4 * (left - 1))) × (after ≡ hex_digits (left - 1) n ++ rest)
digit_read n number left digit at after rest h e f g k =
    let s : at ≡ slice_index upper_digits (n / 2 ^ (4 * (left - 1)) % 16) ∷ (hex_digits (left - 1) n ++ rest) = f ∙ ap (λ l. l ++ rest) (hex_next left n h) in
    let d : digit ≡ n / 2 ^ (4 * (left - 1)) % 16 = g (n / 2 ^ (4 * (left - 1)) % 16) (omega arith) (ap top s) in
    let p : left ≡ left - 1 + 1 = omega (arith, h) in
    let q : number ≡ n / 2 ^ (4 * (left - 1 + 1)) = e ∙ ap (λ x. n / 2 ^ (4 * x)) p in
    (ap (λ x. x * 16 + digit) q ∙ ap (λ x. n / 2 ^ (4 * (left - 1 + 1)) * 16 + x) d ∙ one_more n (left - 1), k ∙ ap (λ l. drop 1 l) s)

pub less_one : (n digits c number : ℕ) (after rest : List ℕ) → c < digits → (number ≡ n / 2 ^ (4 * (digits - c - 1))) × (after ≡ hex_digits (digits - c - 1) n ++ rest) →
    (number ≡ n / 2 ^ (4 * (digits - (c + 1)))) × (after ≡ hex_digits (digits - (c + 1)) n ++ rest)
less_one n digits c number after rest h (e, f) =
    let p : digits - c - 1 ≡ digits - (c + 1) = omega (arith, h) in
    (e ∙ ap (λ x. n / 2 ^ (4 * x)) p, f ∙ ap (λ x. hex_digits x n ++ rest) p)

-- all digits
pub digits_end : (n digits c number : ℕ) (after rest : List ℕ) → digits ≤ c → (number ≡ n / 2 ^ (4 * (digits - c))) × (after ≡ hex_digits (digits - c) n ++ rest) → (number ≡ n) × (after ≡ rest)
digits_end n digits c number after rest h (e, f) =
    let p : digits - c ≡ 0 = omega (arith, h) in
    let q : n / 2 ^ (4 * (digits - c)) ≡ n / 1 = ap (λ x. n / 2 ^ (4 * x)) p in
    (omega (arith, e, q), f ∙ ap (λ l. l ++ rest) (hex_none (digits - c) n (omega (arith, h))))

-- ---- names

colon_first : (l : List ℕ) → top l == 58 ≡ true → l ≡ 58 ∷ behind l
colon_first [] h = absurd (false≢true h)
colon_first (c ∷ l) h = let e : c ≡ 58 = grind (arith, nat_tests, h) in ap (λ x. x ∷ l) e

-- a name is there with a colon behind it
pub named_there : (name line rest : List ℕ) (c : ℕ) → rest ≡ line → rest ≡ name ++ drop (length name) rest → c ≡ top (drop (length name) rest) → c == 58 ≡ true → (x : List ℕ) × line ≡ name ++ 58 ∷ x
named_there name line rest c r e p h =
    let t : top (drop (length name) rest) == 58 ≡ true = ap (λ y. y == 58) (sym p) ∙ h in
    (behind (drop (length name) rest), sym r ∙ e ∙ ap (λ l. name ++ l) (colon_first (drop (length name) rest) t))
