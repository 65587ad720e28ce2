-- Eight bytes as a number.
use Rattle.std.proofs.Common.{◌≡◌, ◌∙◌, ℕ, zero, suc, ◌+◌, ◌-◌, ◌*◌, ◌/◌, ◌%◌, ◌^◌, ◌<◌, ◌≤◌, Bool, List, [], ◌∷◌, length, take, drop, get_or, refl, sym, ap, arith}
use Rattle.std.proofs.lemmas.List.{drop-drop}
use Rattle.std.proofs.lemmas.Nat.{shr_high, mod_low, pow-add}
use Rattle.std.specs.Int.{from_le_bytes, w64}
use Rattle.cy_bits.specs.Bits.{bits, number}
use Rattle.cy_bits.proofs.BitFacts.{take_bits, drop_bits}
use Rattle.cy_bits.proofs.BitPlaces.{number_take_more, number_below, number_none}
use Rattle.wire_values.proofs.Windows.{bits_drop, window_bits}
use Rattle.wire_values.specs.Reads.{behind}
use Rattle.dsdl_types.proofs.Padding.{bits_take}
use Rattle.std.proofs.Common.{min, subst}
use Rattle.std.proofs.lemmas.List.{length-take-le, drop-take, take-take}
use Rattle.value_put.specs.Told.{AreBytes}

-- so many bytes as a number, the lowest first
le : ℕ → List ℕ → ℕ
le zero xs = 0
le (suc k) [] = 0
le (suc k) (x ∷ xs) = x + 256 * le k xs

number_bytes : (k : ℕ) (xs : List ℕ) → AreBytes xs → k ≤ length xs → number (take (8 * k) (bits xs)) ≡ le k xs
unfolding le
number_bytes zero xs h few = sym (number_none (bits xs))
number_bytes (suc k) [] h few = absurd (omega (arith, few))
number_bytes (suc k) (x ∷ xs) h few =
    let size : 8 * suc k ≡ 8 + 8 * k = omega arith in
    let first = take_bits 8 x (bits xs) h.0 in
    let more : number (take (8 * k) (drop 8 (bits (x ∷ xs)))) ≡ le k xs = ap (λ l. number (take (8 * k) l)) (drop_bits 8 x (bits xs)) ∙ number_bytes k xs h.1 (omega (arith, few)) in
    ap (λ n. number (take n (bits (x ∷ xs)))) size
    ∙ number_take_more 8 (8 * k) (bits (x ∷ xs))
    ∙ (let all : number (take 8 (bits (x ∷ xs))) + number (take (8 * k) (drop 8 (bits (x ∷ xs)))) * 2 ^ 8 ≡ x + 256 * le k xs = omega (arith, first, more) in all)

le_eight : (a b c d e f g h : ℕ) (rest : List ℕ) → le 8 (a ∷ b ∷ c ∷ d ∷ e ∷ f ∷ g ∷ h ∷ rest) ≡ a + 256 * (b + 256 * (c + 256 * (d + 256 * (e + 256 * (f + 256 * (g + 256 * h))))))
unfolding le
le_eight a b c d e f g h rest = omega arith

pub eight_bytes : (xs : List ℕ) → AreBytes xs → 8 ≤ length xs →
    from_le_bytes w64 (get_or xs 0 0 ∷ get_or xs 1 0 ∷ get_or xs 2 0 ∷ get_or xs 3 0 ∷ get_or xs 4 0 ∷ get_or xs 5 0 ∷ get_or xs 6 0 ∷ get_or xs 7 0 ∷ []) ≡ number (take 64 (bits xs))
eight_bytes (a ∷ b ∷ c ∷ d ∷ e ∷ f ∷ g ∷ h ∷ rest) small few =
    let xs = a ∷ b ∷ c ∷ d ∷ e ∷ f ∷ g ∷ h ∷ rest in
    let sum : from_le_bytes w64 (a ∷ b ∷ c ∷ d ∷ e ∷ f ∷ g ∷ h ∷ []) ≡ a + 256 * (b + 256 * (c + 256 * (d + 256 * (e + 256 * (f + 256 * (g + 256 * h)))))) = omega arith in
    sum ∙ sym (le_eight a b c d e f g h rest) ∙ sym (number_bytes 8 xs small few)
eight_bytes [] small few = absurd (omega (arith, few))
eight_bytes (a ∷ []) small few = absurd (omega (arith, few))
eight_bytes (a ∷ b ∷ []) small few = absurd (omega (arith, few))
eight_bytes (a ∷ b ∷ c ∷ []) small few = absurd (omega (arith, few))
eight_bytes (a ∷ b ∷ c ∷ d ∷ []) small few = absurd (omega (arith, few))
eight_bytes (a ∷ b ∷ c ∷ d ∷ e ∷ []) small few = absurd (omega (arith, few))
eight_bytes (a ∷ b ∷ c ∷ d ∷ e ∷ f ∷ []) small few = absurd (omega (arith, few))
eight_bytes (a ∷ b ∷ c ∷ d ∷ e ∷ f ∷ g ∷ []) small few = absurd (omega (arith, few))

-- some bits in the middle of 64
pub middle : (l : List Bool) (n s w : ℕ) → n ≡ number (take 64 l) → s + w ≤ 64 → n / 2 ^ s % 2 ^ w ≡ number (take w (drop s l))
middle l n s w e fits =
    let a = number (take s l) in
    let b = number (take w (drop s l)) in
    let r = 64 - (s + w) in
    let high = number (take r (drop (s + w) l)) in
    let size : 64 ≡ (s + w) + r = omega (arith, fits) in
    let low : number (take (s + w) l) ≡ a + b * 2 ^ s = number_take_more s w l in
    let all : n ≡ number (take (s + w) l) + high * 2 ^ (s + w) = e ∙ ap (λ m. number (take m l)) size ∙ number_take_more (s + w) r l in
    let pow : 2 ^ (s + w) ≡ 2 ^ s * 2 ^ w = pow-add 2 s w in
    let high_is : high * 2 ^ (s + w) ≡ high * 2 ^ w * 2 ^ s = grind (arith, pow) in
    let whole : n ≡ (high * 2 ^ w + b) * 2 ^ s + a = grind (arith, all, low, high_is) in
    ap (λ m. m / 2 ^ s % 2 ^ w) whole
    ∙ ap (λ m. m % 2 ^ w) (shr_high (high * 2 ^ w + b) s a (number_below s l))
    ∙ mod_low high w b (number_below w (drop s l))

-- bits from a place on, by whole bytes
pub behind_bytes : (b : List ℕ) (p : ℕ) → drop (p % 8) (bits (drop (p / 8) b)) ≡ drop p (bits b)
behind_bytes b p =
    let e : 8 * (p / 8) + p % 8 ≡ p = omega arith in
    ap (λ l. drop (p % 8) l) (bits_drop (p / 8) b) ∙ drop-drop (p % 8) (8 * (p / 8)) (bits b) ∙ ap (λ m. drop m (bits b)) e

take_within : {A : Type 0} (n p w : ℕ) (l : List A) → p + w ≤ n → take w (drop p (take n l)) ≡ take w (drop p l)
take_within n p w l h =
    let e : n ≡ p + (n - p) = omega (arith, h) in
    ap (λ m. take w (drop p (take m l))) e ∙ ap (λ x. take w x) (drop-take p (n - p) l) ∙ take-take w (n - p) (drop p l) (omega (arith, h))

-- bits that lie within the bytes that count
pub counted_bits : (b : List ℕ) (size p w n : ℕ) → p + w ≤ 8 * size → n ≡ number (take w (drop p (bits b))) → n ≡ number (take w (drop p (bits (take size b))))
counted_bits b size p w n h e = e ∙ ap (λ l. number l) (sym (take_within (8 * size) p w (bits b) h)) ∙ ap (λ l. number (take w (drop p l))) (sym (bits_take size b))

pub number_small : (l : List Bool) (w n : ℕ) → n ≡ number (take w l) → n < 2 ^ w
number_small l w n e = subst (λ m. m < 2 ^ w) (sym e) (number_below w l)

-- a window of the bytes that count
pub window_of : (b : List ℕ) (size p n at : ℕ) → p % 8 ≡ 0 → size ≤ length b → at ≡ min (p / 8) size → n ≤ size - at →
    (8 * n ≤ length (behind (take size b) p)) × (bits (take n (drop at b)) ≡ take (8 * n) (behind (take size b) p))
window_of b size p n at whole few e room =
    let len : length (take size b) ≡ size = length-take-le size b few in
    let w = window_bits (take size b) p n at whole (e ∙ ap (λ m. min (p / 8) m) (sym len)) n refl (omega (arith, len, room)) in
    (w.0, ap (λ l. bits l) (sym (take_within size at n b (omega (arith, room, e)))) ∙ w.1)
