-- Lemmas on MICROS, read sixteen bytes at a time.
use Rattle.std.proofs.Common.{◌≡◌, ◌∙◌, ◌<◌, ◌≤◌, ℕ, ◌+◌, ◌-◌, ◌*◌, ◌%◌, ◌^◌, Bool, true, false, not, cond, ltb, List, [], ◌∷◌, Some, None, refl, sym, ap, ap₂, map, length, take, drop, get_or, replicate, arith, Fits, w8}
use Rattle.std.specs.Prelude.{nat_lt, ◌||◌, ⊤}
use Rattle.std.specs.List.{prefix_len}
use Rattle.std.specs.Simd.Lanes.{zip2, top, mask_l, Each1}
use Rattle.std.proofs.lemmas.Simd.{length-zip2, tops_compared, mask_l-mod, leading_from_mask_l}
use Rattle.std.proofs.lemmas.List.{map-id}
use Rattle.std.proofs.lemmas.Bool.{ltb-false}
use Rattle.std.proofs.lemmas.Bool.Decides.{nat_tests}
use Rattle.frame_log.specs.Line.{decimal_from, micros_of}
use Rattle.frame_log.specs.Lanes.{IsDecimal, IsMicros, numbers_of_pairs}
use Rattle.frame_log.proofs.LineLemmas.{no}
use Rattle.frame_log.proofs.ReadsLemmas.{micros-again}

-- what is taken off the lanes, and the most that may be left
abbrev pub least : List ℕ
least = 48 ∷ 48 ∷ 48 ∷ 48 ∷ 48 ∷ 48 ∷ 41 ∷ 32 ∷ 0 ∷ 0 ∷ 0 ∷ 0 ∷ 0 ∷ 0 ∷ 0 ∷ 0 ∷ []

abbrev pub most : List ℕ
most = 9 ∷ 9 ∷ 9 ∷ 9 ∷ 9 ∷ 9 ∷ 0 ∷ 0 ∷ 255 ∷ 255 ∷ 255 ∷ 255 ∷ 255 ∷ 255 ∷ 255 ∷ 255 ∷ []

abbrev pub left : List ℕ → List ℕ
left c = zip2 (λ a b. (a + (2 ^ 8 - b)) % 2 ^ 8) c least

abbrev pub others : List ℕ → List Bool
others c = zip2 ltb most (left c)

-- all tests fail
abbrev pub Fail : List Bool → Type 0
Fail [] = ⊤
Fail (x ∷ xs) = (x ≡ false) × Fail xs

all-fail : (xs : List Bool) → length xs ≡ prefix_len (λ (b : Bool). not b) xs → Fail xs
all-fail [] e = tt
all-fail (true ∷ xs) e = absurd (omega (arith, e))
all-fail (false ∷ xs) e = (refl, all-fail xs (omega (arith, e)))

-- no lane lies below what is taken off, or above what may be left
abbrev pub Within : List ℕ → List ℕ → List ℕ → Type 0
Within (x ∷ xs) (k ∷ ks) (n ∷ ns) = ((k ≤ x) × (x ≤ k + n)) × Within xs ks ns
Within _ _ _ = ⊤

abbrev pub Narrow : List ℕ → List ℕ → Type 0
Narrow (k ∷ ks) (n ∷ ns) = (k + n < 256) × Narrow ks ns
Narrow _ _ = ⊤

-- a byte of which this much is left
taken : (x k n : ℕ) → x < 256 → k + n < 256 → ltb n ((x + (2 ^ 8 - k)) % 2 ^ 8) ≡ false → (k ≤ x) × (x ≤ k + n)
taken x k n f w e =
    let h : (x + (2 ^ 8 - k)) % 2 ^ 8 ≤ n = ltb-false n _ e in
    (omega (arith, h, f, w), omega (arith, h, f, w))

all-within : (c ks ns : List ℕ) → Each1 (Fits w8) c → Narrow ks ns → Fail (zip2 ltb ns (zip2 (λ a b. (a + (2 ^ 8 - b)) % 2 ^ 8) c ks)) → Within c ks ns
all-within [] ks ns e w f = tt
all-within (x ∷ c) [] ns e w f = tt
all-within (x ∷ c) (k ∷ ks) [] e w f = tt
all-within (x ∷ c) (k ∷ ks) (n ∷ ns) e w f = (taken x k n (omega (arith, e.0.fits)) w.0 f.0, all-within c ks ns e.1 w.1 f.1)

head : {A B : Type 0} → A × B → A
head p = p.0

tail : {A B : Type 0} → A × B → B
tail p = p.1

is : (x k : ℕ) → (k ≤ x) × (x ≤ k + 0) → x ≡ k
is x k h = omega (arith, h.0, h.1)

is_micros-from : (c : List ℕ) → length c ≡ 16 → Within c least most → IsMicros c
is_micros-from (x0 ∷ x1 ∷ x2 ∷ x3 ∷ x4 ∷ x5 ∷ x6 ∷ x7 ∷ s) l w0 =
    let w1 = tail w0 in
    let w2 = tail w1 in
    let w3 = tail w2 in
    let w4 = tail w3 in
    let w5 = tail w4 in
    let w6 = tail w5 in
    let w7 = tail w6 in
    (head w0, head w1, head w2, head w3, head w4, head w5, is x6 41 (head w6), is x7 32 (head w7))
is_micros-from _ l w = absurd (omega (arith, l))

narrow : Narrow least most
narrow = (omega arith, (omega arith, (omega arith, (omega arith, (omega arith, (omega arith, (omega arith, (omega arith, (omega arith, (omega arith, (omega arith, (omega arith, (omega arith, (omega arith, (omega arith, (omega arith, tt))))))))))))))))

pub is_micros-is : (c : List ℕ) → length c ≡ 16 → Each1 (Fits w8) c
    → mask_l (map (top 7) (zip2 (λ a b. cond (ltb a b) 255 0) most (left c))) % 2 ^ 64 ≡ 0 → IsMicros c
is_micros-is c l e m =
    let d : length (left c) ≡ 16 = length-zip2 (λ a b. (a + (2 ^ 8 - b)) % 2 ^ 8) c least l ∙ l in
    let n : length (others c) ≡ 16 = length-zip2 ltb most (left c) (sym d) in
    let mask : mask_l (map (top 7) (zip2 (λ a b. cond (ltb a b) 255 0) most (left c))) % 2 ^ 64 ≡ mask_l (map (λ (t : Bool). t) (others c)) =
    ap (λ (ms : List Bool). mask_l ms % 2 ^ 64) (tops_compared w8 ltb most (left c)) ∙ mask_l-mod (others c) 64 (omega (arith, n)) ∙ ap mask_l (sym (map-id (others c))) in
    let fail = all-fail (others c) (sym (leading_from_mask_l (λ (t : Bool). t) (others c) (sym mask ∙ m))) in
    is_micros-from c l (all-within c least most e narrow fail)

-- a digit more
digit-more : (n b : ℕ) (s : List ℕ) → IsDecimal b → decimal_from n (b ∷ s) ≡ decimal_from (n * 10 + (b - 48)) s
digit-more n b s h = sym (no (nat_lt b 48 || nat_lt 57 b) None (decimal_from (n * 10 + (b - 48)) s) (within b h.0 h.1))
  where
    within : (b : ℕ) → 48 ≤ b → b ≤ 57 → (nat_lt b 48 || nat_lt 57 b) ≡ false
    within b l m = grind (arith, nat_tests)

-- the number of a pair of digits
pair-is : (a b : ℕ) → IsDecimal a → IsDecimal b → ((a + (2 ^ 8 - 48)) % 2 ^ 8 * 10 % 256 + (b + (2 ^ 8 - 48)) % 2 ^ 8) % 256 ≡ (a - 48) * 10 + (b - 48)
pair-is a b h k =
    let x : (a + (2 ^ 8 - 48)) % 2 ^ 8 ≡ a - 48 = omega (arith, h.0, h.1) in
    let y : (b + (2 ^ 8 - 48)) % 2 ^ 8 ≡ b - 48 = omega (arith, k.0, k.1) in
    rw (x, y) (omega (arith, h.0, h.1, k.0, k.1))

-- the values of sixteen lanes as digits
abbrev pub digit_values : List ℕ → List ℕ
digit_values c = zip2 (λ a b. (a + (2 ^ 8 - b)) % 2 ^ 8) c (replicate 16 48)

abbrev pub micros_from : List ℕ → ℕ
micros_from p = get_or p 0 0 * 10_000 + get_or p 1 0 * 100 + get_or p 2 0

-- six digits' number, by pairs
six-digits : (a b c d e f : ℕ) → IsDecimal a → IsDecimal b → IsDecimal c → IsDecimal d → IsDecimal e → IsDecimal f
    → decimal_from 0 (a ∷ b ∷ c ∷ d ∷ e ∷ f ∷ []) ≡ Some (((a - 48) * 10 + (b - 48)) * 10_000 + ((c - 48) * 10 + (d - 48)) * 100 + ((e - 48) * 10 + (f - 48)))
six-digits a b c d e f ha hb hc hd he hf =
    digit-more 0 a (b ∷ c ∷ d ∷ e ∷ f ∷ []) ha
    ∙ digit-more _ b (c ∷ d ∷ e ∷ f ∷ []) hb
    ∙ digit-more _ c (d ∷ e ∷ f ∷ []) hc
    ∙ digit-more _ d (e ∷ f ∷ []) hd
    ∙ digit-more _ e (f ∷ []) he
    ∙ digit-more _ f [] hf
    ∙ ap Some (omega arith)

by-pairs : (x y z u v w : ℕ) → x ≡ u → y ≡ v → z ≡ w → x * 10_000 + y * 100 + z ≡ u * 10_000 + v * 100 + w
by-pairs x y z u v w e f g = rw (e, f, g) refl

pub micros-seen : (s : List ℕ) → 16 ≤ length s → IsMicros (take 16 s) → micros_of s ≡ Some (micros_from (numbers_of_pairs (digit_values (take 16 s))), drop 8 s)
micros-seen (a ∷ b ∷ c ∷ d ∷ e ∷ f ∷ g ∷ h ∷ t) l m =
    let p0 = pair-is a b m.0 m.1 in
    let p1 = pair-is c d m.2 m.3 in
    let p2 = pair-is e f m.4 m.5 in
    let n = six-digits a b c d e f m.0 m.1 m.2 m.3 m.4 m.5 in
    ap₂ (λ g h. micros_of (a ∷ b ∷ c ∷ d ∷ e ∷ f ∷ g ∷ h ∷ t)) m.6 m.7
    ∙ micros-again (a ∷ b ∷ c ∷ d ∷ e ∷ f ∷ []) t _ refl (n ∙ ap Some (by-pairs _ _ _ _ _ _ (sym p0) (sym p1) (sym p2)))
micros-seen _ l m = absurd (omega (arith, l))
