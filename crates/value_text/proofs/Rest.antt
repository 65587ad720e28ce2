-- The texts that are still to be written of several.
use Rattle.std.proofs.Common.{◌≡◌, ◌∙◌, ℕ, zero, suc, ◌<◌, ◌≤◌, ◌-◌, ◌*◌, ◌^◌, ◌/◌, ◌%◌, Bool, true, false, List, [], ◌∷◌, ◌++◌, slice_index, append_assoc, refl, sym, ap, arith}
use Rattle.std.proofs.Math.Nat.{div-eq_of_lt}
use Rattle.std.proofs.Math.Pow.{pow_mono}
use Rattle.std.proofs.lemmas.List.{append-nil}
use Rattle.hex.specs.Hex.{upper_digits}
use Rattle.value_text.specs.Words.{following, separated, lead, hex_digits}

-- of texts, with a comma and a space in front of the first where it isn't the first of all
abbrev pub rest_of : Bool → List (List ℕ) → List ℕ
rest_of true texts = separated texts
rest_of false texts = following texts

pub rest_next : (b : Bool) (t : List ℕ) (ts : List (List ℕ)) → rest_of b (t ∷ ts) ≡ lead b ++ (t ++ following ts)
rest_next true t ts = refl
rest_next false t ts = refl

rest_none : (b : Bool) → rest_of b [] ≡ []
rest_none true = refl
rest_none false = refl

pub regroup : (a b c : List ℕ) → (a ++ b) ++ c ≡ a ++ (b ++ c)
regroup a b c = simp append_assoc

-- one more text
pub written_next : (b : Bool) (old led new t : List ℕ) (ts : List (List ℕ)) → led ≡ old ++ lead b → new ≡ led ++ t →
    new ++ following ts ≡ old ++ rest_of b (t ∷ ts)
written_next b old led new t ts e f =
    ap (λ x. x ++ following ts) (f ∙ ap (λ x. x ++ t) e)
    ∙ regroup (old ++ lead b) t (following ts) ∙ regroup old (lead b) (t ++ following ts)
    ∙ ap (λ x. old ++ x) (sym (rest_next b t ts))

-- all texts
pub written_all : (b : Bool) (old whole : List ℕ) → old ++ rest_of b [] ≡ whole → old ≡ whole
written_all b old whole e = sym (append-nil old) ∙ ap (λ x. old ++ x) (sym (rest_none b)) ∙ e

pub hex_next : (k n : ℕ) → 0 < k → hex_digits k n ≡ slice_index upper_digits (n / 2 ^ (4 * (k - 1)) % 16) ∷ hex_digits (k - 1) n
unfolding hex_digits
hex_next zero n h = absurd (omega (arith, h))
hex_next (suc k) n h =
    let e : k ≡ suc k - 1 = omega arith in
    ap (λ j. slice_index upper_digits (n / 2 ^ (4 * j) % 16) ∷ hex_digits j n) e

pub hex_none : (k n : ℕ) → k ≤ 0 → hex_digits k n ≡ []
unfolding hex_digits
hex_none zero n h = refl
hex_none (suc k) n h = absurd (omega (arith, h))

-- one more digit
pub hex_written : (old new whole : List ℕ) (k n digit : ℕ) → 0 < k → digit ≡ n / 2 ^ (4 * (k - 1)) % 16 → new ≡ old ++ slice_index upper_digits digit ∷ [] →
    old ++ hex_digits k n ≡ whole → new ++ hex_digits (k - 1) n ≡ whole
hex_written old new whole k n digit h d e all =
    ap (λ x. x ++ hex_digits (k - 1) n) e
    ∙ regroup old (slice_index upper_digits digit ∷ []) (hex_digits (k - 1) n)
    ∙ ap (λ x. old ++ slice_index upper_digits x ∷ hex_digits (k - 1) n) d
    ∙ ap (λ x. old ++ x) (sym (hex_next k n h))
    ∙ all

-- all digits
pub hex_whole : (old whole : List ℕ) (k n : ℕ) → k ≤ 0 → old ++ hex_digits k n ≡ whole → old ≡ whole
hex_whole old whole k n h all = sym (append-nil old) ∙ ap (λ x. old ++ x) (sym (hex_none k n h)) ∙ all

-- a number of 64 bits has no hex digit above its lowest 16
pub no_digit : (n k : ℕ) → n < 2 ^ 64 → 16 ≤ k → 0 ≡ n / 2 ^ (4 * k) % 16
no_digit n k h l =
    let m : 64 ≤ 4 * k = omega (arith, l) in
    let p : 2 ^ 64 ≤ 2 ^ (4 * k) = pow_mono m in
    let z : n / 2 ^ (4 * k) ≡ 0 = div-eq_of_lt (omega (arith, h, p)) in
    sym (ap (λ q. q % 16) z)
