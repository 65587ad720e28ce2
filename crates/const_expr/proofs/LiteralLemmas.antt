-- The values of digits.
use Rattle.std.proofs.Common.{◌≡◌, ◌≢◌, ℕ, zero, suc, ◌+◌, ◌*◌, ◌^◌, ◌<◌, ◌≤◌, ◌==◌, Bool, true, false, List, [], ◌∷◌, ◌++◌, length, drop, get_or, refl, sym, ap, ◌∙◌, ℤ, pos, negsuc, ◌-ℤ◌, unsigned_abs, nat_lt, Err, add-one, eq-eqb, eqb-true, arith}
use Rattle.std.proofs.Math.Nat.{pow-le-pow_right, pow-suc}
use Rattle.std.proofs.Math.Seq.{drop-cons}
use Rattle.std.specs.Char.{digit_value}
use Rattle.std.specs.Str.Parse.{digits_value, digits_value_after}
use Rattle.std.proofs.lemmas.Int.{ints}
use Rattle.const_expr.specs.declared.why.Why.TheVariants as why
use Rattle.const_expr.specs.Literal.{digits, scaled, scaled_within}
use borrow.Author.Tests.{lt-ltb, ltb-true}

grows : (base n d : ℕ) → 1 ≤ base → n ≤ n * base + d
grows zero n d h = absurd (omega arith)
grows (suc base) n d h = grind arith

-- digits behind a number make it no smaller
pub at_least : (base n : ℕ) (ds : List ℕ) → 1 ≤ base → n ≤ digits_value_after base n ds
at_least base n [] h = omega arith
at_least base n (d ∷ ds) h =
    let first : n ≤ n * base + digit_value d = grows base n (digit_value d) h in
    let rest : n * base + digit_value d ≤ digits_value_after base (n * base + digit_value d) ds = at_least base (n * base + digit_value d) ds h in
    omega arith

pub behind_others : (base n : ℕ) (ds es : List ℕ) → digits_value_after base n (ds ++ es) ≡ digits_value_after base (digits_value_after base n ds) es
behind_others base n [] es = refl
behind_others base n (d ∷ ds) es = behind_others base (n * base + digit_value d) ds es

-- the number that one more byte of a text makes
module _ (base n : ℕ) (text : List ℕ) (i : ℕ) (b whole : ℕ) (lt : i < length text) (is : b ≡ get_or text i 0)
    (so_far : digits_value_after base n (digits (drop i text)) ≡ whole) where
  front : drop i text ≡ b ∷ drop (i + 1) text
  front = drop-cons text i 0 lt ∙ ap (λ y. y ∷ drop (suc i) text) (sym is) ∙ ap (λ k. b ∷ drop k text) (sym (add-one i))

  skipped : (t : Bool) → (b == 95) ≡ t → t ≡ true → digits (b ∷ drop (i + 1) text) ≡ digits (drop (i + 1) text)
  skipped true e f = rw e refl
  skipped false e f = absurd (cc)

  taken : (t : Bool) → (b == 95) ≡ t → t ≡ false → digits (b ∷ drop (i + 1) text) ≡ b ∷ digits (drop (i + 1) text)
  taken false e f = rw e refl
  taken true e f = absurd (cc)

  pub past_underscore : b ≡ 95 → digits_value_after base n (digits (drop (i + 1) text)) ≡ whole
  past_underscore e = ap (digits_value_after base n) (sym (ap digits front ∙ skipped (b == 95) refl (eq-eqb b 95 e))) ∙ so_far

  pub past_digit : b ≢ 95 → digits_value_after base (n * base + digit_value b) (digits (drop (i + 1) text)) ≡ whole
  past_digit ne = ap (digits_value_after base n) (sym (ap digits front ∙ taken (b == 95) refl (unlike (b == 95) refl))) ∙ so_far
    where
      unlike : (t : Bool) → (b == 95) ≡ t → t ≡ false
      unlike true e = absurd (ne (eqb-true b 95 e))
      unlike false e = refl

  pub too_great : 1 ≤ base → b ≢ 95 → (m : ℕ) → (n * base + digit_value b < m → ⊥) → whole < m → ⊥
  too_great h ne m far small =
      let least : n * base + digit_value b ≤ digits_value_after base (n * base + digit_value b) (digits (drop (i + 1) text)) =
      at_least base (n * base + digit_value b) (digits (drop (i + 1) text)) h in
      let same = past_digit ne in
      far (omega arith)

pub front_too_great : (ds es : List ℕ) (m : ℕ) → (digits_value 10 ds < m → ⊥) → digits_value 10 (ds ++ es) < m → ⊥
front_too_great ds es m far small =
    let whole = behind_others 10 0 ds es in
    let least = at_least 10 (digits_value 10 ds) es (omega arith) in
    far (omega arith)

-- a number or an exponent that is far outside the range
pub large_scaled : (m : ℕ) (x : ℤ) → (m < 2 ^ 128 → ⊥) → scaled_within m x ≡ Err why.Range
large_scaled m x far = by_test (nat_lt m (2 ^ 127)) refl
  where
    by_test : (t : Bool) → nat_lt m (2 ^ 127) ≡ t → scaled_within m x ≡ Err why.Range
    by_test true e = let small : m < 2 ^ 127 = ltb-true m (2 ^ 127) e in absurd (far (omega arith))
    by_test false e = rw e refl

out_of_range : (m : ℕ) (x : ℤ) → 38 < unsigned_abs x → scaled_within m x ≡ Err why.Range
out_of_range m x far = by_test (nat_lt m (2 ^ 127)) refl
  where
    inside : (x : ℤ) → 38 < unsigned_abs x → scaled m x ≡ Err why.Range
    inside (pos x) h = rw (lt-ltb 38 x h) refl
    inside (negsuc x) h = rw (lt-ltb 37 x (omega arith)) refl

    by_test : (t : Bool) → nat_lt m (2 ^ 127) ≡ t → scaled_within m x ≡ Err why.Range
    by_test true e = rw e (inside x far)
    by_test false e = rw e refl

far_less : (e : ℤ) (d : ℕ) → 2 ^ 100 ≤ unsigned_abs e → d < 2 ^ 64 → 38 < unsigned_abs (e -ℤ pos d)
far_less e d far small = omega (arith, ints)

pub far_scaled : (m : ℕ) (e : ℤ) (d : ℕ) → 2 ^ 100 ≤ unsigned_abs e → d < 2 ^ 64 → scaled_within m (e -ℤ pos d) ≡ Err why.Range
far_scaled m e d far small = out_of_range m (e -ℤ pos d) (far_less e d far small)

-- powers of ten within the range
pub power_small : (n k : ℕ) → n ≡ 10 ^ k → k ≤ 38 → n < 2 ^ 127
power_small n k e le =
    let least : 10 ^ k ≤ 10 ^ 38 = pow-le-pow_right {n = 10} (omega arith) {i = k} {j = 38} le in
    let most : 10 ^ 38 < 2 ^ 127 = omega arith in
    omega arith

pub next_small : (n k : ℕ) → n ≡ 10 ^ k → k < 38 → n * 10 < 2 ^ 127
next_small n k e lt = power_small (n * 10) (suc k) (ap (λ m. m * 10) e ∙ sym (pow-suc 10 k)) (omega arith)
