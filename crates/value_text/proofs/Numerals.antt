-- The digits of numbers.
use Rattle.std.proofs.Common.{◌≡◌, ℕ, zero, suc, ◌+◌, ◌*◌, ◌^◌, ◌/◌, ◌%◌, ◌<◌, ◌≤◌, ℤ, pos, negsuc, false, List, [], ◌∷◌, ◌++◌, slice_index, ◌⊎◌, inl, inr, refl, sym, ap, ◌∙◌, subst, arith, rules}
use Rattle.std.specs.Fmt.{decimal, signed_decimal}
use Rattle.std.proofs.lemmas.Fmt.{decimal_by_steps, decimal_injective}
use Rattle.std.proofs.Math.Nat.{mod-eq_of_lt}
use Rattle.std.proofs.lemmas.Nat.{mod-pow-add}
use Rattle.std.proofs.lemmas.Bool.{cases_lt}
use Rattle.hex.specs.Hex.{upper_digits}
use Rattle.dsdl_types.specs.Fits.{IsNumber}
use Rattle.value_text.specs.Words.{hex_digits}
use Rattle.value_text.proofs.Tokens.{top, behind, Clear, Begins, clear_append, begins_append, stop, not_stop}

-- ---- decimal

-- a digit first, and no byte that ends a value
record IsNumeral (ds : List ℕ) : Type 0 where
  pub first : 48 ≤ top ds
  pub begins : Begins stop ds
  pub clear : Clear stop ds

one_digit : (n : ℕ) → n < 10 → IsNumeral ((48 + n) ∷ [])
one_digit n h = record { first = omega arith; begins = not_stop (48 + n) (omega arith) (omega (arith, h)); clear = (not_stop (48 + n) (omega arith) (omega (arith, h)), tt) }

top_append : (a b : List ℕ) → 48 ≤ top a → 48 ≤ top (a ++ b)
top_append [] b h = absurd (omega (arith, h))
top_append (c ∷ a) b h = h

more_digits : (n : ℕ) (ds : List ℕ) → 10 ≤ n → IsNumeral ds → IsNumeral (ds ++ ((48 + n % 10) ∷ []))
more_digits n ds h k =
    let d = one_digit (n % 10) (omega arith) in
    record { first = top_append ds _ k.first; begins = begins_append stop ds _ k.begins; clear = clear_append stop ds _ k.clear d.clear }

numeral : (n : ℕ) → n < 2 ^ 64 → IsNumeral (decimal n)
numeral n h = decimal_by_steps (λ m ds. IsNumeral ds) one_digit more_digits n h

pub below : (n : ℕ) → n < 2 ^ 63 → suc n < 2 ^ 64
below n h = omega (arith, h)

pub signed_begins : (z : ℤ) → IsNumber z → Begins stop (signed_decimal z)
signed_begins (pos n) h = (numeral n h).begins
signed_begins (negsuc n) h = refl

pub signed_clear : (z : ℤ) → IsNumber z → Clear stop (signed_decimal z)
signed_clear (pos n) h = (numeral n h).clear
signed_clear (negsuc n) h = (refl, (numeral (suc n) (below n h)).clear)

pub no_sign_first : (n : ℕ) → n < 2 ^ 64 → top (decimal n) ≡ 45 → ⊥
no_sign_first n h m = let l = (numeral n h).first in omega (arith, l, m)

no_sign : (n : ℕ) (ds : List ℕ) → n < 2 ^ 64 → decimal n ≡ 45 ∷ ds → ⊥
no_sign n ds h e = let l = (numeral n h).first in let m : top (decimal n) ≡ 45 = ap top e in omega (arith, l, m)

pub one_number : (y z : ℤ) → IsNumber y → IsNumber z → signed_decimal y ≡ signed_decimal z → y ≡ z
one_number (pos n) (pos m) f g e = ap pos (decimal_injective n m f g e)
one_number (pos n) (negsuc m) f g e = absurd (no_sign n (decimal (suc m)) f e)
one_number (negsuc n) (pos m) f g e = absurd (no_sign m (decimal (suc n)) g (sym e))
one_number (negsuc n) (negsuc m) f g e =
    let s : suc n ≡ suc m = decimal_injective (suc n) (suc m) (below n f) (below m g) (ap behind e) in
    let t : n ≡ m = omega (arith, s) in
    ap negsuc t

-- ---- hex

low_digit : (d : ℕ) → d < 10 → slice_index upper_digits d ≡ 48 + d
low_digit d h = search rules

high_digit : (d : ℕ) → 10 ≤ d → d < 16 → slice_index upper_digits d ≡ 55 + d
high_digit d l h = search rules

digit_clear : (d : ℕ) → d < 16 → (d < 10) ⊎ (10 ≤ d) → stop (slice_index upper_digits d) ≡ false
digit_clear d h (inl l) = subst (λ c. stop c ≡ false) (sym (low_digit d l)) (not_stop (48 + d) (omega arith) (omega (arith, l)))
digit_clear d h (inr l) = subst (λ c. stop c ≡ false) (sym (high_digit d l h)) (not_stop (55 + d) (omega arith) (omega (arith, h)))

same_digit : (c d : ℕ) → c < 16 → d < 16 → (c < 10) ⊎ (10 ≤ c) → (d < 10) ⊎ (10 ≤ d) → slice_index upper_digits c ≡ slice_index upper_digits d → c ≡ d
same_digit c d f g (inl l) (inl m) e = let a = low_digit c l in let b = low_digit d m in omega (arith, a, b, e)
same_digit c d f g (inl l) (inr m) e = let a = low_digit c l in let b = high_digit d m g in absurd (omega (arith, a, b, e, l))
same_digit c d f g (inr l) (inl m) e = let a = high_digit c l f in let b = low_digit d m in absurd (omega (arith, a, b, e, m))
same_digit c d f g (inr l) (inr m) e = let a = high_digit c l f in let b = high_digit d m g in omega (arith, a, b, e)

pub hex_digits_clear : (k n : ℕ) → Clear stop (hex_digits k n)
unfolding hex_digits
hex_digits_clear zero n = tt
hex_digits_clear (suc k) n = (digit_clear (n / 2 ^ (4 * k) % 16) (omega arith) (cases_lt (n / 2 ^ (4 * k) % 16) 10), hex_digits_clear k n)

low_same : (k n m : ℕ) → hex_digits k n ≡ hex_digits k m → n % 2 ^ (4 * k) ≡ m % 2 ^ (4 * k)
unfolding hex_digits
low_same zero n m e = omega arith
low_same (suc k) n m e =
    let f : n / 2 ^ (4 * k) % 16 ≡ m / 2 ^ (4 * k) % 16 = same_digit (n / 2 ^ (4 * k) % 16) (m / 2 ^ (4 * k) % 16) (omega arith) (omega arith) (cases_lt (n / 2 ^ (4 * k) % 16) 10) (cases_lt (m / 2 ^ (4 * k) % 16) 10) (ap top e) in
    let l : n % 2 ^ (4 * k) ≡ m % 2 ^ (4 * k) = low_same k n m (ap behind e) in
    let p : 4 * suc k ≡ 4 + 4 * k = omega arith in
    ap (λ x. n % 2 ^ x) p ∙ mod-pow-add n 4 (4 * k)
    ∙ ap (λ x. x * 2 ^ (4 * k) + n % 2 ^ (4 * k)) f ∙ ap (λ x. m / 2 ^ (4 * k) % 16 * 2 ^ (4 * k) + x) l
    ∙ sym (mod-pow-add m 4 (4 * k)) ∙ ap (λ x. m % 2 ^ x) (sym p)

pub one_raw : (k n m : ℕ) → n < 2 ^ (4 * k) → m < 2 ^ (4 * k) → hex_digits k n ≡ hex_digits k m → n ≡ m
one_raw k n m f g e = sym (mod-eq_of_lt f) ∙ low_same k n m e ∙ mod-eq_of_lt g
