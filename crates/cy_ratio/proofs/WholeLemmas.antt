-- Whole numbers as fractions.
use Rattle.std.proofs.Common.{◌≡◌, ℕ, suc, ℤ, pos, negsuc, neg_ℤ, ◌+ℤ◌, ◌-ℤ◌, ◌*ℤ◌, unsigned_abs, int_div, FitsSigned, Bool, true, false, [], ◌∷◌, Ok, Err, refl, sym, ap, ◌∙◌, rules}
use Rattle.std.proofs.Math.IntN.{one, *ℤ-one}
use Rattle.std.proofs.Math.Nat.{div-one}
use Rattle.std.proofs.lemmas.Grind.{common_steps}
use Rattle.std.specs.Int.{w128}
use Rattle.cy_ratio.specs.Fraction.{Fraction, fraction_of, sum_of, difference_of, product_of, fits, named, where_fit, within}
use Rattle.cy_ratio.specs.declared.RatioError.{RatioError}
use Rattle.cy_ratio.proofs.PartLemmas.{accepted, refusal, gcd-one}

-- n / 1
abbrev pub whole : ℤ → Fraction
whole n = record { num = n; den = 1 }

times_one : (n : ℤ) → n *ℤ pos 1 ≡ n
unfolding one
times_one n = *ℤ-one n

quotient_one : (n : ℤ) → int_div n (pos 1) ≡ n
quotient_one (pos m) = ap pos (div-one m)
quotient_one (negsuc m) = ap (λ k. neg_ℤ (pos k)) (div-one (suc m))

pub fits_is : (n : ℤ) → FitsSigned w128 n → fits n ≡ true
fits_is (pos m) h = search (rules, common_steps)
fits_is (negsuc m) h = search (rules, common_steps)

within_whole : (n : ℤ) → fraction_of n (pos 1) ≡ within (whole n)
within_whole n = rw (gcd-one (unsigned_abs n), quotient_one n) refl

pub whole_fraction : (n : ℤ) → FitsSigned w128 n → fraction_of n (pos 1) ≡ Ok (whole n)
whole_fraction n h = within_whole n ∙ rw (fits_is n h) refl

-- a whole number that is refused is no fraction
pub whole_refused : (n : ℤ) (why : RatioError) → named n ≡ Err why → fraction_of n (pos 1) ≡ Err why
whole_refused n why h = within_whole n ∙ by_test (fits n) refl
  where
    by_test : (b : Bool) → fits n ≡ b → within (whole n) ≡ Err why
    by_test true e = absurd (let k : accepted n ≡ Err why = rw e at h in cc)
    by_test false e = rw e (let k : refusal {A = ℤ} ≡ Err why = rw e at h in cc)

-- and it is refused once
once : (n : ℤ) → where_fit (n ∷ []) (fraction_of n (pos 1)) ≡ fraction_of n (pos 1)
once n = ap (λ r. where_fit (n ∷ []) r) (within_whole n) ∙ by_test (fits n) refl ∙ sym (within_whole n)
  where
    by_test : (b : Bool) → fits n ≡ b → where_fit (n ∷ []) (within (whole n)) ≡ within (whole n)
    by_test true e = rw e refl
    by_test false e = rw e refl

-- the sum, the difference and the product of whole numbers
module _ (a c : ℤ) (b d : ℕ) (e : b ≡ 1) (f : d ≡ 1) where
  pub whole_sum : FitsSigned w128 a → FitsSigned w128 c → fraction_of (a +ℤ c) (pos 1) ≡ sum_of (record { num = a; den = b }) (record { num = c; den = d })
  whole_sum h k = rw (e, f, gcd-one 1, times_one a, times_one c, fits_is a h, fits_is c k) (sym (once (a +ℤ c)))

  pub whole_difference : FitsSigned w128 a → FitsSigned w128 c → fraction_of (a -ℤ c) (pos 1) ≡ difference_of (record { num = a; den = b }) (record { num = c; den = d })
  whole_difference h k = rw (e, f, gcd-one 1, times_one a, times_one c, fits_is a h, fits_is c k) (sym (once (a -ℤ c)))

  pub whole_product : fraction_of (a *ℤ c) (pos 1) ≡ product_of (record { num = a; den = b }) (record { num = c; den = d })
  whole_product = within_whole (a *ℤ c) ∙ rw (e, f, gcd-one (unsigned_abs a), gcd-one (unsigned_abs c), quotient_one a, quotient_one c) refl
