-- Powers give the fractions' values.
use Rattle.std.proofs.Common.{◌≡◌, ℕ, zero, suc, ◌*◌, ◌^◌, ℤ, pos, negsuc, neg_ℤ, ◌*ℤ◌, Bool, true, false, [], ◌∷◌, Result, Ok, refl, sym, ap, ◌∙◌, subst}
use Rattle.std.specs.Prelude.{nat_lt, if◌then◌else◌}
use Rattle.std.proofs.Math.IntN.{neg_ℤ-neg_ℤ, *ℤ-negsuc}
use Rattle.cy_ratio.specs.Fraction.{Fraction, power, powers, raised, power_of, turned, reciprocal_of, and_then}
use Rattle.cy_ratio.specs.Value.{IsWorth}
use Rattle.cy_ratio.specs.Order.{neg_scale}
use Rattle.cy_ratio.specs.declared.RatioError.{RatioError}
use Rattle.cy_ratio.proofs.PartLemmas.{refusal}
use Rattle.cy_ratio.proofs.ValueLemmas.{passed, after}

allowed : (t : Bool) (answer : Result Fraction RatioError) (r : Fraction) → (if t then answer else refusal) ≡ Ok r → answer ≡ Ok r
allowed true answer r h = h
allowed false answer r h = absurd cc

raised_is : (x r : Fraction) (n : ℕ) → raised x n ≡ Ok r → r ≡ record { num = power x.num n; den = x.den ^ n }
raised_is x r n h =
    let f : Fraction = record { num = power x.num n; den = x.den ^ n } in
    let k : Ok f ≡ Ok r = passed (powers x n) (Ok f) r h in
    cc

pub power_worth : (x r : Fraction) (n : ℕ) → power_of x (pos n) ≡ Ok r → IsWorth r (power x.num n) (pos (x.den ^ n))
power_worth x r n h = subst (λ f. IsWorth f (power x.num n) (pos (x.den ^ n))) (sym (raised_is x r n (allowed (nat_lt n 128) (raised x n) r h))) refl

-- a reciprocal's products across
turned_worth : (c : ℤ) (d : ℕ) (r : Fraction) → turned c d ≡ Ok r → IsWorth r (pos d) c
turned_worth (pos zero) d r h = absurd cc
turned_worth (pos (suc c)) d r h =
    let f : Fraction = record { num = pos d; den = suc c } in
    let is : Ok f ≡ Ok r = passed (pos d ∷ pos (suc c) ∷ []) (Ok f) r h in
    let same : f ≡ r = cc in
    subst (λ z. IsWorth z (pos d) (pos (suc c))) same refl
turned_worth (negsuc c) d r h =
    let f : Fraction = record { num = neg_ℤ (pos d); den = suc c } in
    let is : Ok f ≡ Ok r = passed (neg_ℤ (pos d) ∷ pos (suc c) ∷ []) (Ok f) r h in
    let same : f ≡ r = cc in
    let turn : neg_ℤ (pos d) *ℤ negsuc c ≡ pos d *ℤ pos (suc c) = *ℤ-negsuc (neg_ℤ (pos d)) c ∙ ap neg_ℤ (neg_scale d (suc c)) ∙ neg_ℤ-neg_ℤ (pos (d * suc c)) in
    subst (λ z. IsWorth z (pos d) (negsuc c)) same turn

pub reciprocal_worth : (x r : Fraction) (n : ℕ) → power_of x (negsuc n) ≡ Ok r → IsWorth r (pos (x.den ^ suc n)) (power x.num (suc n))
reciprocal_worth x r n h =
    let (t, is, k) = after (raised x (suc n)) reciprocal_of r (allowed (nat_lt n 127) (and_then (raised x (suc n)) reciprocal_of) r h) in
    let same = raised_is x t (suc n) is in
    turned_worth (power x.num (suc n)) (x.den ^ suc n) r (subst (λ f. reciprocal_of f ≡ Ok r) same k)
