-- The least number with a property.
use Rattle.std.proofs.Common.{◌≡◌, ℕ, zero, suc, ◌+◌, ◌<◌, Bool, true, false, cond, Option, Some, None, refl, sym, ap, ◌∙◌, inl, inr, arith}
use Rattle.std.proofs.lemmas.Bool.{cases_lt}
use Rattle.time_sync.specs.Times.{least, first_of}

step : (p : ℕ → Bool) (k : ℕ) → least p (suc k) ≡ first_of (least p k) (cond (p k) (Some k) None)
unfolding least
step p k = refl

pub least_zero : (p : ℕ → Bool) → least p 0 ≡ None
unfolding least
least_zero p = refl

none_here : (p : ℕ → Bool) (k : ℕ) → least p k ≡ None → least p (suc k) ≡ cond (p k) (Some k) None
none_here p k e = step p k ∙ ap (λ o. first_of o (cond (p k) (Some k) None)) e

some_before : (p : ℕ → Bool) (k n : ℕ) → least p k ≡ Some n → least p (suc k) ≡ Some n
some_before p k n e = step p k ∙ ap (λ o. first_of o (cond (p k) (Some k) None)) e

-- a number with the property, where no lesser one has it
pub least_found : (p : ℕ → Bool) (n k : ℕ) → n < k → least p n ≡ None → p n ≡ true → least p k ≡ Some n
least_found p n zero h e t = absurd (omega arith)
least_found p n (suc k) h e t = elim (cases_lt n k) [
  | inl below ↦ some_before p k n (least_found p n k below e t)
  | inr last ↦
      let same : n ≡ k = omega arith in
      ap (λ j. least p (suc j)) (sym same) ∙ none_here p n e ∙ ap (λ b. cond b (Some n) None) t
]

pub least_further : (p : ℕ → Bool) (n : ℕ) → least p n ≡ None → p n ≡ false → least p (n + 1) ≡ None
least_further p n e t = let next : n + 1 ≡ suc n = omega arith in ap (least p) next ∙ none_here p n e ∙ ap (λ b. cond b (Some n) None) t

-- properties that agree below k have the same least number
pub least_same : (p q : ℕ → Bool) (k : ℕ) → ((n : ℕ) → n < k → p n ≡ q n) → least p k ≡ least q k
least_same p q zero same = least_zero p ∙ sym (least_zero q)
least_same p q (suc k) same =
    step p k
    ∙ ap (λ b. first_of (least p k) (cond b (Some k) None)) (same k (omega arith))
    ∙ ap (λ o. first_of o (cond (q k) (Some k) None)) (least_same p q k (λ n h. same n (omega arith)))
    ∙ sym (step q k)

-- what is found has the property, and nothing below it has
pub record IsLeast (p : ℕ → Bool) (k n : ℕ) : Type 0 where
  pub below : n < k
  pub here : p n ≡ true
  pub lesser : (t : ℕ) → t < n → p t ≡ false

none_cond : (b : Bool) (k : ℕ) → cond b (Some k) None ≡ None → b ≡ false
none_cond true k e = cc
none_cond false k e = refl

none_first : (o q : Option ℕ) → first_of o q ≡ None → (o ≡ None) × (q ≡ None)
none_first None q e = (refl, e)
none_first (Some n) q e = cc

pub least_none : (p : ℕ → Bool) (k : ℕ) → least p k ≡ None → (t : ℕ) → t < k → p t ≡ false
least_none p zero e t h = absurd (omega arith)
least_none p (suc k) e t h =
    let parts = none_first (least p k) (cond (p k) (Some k) None) (sym (step p k) ∙ e) in
    elim (cases_lt t k) [
      | inl below ↦ least_none p k parts.0 t below
      | inr last ↦ let same : t ≡ k = omega arith in ap p same ∙ none_cond (p k) k parts.1
    ]

pub none_least : (p : ℕ → Bool) (k : ℕ) → ((t : ℕ) → t < k → p t ≡ false) → least p k ≡ None
none_least p zero h = least_zero p
none_least p (suc k) h = none_here p k (none_least p k (λ t b. h t (omega arith))) ∙ ap (λ b. cond b (Some k) None) (h k (omega arith))

some_cond : (b : Bool) (k n : ℕ) → cond b (Some k) None ≡ Some n → (b ≡ true) × (k ≡ n)
some_cond true k n e = let same : k ≡ n = cc in (refl, same)
some_cond false k n e = cc

last_is : (p : ℕ → Bool) (k n : ℕ) → least p k ≡ None → (p k ≡ true) × (k ≡ n) → IsLeast p (suc k) n
last_is p k n e parts = record {
  below = let same : k ≡ n = parts.1 in omega arith;
  here = ap p (sym parts.1) ∙ parts.0;
  lesser = λ t h. least_none p k e t (let same : k ≡ n = parts.1 in omega arith);
}

wider : (p : ℕ → Bool) (k n : ℕ) → IsLeast p k n → IsLeast p (suc k) n
wider p k n l = record { below = let h : n < k = l.below in omega arith; here = l.here; lesser = l.lesser }

by_first : (p : ℕ → Bool) (k n : ℕ) (o : Option ℕ) → least p k ≡ o → first_of o (cond (p k) (Some k) None) ≡ Some n → (least p k ≡ Some n → IsLeast p k n) → IsLeast p (suc k) n
by_first p k n None e f rest = last_is p k n e (some_cond (p k) k n f)
by_first p k n (Some j) e f rest = wider p k n (rest (e ∙ f))

pub least_some : (p : ℕ → Bool) (k n : ℕ) → least p k ≡ Some n → IsLeast p k n
least_some p zero n e = let z = least_zero p in cc
least_some p (suc k) n e = by_first p k n (least p k) refl (sym (step p k) ∙ e) (least_some p k n)
