-- The greatest number with a property.
use Rattle.std.proofs.Common.{◌≡◌, ℕ, zero, suc, ◌-◌, ◌<◌, ◌≤◌, Bool, true, false, cond, Some, None, refl, sym, ap, ◌∙◌, inl, inr, arith}
use Rattle.std.proofs.lemmas.Bool.{cases_lt}
use Rattle.pnp_alloc.specs.Allocation.{greatest}

taken : (p : ℕ → Bool) (k : ℕ) → p (suc k) ≡ true → greatest p (suc k) ≡ Some (suc k)
unfolding greatest
taken p k e = rw e refl

passed : (p : ℕ → Bool) (k : ℕ) → p (suc k) ≡ false → greatest p (suc k) ≡ greatest p k
unfolding greatest
passed p k e = rw e refl

-- numbers without the property can be left out from above
pub greatest_below : (p : ℕ → Bool) (m k : ℕ) → k ≤ m → ((n : ℕ) → k < n → n ≤ m → p n ≡ false) → greatest p m ≡ greatest p k
greatest_below p zero k h none = let e : 0 ≡ k = omega arith in ap (greatest p) e
greatest_below p (suc m) k h none = elim (cases_lt m k) [
  | inl above ↦ let e : suc m ≡ k = omega arith in ap (greatest p) e
  | inr below ↦ passed p m (none (suc m) (omega arith) (omega arith)) ∙ greatest_below p m k below (λ n a b. none n a (omega arith))
]

-- one step down, where the number has the property and where it hasn't
pub greatest_here : (p : ℕ → Bool) (n : ℕ) → 0 < n → p n ≡ true → greatest p n ≡ Some n
greatest_here p zero h e = absurd (omega arith)
greatest_here p (suc k) h e = taken p k e

pub greatest_down : (p : ℕ → Bool) (n : ℕ) → 0 < n → p n ≡ false → greatest p n ≡ greatest p (n - 1)
greatest_down p zero h e = absurd (omega arith)
greatest_down p (suc k) h e = passed p k e ∙ (let f : k ≡ suc k - 1 = omega arith in ap (greatest p) f)

pub greatest_zero : (p : ℕ → Bool) → greatest p 0 ≡ None
unfolding greatest
greatest_zero p = refl

-- what is found has the property, and nothing above it has
pub record IsGreatest (p : ℕ → Bool) (m n : ℕ) : Type 0 where
  pub low : 1 ≤ n
  pub high : n ≤ m
  pub here : p n ≡ true
  pub above : (k : ℕ) → n < k → k ≤ m → p k ≡ false

further : (p : ℕ → Bool) (m n : ℕ) → p (suc m) ≡ false → IsGreatest p m n → IsGreatest p (suc m) n
further p m n t g = record {
  low = g.low;
  high = let h : n ≤ m = g.high in omega arith;
  here = g.here;
  above = λ k a b. elim (cases_lt m k) [
    | inl last ↦ let f : suc m ≡ k = omega arith in ap p (sym f) ∙ t
    | inr before ↦ g.above k a before
  ];
}

some_by : (p : ℕ → Bool) (m n : ℕ) (b : Bool) → p (suc m) ≡ b → greatest p (suc m) ≡ Some n → (greatest p m ≡ Some n → IsGreatest p m n) → IsGreatest p (suc m) n
some_by p m n true t e rest = let f : suc m ≡ n = cc (taken p m t) in record {
  low = omega arith;
  high = omega arith;
  here = ap p (sym f) ∙ t;
  above = λ k a b. absurd (omega arith);
}
some_by p m n false t e rest = further p m n t (rest (sym (passed p m t) ∙ e))

pub greatest_some : (p : ℕ → Bool) (m n : ℕ) → greatest p m ≡ Some n → IsGreatest p m n
unfolding greatest
greatest_some p zero n e = cc
greatest_some p (suc m) n e = some_by p m n (p (suc m)) refl e (greatest_some p m n)

none_by : (p : ℕ → Bool) (m k : ℕ) (b : Bool) → p (suc m) ≡ b → greatest p (suc m) ≡ None → k ≤ suc m → (greatest p m ≡ None → k ≤ m → p k ≡ false) → p k ≡ false
none_by p m k true t e h rest = cc (taken p m t)
none_by p m k false t e h rest = elim (cases_lt m k) [
  | inl last ↦ let f : suc m ≡ k = omega arith in ap p (sym f) ∙ t
  | inr before ↦ rest (sym (passed p m t) ∙ e) before
]

pub greatest_none : (p : ℕ → Bool) (m : ℕ) → greatest p m ≡ None → (k : ℕ) → 1 ≤ k → k ≤ m → p k ≡ false
greatest_none p zero e k a b = absurd (omega arith)
greatest_none p (suc m) e k a b = none_by p m k (p (suc m)) refl e b (λ f h. greatest_none p m f k a h)

pub none_greatest : (p : ℕ → Bool) (m : ℕ) → ((k : ℕ) → 1 ≤ k → k ≤ m → p k ≡ false) → greatest p m ≡ None
none_greatest p m none = greatest_below p m 0 (omega arith) (λ n a b. none n (omega arith) b) ∙ greatest_zero p

-- properties that agree to m have the same greatest number
pub greatest_same : (p q : ℕ → Bool) (m : ℕ) → ((n : ℕ) → n ≤ m → p n ≡ q n) → greatest p m ≡ greatest q m
unfolding greatest
greatest_same p q zero same = refl
greatest_same p q (suc m) same =
    ap (λ b. cond b (Some (suc m)) (greatest p m)) (same (suc m) (omega arith))
    ∙ ap (λ o. cond (q (suc m)) (Some (suc m)) o) (greatest_same p q m (λ n h. same n (omega arith)))
