-- Whether the members of a run are of a set, and equal sets.
use Rattle.std.proofs.Common.{◌≡◌, ℕ, zero, suc, ◌+◌, ◌-◌, ◌*◌, ◌/◌, ◌%◌, ◌^◌, ◌<◌, ◌≤◌, ◌⊎◌, ◌↔◌, inl, inr, Bool, true, false, cond, List, [], ◌∷◌, ◌++◌, refl, sym, ap, ◌∙◌, subst, arith, Some, None, add-one}
use Rattle.std.proofs.lemmas.Bool.{cases_lt}
use Rattle.std.proofs.lemmas.List.{append-nil}
use Rattle.std.proofs.Math.Nat.{mul-le-mul_left}
use Rattle.bit_length.specs.declared.run.Run.{Run}
use Rattle.bit_length.specs.Lengths.{Numbers, Has, Same, IsWithin, IsNext}
use Rattle.bit_length.specs.Runs.{IsRun, InRun, numbers_below, HasClass}
use Rattle.bit_length.proofs.MemberLemmas.{has-below, below-has}

-- ---- a list of the members

gap : (a b : ℕ) (t : ℕ → Bool) → a ≤ b → ((k : ℕ) → a ≤ k → k < b → t k ≡ true → ⊥) → numbers_below b t ≡ numbers_below a t
unfolding numbers_below
gap a zero t le none = let e : a ≡ 0 = omega arith in rw e refl
gap a (suc b) t le none = elim (cases_lt b a) [
  | inl h ↦ let e : suc b ≡ a = omega arith in ap (λ n. numbers_below n t) e
  | inr h ↦ step (t b) h refl (gap a b t h (λ k l m. none k l (omega arith)))
]
  where
    step : (x : Bool) → a ≤ b → t b ≡ x → numbers_below b t ≡ numbers_below a t → numbers_below b t ++ cond (t b) (b ∷ []) [] ≡ numbers_below a t
    step true l e same = absurd (none b l (omega arith) e)
    step false l e same = rw e (append-nil (numbers_below b t) ∙ same)

pub below_nothing : (t : ℕ → Bool) → [] ≡ numbers_below 0 t
unfolding numbers_below
below_nothing t = refl

pub listed_more : (N a n : ℕ) (t : ℕ → Bool) (v : List ℕ) → numbers_below N t ≡ v → IsNext (Has v) a (Some n) → (numbers_below (n + 1) t ≡ numbers_below a t ++ n ∷ []) × (n < N)
unfolding numbers_below
listed_more N a n t v e x =
    let has = below-has N t n (subst (λ w. Has w n) (sym e) x.0) in (
      ap (λ m. numbers_below m t) (add-one n) ∙ rw has.1 (ap (λ l. l ++ n ∷ []) (gap a n t x.1 (λ k low high h. let m = x.2 k (subst (λ w. Has w k) e (has-below N t k (omega arith) h)) low in omega arith))),
      has.0,
    )

pub listed_all : (N a : ℕ) (t : ℕ → Bool) (v : List ℕ) → numbers_below N t ≡ v → a ≤ N → IsNext (Has v) a None → numbers_below a t ≡ v
listed_all N a t v e le x =
    sym (gap a N t le (λ k low high h. let m = x k (subst (λ w. Has w k) e (has-below N t k high h)) in omega arith)) ∙ e

-- ---- reach

pub reach_of : (s n stride : ℕ) (r : Run) (S : Numbers) → IsRun s r → ((k : ℕ) → InRun s r k → S k) → InRun s r n → (whole : Bool) → (whole ≡ true → stride % s ≡ 0) → (end : ℕ) → end ≡ cond whole (r.residue + s * r.last) n → (n ≤ end) × (end ≤ 2 ^ 32) × ((k : ℕ) → n + stride * k ≤ end → S (n + stride * k))
reach_of s n stride r S run in' (q, low, high, e) true whole end f =
    let m : s * q ≤ s * r.last = mul-le-mul_left s high in
    (omega arith, omega arith, λ k le. in' (n + stride * k) (further k le))
  where
    further : (k : ℕ) → n + stride * k ≤ end → InRun s r (n + stride * k)
    further k le =
        let g : stride ≡ s * (stride / s) = let w = whole refl in omega arith in
        let h : stride * k ≡ s * (stride / s * k) = ap (λ t. t * k) g ∙ omega arith in
        let i : n + stride * k ≡ r.residue + s * (q + stride / s * k) = omega arith in
        (q + stride / s * k, omega arith, bound (q + stride / s * k) (omega arith), i)
      where
        bound : (x : ℕ) → r.residue + s * x ≤ r.residue + s * r.last → x ≤ r.last
        bound x l = elim (cases_lt r.last x) [
          | inr y ↦ y
          | inl y ↦ absurd (let m : s * (r.last + 1) ≤ s * x = mul-le-mul_left s (omega arith) in omega arith)
        ]
reach_of s n stride r S run in' (q, low, high, e) false whole end f =
    let m : s * q ≤ s * r.last = mul-le-mul_left s high in
    (omega arith, omega arith, λ k le. let g : n + stride * k ≡ n = omega arith in subst S (sym g) (in' n (q, low, high, e)))

-- ---- classes

pub class_more : (S : Numbers) (s period from j n end x : ℕ) (r : Run) → ((i : ℕ) → i < j → S (r.residue + s * (from + period * i))) → n ≡ r.residue + s * (from + period * j) → ((k : ℕ) → n + s * period * k ≤ end → S (n + s * period * k)) → n ≤ end → x ≡ (end - n) / s / period → 0 < s → 0 < period → (i : ℕ) → i < j + x + 1 → S (r.residue + s * (from + period * i))
class_more S s period from j n end x r below e reach le f ps pp i lt = elim (cases_lt i j) [
  | inl h ↦ below i h
  | inr h ↦
      let a : period * x ≤ (end - n) / s = subst (λ t. period * t ≤ (end - n) / s) (sym f) (omega arith) in
      let b : s * (period * x) ≤ s * ((end - n) / s) = mul-le-mul_left s a in
      let c : s * period * (i - j) ≤ s * period * x = mul-le-mul_left (s * period) (omega arith) in
      let d : s * ((end - n) / s) ≤ end - n = omega arith in
      let w = reach (i - j) (omega arith) in
      let g : i ≡ j + (i - j) = omega arith in
      let k : s * (from + period * i) ≡ s * (from + period * (j + (i - j))) = ap (λ t. s * (from + period * t)) g in
      subst S (omega arith) w
]

pub class_all : (S : Numbers) (s period from j quotient : ℕ) (r : Run) → ((i : ℕ) → i < j → S (r.residue + s * (from + period * i))) → quotient ≡ from + period * j → r.last < quotient → HasClass S s r period from
class_all S s period from j quotient r below e over i le = elim (cases_lt i j) [
  | inl h ↦ below i h
  | inr h ↦ absurd (let m : period * j ≤ period * i = mul-le-mul_left period h in omega arith)
]

pub classes_within : (S : Numbers) (s period : ℕ) (r : Run) → 0 < period → ((q : ℕ) → r.first ≤ q → q ≤ r.last → (q - r.first) % period < period → S (r.residue + s * q)) → IsWithin (InRun s r) S
classes_within S s period r p all n (q, low, high, e) = subst S (sym e) (all q low high (omega arith))

pub classes_step : (S : Numbers) (s period class : ℕ) (r : Run) → 0 < period → ((q : ℕ) → r.first ≤ q → q ≤ r.last → (q - r.first) % period < class → S (r.residue + s * q)) → HasClass S s r period (r.first + class) → (q : ℕ) → r.first ≤ q → q ≤ r.last → (q - r.first) % period < class + 1 → S (r.residue + s * q)
classes_step S s period class r p below has q low high lt = elim (cases_lt ((q - r.first) % period) class) [
  | inl h ↦ below q low high h
  | inr h ↦
      let e : q ≡ r.first + class + period * ((q - r.first) / period) = omega arith in
      let w = has ((q - r.first) / period) (omega arith) in
      subst (λ t. S (r.residue + s * t)) (sym e) w
]

pub class_from_within : (S : Numbers) (s period class : ℕ) (r : Run) → IsWithin (InRun s r) S → HasClass S s r period (r.first + class)
class_from_within S s period class r within j le =
    within (r.residue + s * (r.first + class + period * j)) (r.first + class + period * j, omega arith, le, refl)

-- the stride of a class is short
pub stride_short : (s : ℕ) (r : Run) (p : ℕ) → IsRun s r → s < 2 ^ 64 → (p ≤ 1) ⊎ (p + r.first ≤ r.last + 1) → s * p < 2 ^ 64
stride_short s r p (a, b, c) lt h = elim (cases_lt 1 p) [
  | inl k ↦
      let l : p ≤ r.last + 1 = part h k in
      let m : s * p ≤ s * (r.last + 1) = mul-le-mul_left s l in
      let n : s * 1 ≤ s * r.last = mul-le-mul_left s (omega arith) in
      omega arith
  | inr k ↦ let m : s * p ≤ s * 1 = mul-le-mul_left s k in omega arith
]
  where
    part : (p ≤ 1) ⊎ (p + r.first ≤ r.last + 1) → 1 < p → p ≤ r.last + 1
    part (inl x) y = absurd (omega arith)
    part (inr x) y = omega arith

pub within_either : (S T U V : Numbers) → ((n : ℕ) → U n ↔ (S n ⊎ T n)) → IsWithin S V → IsWithin T V → IsWithin U V
within_either S T U V u x y n h = elim ((u n).0 h) [ inl k ↦ x n k | inr k ↦ y n k ]

pub within_same : (S T V : Numbers) → Same S T → IsWithin S V → IsWithin T V
within_same S T V e x n h = x n ((e n).1 h)
