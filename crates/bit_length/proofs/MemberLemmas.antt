-- The ascending list of the members of some runs holds just what the runs mean.
use Rattle.std.proofs.Common.{◌≡◌, ℕ, zero, suc, ◌+◌, ◌*◌, ◌/◌, ◌%◌, ◌^◌, ◌<◌, ◌≤◌, ◌⊎◌, ◌↔◌, inl, inr, Bool, true, false, ◌==◌, ◌&&◌, ◌||◌, cond, List, [], ◌∷◌, ◌++◌, refl, sym, ap, ◌∙◌, subst, arith, Contains, All, nat_le, lit<}
use Rattle.std.specs.List.{list_any}
use Rattle.std.proofs.lemmas.Bool.{cases_lt, eqb-true, leb-true, le-leb, false≢true}
use Rattle.std.proofs.lemmas.Bool.Decides.{nat_tests}
use Rattle.std.proofs.lemmas.List.Elements.{All-head, All-tail, All-push, Contains-append_left, Contains-append_right, Contains-append_cases}
use Rattle.std.proofs.lemmas.Nat.{div-mul-add, mod-mul-add}
use Rattle.std.proofs.Math.Nat.{mul-le-mul_left}
use Rattle.bit_length.specs.declared.run.Run.{Run}
use Rattle.bit_length.specs.Lengths.{Numbers, Has, Same, Joins}
use Rattle.bit_length.specs.Runs.{in_run, IsRun, InRun, InSome, Adds, numbers_below, members_of}

both : (a b c : Bool) → (a && (b && c)) ≡ true → (a ≡ true) × (b ≡ true) × (c ≡ true)
both true true true e = (refl, refl, refl)
both true true false e = absurd (false≢true e)
both true false c e = absurd (false≢true e)
both false b c e = absurd (false≢true e)

pub either : (a b : Bool) → (a || b) ≡ true → (a ≡ true) ⊎ (b ≡ true)
either true b e = inl refl
either false b e = inr e

pub either_left : (a b : Bool) → a ≡ true → (a || b) ≡ true
either_left true b e = refl
either_left false b e = absurd (false≢true e)

pub either_right : (a b : Bool) → b ≡ true → (a || b) ≡ true
either_right true b e = refl
either_right false b e = e

-- a place of a table with step many columns
pub quotient_of : (r s q n : ℕ) → r < s → n ≡ r + s * q → n / s ≡ q
quotient_of r s q n lt e =
    let f : n ≡ q * s + r = omega arith in ap (λ t. t / s) f ∙ div-mul-add q s r lt

pub remainder_of : (r s q n : ℕ) → r < s → n ≡ r + s * q → n % s ≡ r
remainder_of r s q n lt e =
    let f : n ≡ q * s + r = omega arith in ap (λ t. t % s) f ∙ mod-mul-add q s r lt

pub InRun-from_test : (step : ℕ) (r : Run) (n : ℕ) → 0 < step → in_run step n r ≡ true → InRun step r n
InRun-from_test step r n p e =
    let w = both _ _ _ e in
    let a = eqb-true (n % step) r.residue w.0 in
    let b = leb-true r.first (n / step) w.1 in
    let c = leb-true (n / step) r.last w.2 in
    (n / step, b, c, omega arith)

pub test_from_InRun : (step : ℕ) (r : Run) (n : ℕ) → r.residue < step → InRun step r n → in_run step n r ≡ true
test_from_InRun step r n p (q, low, high, e) =
    let a = quotient_of r.residue step q n p e in
    let b = remainder_of r.residue step q n p e in
    let x : (n % step == r.residue) ≡ true = grind (arith, nat_tests) in
    let y : nat_le r.first (n / step) ≡ true = le-leb r.first (n / step) (omega arith) in
    let z : nat_le (n / step) r.last ≡ true = le-leb (n / step) r.last (omega arith) in
    rw (x, y, z) refl

pub InSome-from_test : (step : ℕ) (rs : List Run) (n : ℕ) → 0 < step → list_any (in_run step n) rs ≡ true → InSome step rs n
InSome-from_test step [] n p e = absurd (false≢true e)
InSome-from_test step (r ∷ rs) n p e = elim (either (in_run step n r) (list_any (in_run step n) rs) e) [
  | inl h ↦ inl (InRun-from_test step r n p h)
  | inr h ↦ inr (InSome-from_test step rs n p h)
]

pub test_from_InSome : (step : ℕ) (rs : List Run) (n : ℕ) → All (IsRun step) rs → InSome step rs n → list_any (in_run step n) rs ≡ true
test_from_InSome step [] n all h = absurd h
test_from_InSome step (r ∷ rs) n all (inl h) =
    either_left (in_run step n r) (list_any (in_run step n) rs) (test_from_InRun step r n (All-head (IsRun step) r rs all).0 h)
test_from_InSome step (r ∷ rs) n all (inr h) =
    either_right (in_run step n r) (list_any (in_run step n) rs) (test_from_InSome step rs n (All-tail (IsRun step) r rs all) h)

-- no member is above the bound
run_bound : (step : ℕ) (r : Run) (n : ℕ) → IsRun step r → InRun step r n → n ≤ 2 ^ 32
run_bound step r n (a, b, c) (q, low, high, e) = let m : step * q ≤ step * r.last = mul-le-mul_left step high in omega arith

pub some_bound : (step : ℕ) (rs : List Run) (n : ℕ) → All (IsRun step) rs → InSome step rs n → n ≤ 2 ^ 32
some_bound step [] n all h = absurd h
some_bound step (r ∷ rs) n all (inl h) = run_bound step r n (All-head (IsRun step) r rs all) h
some_bound step (r ∷ rs) n all (inr h) = some_bound step rs n (All-tail (IsRun step) r rs all) h

-- a list of one number
only_of : (k n : ℕ) → Contains (k ∷ []) n → n ≡ k
only_of k n (zero, lt, e) = sym e
only_of k n (suc i, lt, e) = absurd (omega arith)

last_of : (b : Bool) (k n : ℕ) → Contains (cond b (k ∷ []) []) n → (b ≡ true) × (n ≡ k)
last_of true k n h = (refl, only_of k n h)
last_of false k n (i, lt, e) = absurd (omega arith)

pub below-has : (n : ℕ) (test : ℕ → Bool) (k : ℕ) → Contains (numbers_below n test) k → (k < n) × (test k ≡ true)
unfolding numbers_below
below-has zero test k (i, lt, e) = absurd (omega arith)
below-has (suc n) test k h =
    elim (Contains-append_cases (numbers_below n test) (cond (test n) (n ∷ []) []) k h) [
      | inl h ↦ let w = below-has n test k h in (omega arith, w.1)
      | inr h ↦ let w = last_of (test n) n k h in (omega arith, ap test w.1 ∙ w.0)
    ]

one_of : (b : Bool) (n : ℕ) → b ≡ true → Contains (cond b (n ∷ []) []) n
one_of true n e = (0, lit< tt, refl)
one_of false n e = absurd (false≢true e)

pub has-below : (n : ℕ) (test : ℕ → Bool) (k : ℕ) → k < n → test k ≡ true → Contains (numbers_below n test) k
unfolding numbers_below
has-below zero test k lt e = absurd (omega arith)
has-below (suc n) test k lt e = elim (cases_lt k n) [
  | inl h ↦ Contains-append_left (numbers_below n test) (cond (test n) (n ∷ []) []) k (has-below n test k h e)
  | inr h ↦ let same : n ≡ k = omega arith in
      Contains-append_right (numbers_below n test) (cond (test n) (n ∷ []) []) k
      (subst (λ m. Contains (cond (test n) (n ∷ []) []) m) same (one_of (test n) n (ap test same ∙ e)))
]

-- the list holds just the members
pub members_are : (step : ℕ) (rs : List Run) → 0 < step → All (IsRun step) rs → Same (Has (members_of step rs)) (InSome step rs)
unfolding members_of
members_are step rs p all n = (
  λ h. InSome-from_test step rs n p (below-has (2 ^ 32 + 1) (λ k. list_any (in_run step k) rs) n h).1,
  λ h. has-below (2 ^ 32 + 1) (λ k. list_any (in_run step k) rs) n (let b = some_bound step rs n all h in omega arith) (test_from_InSome step rs n all h),
)

-- ---- lists of runs that grow

pub InSome-push : (step : ℕ) (rs : List Run) (r : Run) (n : ℕ) → InSome step (rs ++ r ∷ []) n ↔ (InSome step rs n ⊎ InRun step r n)
InSome-push step [] r n = (there, back)
  where
    there : InSome step (r ∷ []) n → ⊥ ⊎ InRun step r n
    there (inl h) = inr h
    there (inr h) = absurd h

    back : ⊥ ⊎ InRun step r n → InSome step (r ∷ []) n
    back (inl h) = absurd h
    back (inr h) = inl h
InSome-push step (x ∷ rs) r n = (there (InSome-push step rs r n).0, back (InSome-push step rs r n).1)
  where
    there : (InSome step (rs ++ r ∷ []) n → InSome step rs n ⊎ InRun step r n) → InSome step (x ∷ (rs ++ r ∷ [])) n → InSome step (x ∷ rs) n ⊎ InRun step r n
    there f (inl h) = inl (inl h)
    there f (inr h) = elim (f h) [ inl k ↦ inl (inr k) | inr k ↦ inr k ]

    back : (InSome step rs n ⊎ InRun step r n → InSome step (rs ++ r ∷ []) n) → InSome step (x ∷ rs) n ⊎ InRun step r n → InSome step (x ∷ (rs ++ r ∷ [])) n
    back f (inl (inl h)) = inl h
    back f (inl (inr h)) = inr (f (inl h))
    back f (inr h) = inr (f (inr h))

pub Adds-none : (step : ℕ) (rs : List Run) (S : Numbers) → ((n : ℕ) → S n → ⊥) → Adds step rs rs S
Adds-none step rs S none = record {
  each = λ all. all;
  same = λ n. (λ h. inl h, λ h. elim h [ inl k ↦ k | inr k ↦ absurd (none n k) ]);
}

pub Adds-push : (step : ℕ) (old new : List Run) (r : Run) (S T : Numbers) → Adds step old new S → IsRun step r → ((n : ℕ) → T n ↔ (S n ⊎ InRun step r n)) → Adds step old (new ++ r ∷ []) T
Adds-push step old new r S T adds run more = record {
  each = λ all. All-push (IsRun step) new r (adds.each all) run;
  same = λ n. (
    λ h. elim ((InSome-push step new r n).0 h) [
      | inl k ↦ elim ((adds.same n).0 k) [ inl x ↦ inl x | inr x ↦ inr ((more n).1 (inl x)) ]
      | inr k ↦ inr ((more n).1 (inr k))
    ],
    λ h. (InSome-push step new r n).1 (elim h as (λ _. InSome step new n ⊎ InRun step r n) [
      | inl k ↦ inl ((adds.same n).1 (inl k))
      | inr k ↦ elim ((more n).0 k) [ inl x ↦ inl ((adds.same n).1 (inr x)) | inr x ↦ inr x ]
    ]),
  );
}

pub Adds-same : (step : ℕ) (old new : List Run) (S T : Numbers) → Adds step old new S → Same S T → Adds step old new T
Adds-same step old new S T adds e = record {
  each = adds.each;
  same = λ n. (
    λ h. elim ((adds.same n).0 h) [ inl x ↦ inl x | inr x ↦ inr ((e n).0 x) ],
    λ h. (adds.same n).1 (elim h as (λ _. InSome step old n ⊎ S n) [ inl x ↦ inl x | inr x ↦ inr ((e n).1 x) ]),
  );
}

pub Adds-join : (step : ℕ) (a b c : List Run) (S T : Numbers) → Adds step a b S → Adds step b c T → Adds step a c (Joins S T)
Adds-join step a b c S T x y = record {
  each = λ all. y.each (x.each all);
  same = λ n. (
    λ h. elim ((y.same n).0 h) [
      | inl k ↦ elim ((x.same n).0 k) [ inl i ↦ inl i | inr i ↦ inr (inl i) ]
      | inr k ↦ inr (inr k)
    ],
    λ h. (y.same n).1 (elim h as (λ _. InSome step b n ⊎ T n) [
      | inl k ↦ inl ((x.same n).1 (inl k))
      | inr k ↦ elim k as (λ _. InSome step b n ⊎ T n) [ inl i ↦ inl ((x.same n).1 (inr i)) | inr i ↦ inr i ]
    ]),
  );
}
