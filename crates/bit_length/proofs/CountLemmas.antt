-- How many members runs without a common member have.
use Rattle.std.proofs.Common.{◌≡◌, ℕ, zero, suc, ◌+◌, ◌-◌, ◌*◌, ◌^◌, ◌<◌, ◌≤◌, inl, inr, Bool, true, false, ◌==◌, ◌||◌, cond, List, [], ◌∷◌, ◌++◌, length, take, get_or, refl, sym, ap, ◌∙◌, arith, length-append}
use Rattle.std.specs.List.{list_any}
use Rattle.std.proofs.lemmas.Bool.{cases_lt, eqb-true}
use Rattle.std.proofs.lemmas.Bool.Decides.{nat_tests}
use Rattle.std.proofs.lemmas.List.{take_more, take_all, get_or-take, get_or_append_left, length-take}
use Rattle.std.proofs.Math.Seq.{get_or-append_seam}
use Rattle.std.proofs.Math.Nat.{mul-le-mul_left}
use Rattle.std.proofs.lemmas.List.Folds.{list_any-append}
use Rattle.bit_length.specs.declared.run.Run.{Run}
use Rattle.bit_length.specs.Runs.{in_run, IsRun, IsBefore, InRun, InSome, numbers_below, members_of, AreRuns}
use Rattle.bit_length.proofs.MemberLemmas.{InRun-from_test, test_from_InRun, InSome-from_test, quotient_of, remainder_of, either, either_left, either_right}
use Rattle.bit_length.proofs.SetLemmas.{front, no_run, last_run, other_run}

pub below-alike : (n : ℕ) (p q : ℕ → Bool) → ((k : ℕ) → p k ≡ q k) → numbers_below n p ≡ numbers_below n q
unfolding numbers_below
below-alike zero p q e = refl
below-alike (suc n) p q e = rw (below-alike n p q e, e n) refl

-- how many numbers pass one of two tests that none passes both
pub count_either : (n : ℕ) (p q t : ℕ → Bool) → ((k : ℕ) → t k ≡ (p k || q k)) → ((k : ℕ) → p k ≡ true → q k ≡ true → ⊥) → length (numbers_below n t) ≡ length (numbers_below n p) + length (numbers_below n q)
unfolding numbers_below
count_either zero p q t e none = refl
count_either (suc n) p q t e none =
    simp length-append (let h = count_either n p q t e none in let g = one (p n) (q n) (t n) (e n) (none n) in omega arith)
  where
    one : (a b c : Bool) → c ≡ (a || b) → (a ≡ true → b ≡ true → ⊥) → length (cond c (n ∷ []) []) ≡ length (cond a (n ∷ []) []) + length (cond b (n ∷ []) [])
    one true true c e no' = absurd (no' refl refl)
    one true false c e no' = rw e refl
    one false true c e no' = rw e refl
    one false false c e no' = rw e refl

pub count_none : (n m : ℕ) → n ≤ m → length (numbers_below n (λ k. k == m)) ≡ 0
unfolding numbers_below
count_none zero m le = refl
count_none (suc n) m le =
    let e : (n == m) ≡ false = grind (arith, nat_tests) in
    let h = count_none n m (omega arith) in rw e (simp length-append (omega arith))

pub count_one : (n m : ℕ) → m < n → length (numbers_below n (λ k. k == m)) ≡ 1
unfolding numbers_below
count_one zero m lt = absurd (omega arith)
count_one (suc n) m lt = elim (cases_lt m n) [
  | inl h ↦
      let e : (n == m) ≡ false = grind (arith, nat_tests) in
      let w = count_one n m h in rw e (simp length-append (omega arith))
  | inr h ↦
      let e : (n == m) ≡ true = grind (arith, nat_tests) in
      let w = count_none n m (omega arith) in rw e (simp length-append (omega arith))
]

same_test : (a b : Bool) → (a ≡ true → b ≡ true) → (b ≡ true → a ≡ true) → a ≡ b
same_test true b f g = sym (f refl)
same_test false true f g = g refl
same_test false false f g = refl

-- ---- one run

abbrev run_from : ℕ → ℕ → ℕ → Run
run_from residue first more = record { residue = residue; first = first; last = first + more }

count_from : (n s residue first more : ℕ) → residue < s → residue + s * (first + more) < n → length (numbers_below n (λ k. in_run s k (run_from residue first more))) ≡ more + 1
count_from n s residue first zero lt below =
    ap length (below-alike n (λ k. in_run s k (run_from residue first 0)) (λ k. k == residue + s * first) alike) ∙ count_one n (residue + s * first) (omega arith)
  where
    alike : (k : ℕ) → in_run s k (run_from residue first 0) ≡ (k == residue + s * first)
    alike k = same_test (in_run s k (run_from residue first 0)) (k == residue + s * first) there back
      where
        there : in_run s k (run_from residue first 0) ≡ true → (k == residue + s * first) ≡ true
        there h =
            let (q, low, high, e) = InRun-from_test s (run_from residue first 0) k (omega arith) h in
            let f : q ≡ first = omega arith in
            let g : k ≡ residue + s * first = e ∙ ap (λ t. residue + s * t) f in grind (arith, nat_tests)

        back : (k == residue + s * first) ≡ true → in_run s k (run_from residue first 0) ≡ true
        back h =
            let e = eqb-true k (residue + s * first) h in
            test_from_InRun s (run_from residue first 0) k lt (first, omega arith, omega arith, e)
count_from n s residue first (suc more) lt below =
    count_either n (λ k. in_run s k (run_from residue first more)) (λ k. k == residue + s * (first + suc more)) (λ k. in_run s k (run_from residue first (suc more))) alike none
    ∙ (let a = count_from n s residue first more lt (let m : s * (first + suc more) ≡ s * (first + more) + s = omega arith in omega arith) in let b = count_one n (residue + s * (first + suc more)) below in omega arith)
  where
    alike : (k : ℕ) → in_run s k (run_from residue first (suc more)) ≡ (in_run s k (run_from residue first more) || (k == residue + s * (first + suc more)))
    alike k = same_test (in_run s k (run_from residue first (suc more))) (in_run s k (run_from residue first more) || (k == residue + s * (first + suc more))) there back
      where
        there : in_run s k (run_from residue first (suc more)) ≡ true → (in_run s k (run_from residue first more) || (k == residue + s * (first + suc more))) ≡ true
        there h =
            let (q, low, high, e) = InRun-from_test s (run_from residue first (suc more)) k (omega arith) h in
            elim (cases_lt (first + more) q) [
              | inl l ↦
                  let f : q ≡ first + suc more = omega arith in
                  let g : k ≡ residue + s * (first + suc more) = e ∙ ap (λ t. residue + s * t) f in
                  either_right (in_run s k (run_from residue first more)) (k == residue + s * (first + suc more)) (grind (arith, nat_tests))
              | inr l ↦
                  either_left (in_run s k (run_from residue first more)) (k == residue + s * (first + suc more)) (test_from_InRun s (run_from residue first more) k lt (q, low, l, e))
            ]

        back : (in_run s k (run_from residue first more) || (k == residue + s * (first + suc more))) ≡ true → in_run s k (run_from residue first (suc more)) ≡ true
        back h = elim (either (in_run s k (run_from residue first more)) (k == residue + s * (first + suc more)) h) [
          | inl i ↦
              let (q, low, high, e) = InRun-from_test s (run_from residue first more) k (omega arith) i in
              test_from_InRun s (run_from residue first (suc more)) k lt (q, low, omega arith, e)
          | inr i ↦ test_from_InRun s (run_from residue first (suc more)) k lt (first + suc more, omega arith, omega arith, eqb-true k (residue + s * (first + suc more)) i)
        ]

    none : (k : ℕ) → in_run s k (run_from residue first more) ≡ true → (k == residue + s * (first + suc more)) ≡ true → ⊥
    none k h i =
        let (q, low, high, e) = InRun-from_test s (run_from residue first more) k (omega arith) h in
        let f = eqb-true k (residue + s * (first + suc more)) i in
        let m : s * (q + 1) ≤ s * (first + suc more) = mul-le-mul_left s (omega arith) in
        omega arith

pub count_run : (s : ℕ) (r : Run) → IsRun s r → length (numbers_below (2 ^ 32 + 1) (λ k. in_run s k r)) + r.first ≡ r.last + 1
count_run s r (a, b, c) =
    let e : r.first + (r.last - r.first) ≡ r.last = omega arith in
    let f : run_from r.residue r.first (r.last - r.first) ≡ r = ap (λ t. record { residue = r.residue; first = r.first; last = t }) e in
    let g : s * (r.first + (r.last - r.first)) ≡ s * r.last = ap (λ t. s * t) e in
    let n = count_from (2 ^ 32 + 1) s r.residue r.first (r.last - r.first) a (omega arith) in
    let m = ap (λ t. length (numbers_below (2 ^ 32 + 1) (λ k. in_run s k t))) f in
    omega arith

-- ---- runs without a common member

meet_nowhere : (s : ℕ) (a b : Run) (k : ℕ) → IsBefore a b → a.residue < s → b.residue < s → InRun s a k → InRun s b k → ⊥
meet_nowhere s a b k before la lb (q, lq, hq, eq) (p, lp, hp, ep) =
    let x = quotient_of a.residue s q k la eq in
    let y = quotient_of b.residue s p k lb ep in
    let z = remainder_of a.residue s q k la eq in
    let w = remainder_of b.residue s p k lb ep in
    elim before [ inl h ↦ omega arith | inr h ↦ omega arith ]

before_last : (s : ℕ) (others : List Run) (last : Run) (i : ℕ) → AreRuns s (others ++ last ∷ []) → i < length others → IsBefore (get_or others i no_run) last
before_last s others last i set lt =
    let h = set.apart i (length others) no_run lt (simp length-append (omega arith)) in
    rw (get_or_append_left others (last ∷ []) no_run i lt, get_or-append_seam others last [] no_run) at h

before_other : (s : ℕ) (others : List Run) (last : Run) (i j : ℕ) → AreRuns s (others ++ last ∷ []) → i < j → j < length others → IsBefore (get_or others i no_run) (get_or others j no_run)
before_other s others last i j set l lt =
    let h = set.apart i j no_run l (simp length-append (omega arith)) in
    let li : i < length others = omega arith in
    rw (get_or_append_left others (last ∷ []) no_run i li, get_or_append_left others (last ∷ []) no_run j lt) at h

place_of : (s : ℕ) (rs : List Run) (n : ℕ) → InSome s rs n → (j : ℕ) × (j < length rs) × InRun s (get_or rs j no_run) n
place_of s [] n h = absurd h
place_of s (r ∷ rs) n (inl h) = (0, omega arith, h)
place_of s (r ∷ rs) n (inr h) = let (j, l, k) = place_of s rs n h in (suc j, omega arith, k)

pub front_apart : (s : ℕ) (others : List Run) (last : Run) (i : ℕ) → AreRuns s (others ++ last ∷ []) → i < length others → (k : ℕ) → InSome s (front others last i) k → InRun s (get_or others i no_run) k → ⊥
front_apart s others last i set lt k (inl h) x =
    meet_nowhere s (get_or others i no_run) last k (before_last s others last i set lt) (other_run s others last i set lt).0 (last_run s others last set).0 x h
front_apart s others last i set lt k (inr h) x =
    let (j, l, y) = place_of s (take i others) k h in
    let len = length-take i others in
    let lj : j < i = omega arith in
    let lo : j < length others = omega arith in
    let y' = rw (get_or-take i others j no_run lj) at y in
    meet_nowhere s (get_or others j no_run) (get_or others i no_run) k (before_other s others last j i set lj lt) (other_run s others last j set lo).0 (other_run s others last i set lt).0 y' x

pub length_below : (n : ℕ) (t : ℕ → Bool) → length (numbers_below n t) ≤ n
unfolding numbers_below
length_below zero t = omega arith
length_below (suc n) t =
    simp length-append (let h = length_below n t in let g = one (t n) in omega arith)
  where
    one : (b : Bool) → length (cond b (n ∷ []) []) ≤ 1
    one true = omega arith
    one false = omega arith

-- how many members the first runs have
abbrev pub counted : ℕ → List Run → ℕ
counted s rs = length (numbers_below (2 ^ 32 + 1) (λ k. list_any (in_run s k) rs))

regroup : (a b c : Bool) → (a || (b || (c || false))) ≡ ((a || b) || c)
regroup true b c = refl
regroup false true c = refl
regroup false false true = refl
regroup false false false = refl

or_last : (a : Bool) → (a || false) ≡ a
or_last true = refl
or_last false = refl

pub counted_first : (s : ℕ) (last : Run) → IsRun s last → counted s (last ∷ []) + last.first ≡ last.last + 1
counted_first s last run =
    let e = ap length (below-alike (2 ^ 32 + 1) (λ k. list_any (in_run s k) (last ∷ [])) (λ k. in_run s k last) (λ k. or_last (in_run s k last))) in
    let f = count_run s last run in
    omega arith

pub counted_more : (s : ℕ) (others : List Run) (last : Run) (i : ℕ) → AreRuns s (others ++ last ∷ []) → i < length others → counted s (front others last (i + 1)) + (get_or others i no_run).first ≡ counted s (front others last i) + ((get_or others i no_run).last + 1)
counted_more s others last i set lt =
    let p : 0 < s = omega (arith, (last_run s others last set).0) in
    let e = count_either (2 ^ 32 + 1) (λ k. list_any (in_run s k) (front others last i)) (λ k. in_run s k (get_or others i no_run)) (λ k. list_any (in_run s k) (front others last (i + 1))) (λ k. more k) (λ k a b. front_apart s others last i set lt k (InSome-from_test s (front others last i) k p a) (InRun-from_test s (get_or others i no_run) k p b)) in
    let f = count_run s (get_or others i no_run) (other_run s others last i set lt) in
    omega arith
  where
    more : (k : ℕ) → list_any (in_run s k) (front others last (i + 1)) ≡ (list_any (in_run s k) (front others last i) || in_run s k (get_or others i no_run))
    more k =
        rw (take_more others i no_run lt) (ap (λ b. in_run s k last || b) (list_any-append (in_run s k) (take i others) (get_or others i no_run ∷ [])) ∙ regroup (in_run s k last) (list_any (in_run s k) (take i others)) (in_run s k (get_or others i no_run)))

pub counted_short : (s : ℕ) (rs : List Run) → counted s rs ≤ 2 ^ 32 + 1
counted_short s rs = length_below (2 ^ 32 + 1) (λ k. list_any (in_run s k) rs)

pub counted_all : (s : ℕ) (others : List Run) (last : Run) (i : ℕ) → length others ≤ i → counted s (front others last i) ≡ length (members_of s (others ++ last ∷ []))
unfolding members_of
counted_all s others last i le =
    rw (take_all i others le) (ap length (below-alike (2 ^ 32 + 1) (λ k. list_any (in_run s k) (last ∷ others)) (λ k. list_any (in_run s k) (others ++ last ∷ [])) turned))
  where
    swap : (a b : Bool) → (a || b) ≡ (b || (a || false))
    swap true true = refl
    swap true false = refl
    swap false true = refl
    swap false false = refl

    turned : (k : ℕ) → list_any (in_run s k) (last ∷ others) ≡ list_any (in_run s k) (others ++ last ∷ [])
    turned k =
        swap (in_run s k last) (list_any (in_run s k) others) ∙ sym (list_any-append (in_run s k) others (last ∷ []))
