-- Remainders from tables of marks.
use Rattle.std.proofs.Common.{◌≡◌, ℕ, ◌+◌, ◌*◌, ◌/◌, ◌%◌, ◌<◌, ◌==◌, ◌⊎◌, ◌↔◌, inl, inr, Bool, true, false, cond, List, [], ◌∷◌, ◌++◌, length, refl, sym, ap, ◌∙◌, arith, add-one, eqb-true, eq-eqb, replicate}
use Rattle.std.specs.List.{list_any, Any}
use Rattle.std.proofs.lemmas.Bool.{cases_lt, false≢true}
use Rattle.std.proofs.lemmas.List.{append-nil, get_or-replicate, get_or_past, length-replicate}
use Rattle.std.proofs.lemmas.List.Folds.{Any-from_list_any, list_any-from_Any}
use Rattle.std.proofs.Math.Nat.{add-mul-mod_self_left, div-add-mod, zero-mod}
use Rattle.bit_length.specs.Lengths.{Numbers, Has, SomeLeaves}
use Rattle.bit_length.specs.Residues.{AreResidues, residues_of, is_marked, marked_of, AreNone, AreAtMost, IsReached, Notes}
use Rattle.bit_length.specs.Runs.{numbers_below}
use Rattle.bit_length.proofs.AscendingLemmas.{same_test, below_same}
use Rattle.bit_length.proofs.ReachLemmas.{notes_then}
use Rattle.bit_length.proofs.SumLemmas.{factor_positive}

-- ---- the list of what is marked

pub next_in : (test : ℕ → Bool) (n : ℕ) (xs : List ℕ) → xs ≡ numbers_below n test → test n ≡ true → xs ++ n ∷ [] ≡ numbers_below (n + 1) test
unfolding numbers_below
next_in test n xs e t =
    ap (λ l. l ++ n ∷ []) e ∙ ap (λ b. numbers_below n test ++ cond b (n ∷ []) []) (sym t) ∙ ap (λ m. numbers_below m test) (sym (add-one n))

pub next_out : (test : ℕ → Bool) (n : ℕ) (xs : List ℕ) → xs ≡ numbers_below n test → test n ≡ false → xs ≡ numbers_below (n + 1) test
unfolding numbers_below
next_out test n xs e t =
    e ∙ sym (append-nil (numbers_below n test)) ∙ ap (λ b. numbers_below n test ++ cond b (n ∷ []) []) (sym t) ∙ ap (λ m. numbers_below m test) (sym (add-one n))

pub none_below : (test : ℕ → Bool) → [] ≡ numbers_below 0 test
unfolding numbers_below
none_below test = refl

-- ---- the marks of a whole set

-- what some members leave is marked, and nothing else
abbrev pub AreMarks : List Bool → ℕ → Numbers → Type 0
AreMarks marks k S = (length marks ≡ k) × ((r : ℕ) → r < k → ((is_marked marks r ≡ true) ↔ SomeLeaves S k r))

-- the numbers that are marked are what the members leave
pub marked_is : (marks : List Bool) (k : ℕ) (ns : List ℕ) → AreMarks marks k (Has ns) → marked_of marks ≡ residues_of ns k
marked_is marks k ns (size, are) =
    ap (λ m. numbers_below m (is_marked marks)) size ∙ below_same k (is_marked marks) (λ r. list_any (λ n. n % k == r) ns) (λ r lt. same_test (is_marked marks r) (list_any (λ n. n % k == r) ns) (λ e. list_any-from_Any (λ n. n % k == r) ns (to r ((are r lt).0 e))) (λ e. (are r lt).1 (from r (Any-from_list_any (λ n. n % k == r) ns e))))
  where
    from : (r : ℕ) → Any (λ n. (n % k == r) ≡ true) ns → SomeLeaves (Has ns) k r
    from r h = (h.1, (h.0, h.2, h.3), eqb-true (h.1 % k) r h.4)

    to : (r : ℕ) → SomeLeaves (Has ns) k r → Any (λ n. (n % k == r) ≡ true) ns
    to r h = (h.1.0, h.0, h.1.1, h.1.2, eq-eqb (h.0 % k) r h.2)

-- ---- tables with nothing in them

pub none_marked : (n : ℕ) → AreNone (replicate n false)
none_marked n r e = elim (cases_lt r n) [
  | inl h ↦ false≢true (sym (get_or-replicate n r false false h) ∙ e)
  | inr h ↦ false≢true (sym (get_or_past (replicate n false) r false (omega (arith, length-replicate n false))) ∙ e)
]

pub none_reached : (n : ℕ) → AreAtMost (replicate n 0) 0
none_reached n r = elim (cases_lt r n) [
  | inl h ↦ omega (arith, get_or-replicate {A = ℕ} n r 0 0 h)
  | inr h ↦ omega (arith, get_or_past {X = ℕ} (replicate n 0) r 0 (omega (arith, length-replicate {A = ℕ} n 0)))
]

-- ---- rounds

-- as many steps as a divisor has parts of a common divisor leave nothing
pub round_is : (s k g : ℕ) → 0 < k → s % g ≡ 0 → k % g ≡ 0 → (0 < k / g) × ((s * (k / g)) % k ≡ 0)
round_is s k g p a b =
    let e : s ≡ g * (s / g) = omega (arith, div-add-mod s g) in
    let f : k ≡ g * (k / g) = omega (arith, div-add-mod k g) in
    let i : s * (k / g) ≡ g * (s / g) * (k / g) = ap (λ t. t * (k / g)) e in
    let j : k * (s / g) ≡ g * (k / g) * (s / g) = ap (λ t. t * (s / g)) f in
    let h : s * (k / g) ≡ 0 + k * (s / g) = omega arith in
    (factor_positive g (k / g) k (sym f) p, ap (λ t. t % k) h ∙ add-mul-mod_self_left 0 k (s / g) ∙ zero-mod k)

-- ---- what is marked where nothing was noted before

pub marked_residues : (s : ℕ) (S T U : Numbers) (none mid all : List ℕ) (marks : List Bool) (k : ℕ) → ((n : ℕ) → U n ↔ (S n ⊎ T n)) → length none ≡ k → length mid ≡ length none → length marks ≡ k → AreAtMost none 0 → Notes s none mid S → Notes s mid all T →
    ((r : ℕ) → (is_marked marks r ≡ true) ↔ IsReached all s r) → (numbers : List ℕ) → numbers ≡ marked_of marks → AreResidues numbers k U
marked_residues s S T U none mid all marks k u nl ml size empty first second are numbers e ns same =
    e ∙ marked_is marks k ns (size, λ r lt. (there r, back r))
  where
    whole : Notes s none all U
    whole = notes_then s none mid all S T U ml u first second

    there : (r : ℕ) → is_marked marks r ≡ true → SomeLeaves (Has ns) k r
    there r h = elim ((whole r).0 ((are r).0 h)) [
      | inl (i, j, lt, w, f) ↦ absurd (let z = empty i in omega (arith, z, w))
      | inr (n, x, f) ↦ (n, (same n).1 x, ap (λ m. n % m) (sym nl) ∙ f)
    ]

    back : (r : ℕ) → SomeLeaves (Has ns) k r → is_marked marks r ≡ true
    back r (n, h, f) =
        (are r).1 ((whole r).1 (inr (n, (same n).0 h, ap (λ m. n % m) nl ∙ f)))
