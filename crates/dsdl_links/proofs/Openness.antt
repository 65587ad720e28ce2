-- The set of the files that are open
use Rattle.std.proofs.Common.{◌≡◌, ℕ, ◌+◌, ◌<◌, ◌≤◌, ◌==◌, Bool, true, false, ◌&&◌, ◌||◌, not, List, [], ◌∷◌, ◌++◌, length, set, cond, ◌⊎◌, inl, inr, refl, sym, ap, ◌∙◌, subst, arith, eq-eqb}
use Rattle.std.specs.List.{list_all}
use Rattle.std.specs.BTreeSet.{BTreeSet, Updates, IsLowerBound}
use Rattle.std.specs.Ordering.{nat_cmp}
use Rattle.std.specs.Cmp.{unsigned_ties}
use Rattle.std.proofs.lemmas.Bool.{false≢true, eqb-true, cases_order, cases_lt, ne_eqb}
use Rattle.std.proofs.lemmas.List.Folds.{list_any-append}
use Rattle.std.proofs.lemmas.Map.Keys.{le_from_not_gt}
use Rattle.dsdl_links.specs.Order.{is_among, links_at}
use Rattle.dsdl_links.specs.Marks.{is_marked, are_marked, is_open, IsFirstOpen}
use Rattle.dsdl_links.specs.Ready.{has, AreOpen, AddsOpen}
use Rattle.dsdl_links.specs.Users.{AreUsers}
use Rattle.dsdl_links.proofs.Among.{decide, and_left, and_both, each, from_each}
use Rattle.dsdl_links.proofs.Marking.{differs, now_marked, stays_marked, was_marked}
use Rattle.dsdl_links.proofs.Readiness.{marked_closed, same_truth}

or_false : (a : Bool) → a ≡ (a || false)
or_false true = refl
or_false false = refl

gathered : (o f e p : Bool) → ((o || (f && p)) || ((e || false) && p)) ≡ (o || ((f || (e || false)) && p))
gathered true f e p = refl
gathered false true e true = refl
gathered false true true false = refl
gathered false true false false = refl
gathered false false e p = refl

-- ---- files that come into the set
pub adds_none : (links : List (List ℕ)) (marks : List Bool) (s : BTreeSet ℕ) → AddsOpen links marks [] s s
adds_none links marks s k = or_false (has s k)

pub adds_more : (links : List (List ℕ)) (marks : List Bool) (files : List ℕ) (x : ℕ) (old mid new : BTreeSet ℕ) → AddsOpen links marks files old mid → AddsOpen links marks (x ∷ []) mid new →
    AddsOpen links marks (files ++ x ∷ []) old new
adds_more links marks files x old mid new a b k =
    b k ∙ ap (λ t. t || (is_among (x ∷ []) k && is_open links marks k)) (a k)
    ∙ gathered (has old k) (is_among files k) (k == x) (is_open links marks k)
    ∙ ap (λ t. has old k || (t && is_open links marks k)) (sym (list_any-append (λ n. k == n) files (x ∷ [])))

or_closed : (a e : Bool) → a ≡ (a || ((e || false) && false))
or_closed true e = refl
or_closed false true = refl
or_closed false false = refl

or_apart : (a p : Bool) → a ≡ (a || ((false || false) && p))
or_apart true p = refl
or_apart false p = refl

or_here : (a : Bool) → true ≡ (a || ((true || false) && true))
or_here true = refl
or_here false = refl

pub adds_closed : (links : List (List ℕ)) (marks : List Bool) (x : ℕ) (s : BTreeSet ℕ) → is_open links marks x ≡ false → AddsOpen links marks (x ∷ []) s s
adds_closed links marks x s h k = at (decide (k == x))
  where
    Goal : Type 0
    Goal = has s k ≡ (has s k || (((k == x) || false) && is_open links marks k))

    at : ((k == x) ≡ true) ⊎ ((k == x) ≡ false) → Goal
    at (inl e) = or_closed (has s k) (k == x) ∙ ap (λ p. has s k || (((k == x) || false) && p)) (sym (ap (is_open links marks) (eqb-true k x e) ∙ h))
    at (inr e) = or_apart (has s k) (is_open links marks k) ∙ ap (λ b. has s k || ((b || false) && is_open links marks k)) (sym e)

turned : (k x : ℕ) → (x == k) ≡ (k == x)
turned k x = same_truth (x == k) (k == x) (λ h. eq-eqb k x (sym (eqb-true x k h))) (λ h. eq-eqb x k (sym (eqb-true k x h)))

-- what a set has after a change at one number
pub changed : (old new : BTreeSet ℕ) (x : ℕ) (b : Bool) → Updates nat_cmp old new x b → (k : ℕ) → has new k ≡ cond (k == x) b (has old k)
changed old new x b u k = u.0 k ∙ ap (λ t. cond t b (has old k)) (sym (unsigned_ties x k) ∙ turned k x)

pub adds_open : (links : List (List ℕ)) (marks : List Bool) (x : ℕ) (old new : BTreeSet ℕ) → is_open links marks x ≡ true → Updates nat_cmp old new x true → AddsOpen links marks (x ∷ []) old new
adds_open links marks x old new h u k = changed old new x true u k ∙ at (decide (k == x))
  where
    Goal : Type 0
    Goal = cond (k == x) true (has old k) ≡ (has old k || (((k == x) || false) && is_open links marks k))

    at : ((k == x) ≡ true) ⊎ ((k == x) ≡ false) → Goal
    at (inl e) =
        ap (λ t. cond t true (has old k)) e ∙ or_here (has old k)
        ∙ ap (λ p. has old k || ((true || false) && p)) (sym (ap (is_open links marks) (eqb-true k x e) ∙ h))
        ∙ ap (λ b. has old k || ((b || false) && is_open links marks k)) (sym e)
    at (inr e) = ap (λ t. cond t true (has old k)) e ∙ or_apart (has old k) (is_open links marks k) ∙ ap (λ b. has old k || ((b || false) && is_open links marks k)) (sym e)

-- ---- the files that are open at first
pub open_none : (links : List (List ℕ)) (marks : List Bool) (s : BTreeSet ℕ) → s.keys ≡ [] → AreOpen 0 links marks s
open_none links marks s none = record {
  within = λ k h. absurd (false≢true (sym (none_has k) ∙ h));
  each = λ k lt. absurd (omega arith);
}
  where
    none_has : (k : ℕ) → has s k ≡ false
    none_has k = ap (Rattle.std.specs.List.list_any (Rattle.std.specs.BTreeMap.is_at (nat_cmp k))) none

or_false_is : (a b : Bool) → a ≡ false → (a || b) ≡ b
or_false_is true b h = absurd (false≢true (sym h))
or_false_is false b h = refl

not_has : {n : ℕ} {links : List (List ℕ)} {marks : List Bool} {s : BTreeSet ℕ} → AreOpen n links marks s → (k : ℕ) → n ≤ k → has s k ≡ false
not_has {s = s} o k le = elim (decide (has s k)) [ inl e ↦ absurd (let lt = o.within k e in omega arith) | inr e ↦ e ]

pub open_more : (n : ℕ) (links : List (List ℕ)) (marks : List Bool) (old new : BTreeSet ℕ) → AreOpen n links marks old → AddsOpen links marks (n ∷ []) old new → AreOpen (n + 1) links marks new
open_more n links marks old new o a = record {
  within = λ k h. elim (Rattle.std.proofs.lemmas.Bool.or_cases (has old k) (is_among (n ∷ []) k && is_open links marks k) (sym (a k) ∙ h)) [
    | inl e ↦ (let lt = o.within k e in omega arith)
    | inr e ↦ (let one = alone k (and_left (is_among (n ∷ []) k) (is_open links marks k) e) in omega arith)
  ];
  each = λ k lt. a k ∙ at k lt (cases_order k n);
}
  where
    alone : (k : ℕ) → is_among (n ∷ []) k ≡ true → k ≡ n
    alone k h = elim (Rattle.std.proofs.lemmas.Bool.or_cases (k == n) false h) [ inl e ↦ eqb-true k n e | inr e ↦ absurd (false≢true e) ]

    at : (k : ℕ) → k < n + 1 → (k ≡ n) ⊎ ((k < n) ⊎ (n < k)) → (has old k || (((k == n) || false) && is_open links marks k)) ≡ is_open links marks k
    at k lt (inl e) =
        or_false_is (has old k) (((k == n) || false) && is_open links marks k) (not_has o k (omega arith))
        ∙ ap (λ b. (b || false) && is_open links marks k) (eq-eqb k n e)
    at k lt (inr (inl less)) =
        ap (λ b. has old k || ((b || false) && is_open links marks k)) (ne_eqb k n (λ e. omega arith))
        ∙ sym (or_apart (has old k) (is_open links marks k)) ∙ o.each k less
    at k lt (inr (inr more)) = absurd (omega arith)

-- ---- the least of them
pub least_open : (links : List (List ℕ)) (marks : List Bool) (s : BTreeSet ℕ) (x : ℕ) → AreOpen (length links) links marks s → has s x ≡ true → IsLowerBound nat_cmp s x → IsFirstOpen links marks x
least_open links marks s x o h least = record {
  within = o.within x h;
  is = sym (o.each x (o.within x h)) ∙ h;
  earlier = λ k lt. sym (o.each k (let below = o.within x h in omega arith)) ∙ none k lt;
}
  where
    none : (k : ℕ) → k < x → has s k ≡ false
    none k lt = elim (decide (has s k)) [ inl e ↦ absurd (let le = le_from_not_gt x k (least k e) in omega arith) | inr e ↦ e ]

pub none_open : (links : List (List ℕ)) (marks : List Bool) (s : BTreeSet ℕ) → AreOpen (length links) links marks s → s.keys ≡ [] → (k : ℕ) → k < length links → is_open links marks k ≡ false
none_open links marks s o none k lt = sym (o.each k lt) ∙ ap (Rattle.std.specs.List.list_any (Rattle.std.specs.BTreeMap.is_at (nat_cmp k))) none

-- ---- one file more is valued
open_parts : (links : List (List ℕ)) (marks : List Bool) (k : ℕ) → is_open links marks k ≡ true → (is_marked marks k ≡ false) × (are_marked marks (links_at links k) ≡ true)
open_parts links marks k h = at (is_marked marks k) (are_marked marks (links_at links k)) h
  where
    at : (a b : Bool) → (not a && b) ≡ true → (a ≡ false) × (b ≡ true)
    at true b e = absurd (false≢true e)
    at false b e = (refl, e)

open_from : (links : List (List ℕ)) (marks : List Bool) (k : ℕ) → is_marked marks k ≡ false → are_marked marks (links_at links k) ≡ true → is_open links marks k ≡ true
open_from links marks k h m = and_both (not (is_marked marks k)) (are_marked marks (links_at links k)) (ap not h) m

module _ (links : List (List ℕ)) (marks : List Bool) (x : ℕ) (lt : x < length marks) where
  stays_open : (k : ℕ) → (k == x) ≡ false → is_open links marks k ≡ true → is_open links (set marks x true) k ≡ true
  stays_open k e h =
      let p = open_parts links marks k h in
      open_from links (set marks x true) k (Rattle.std.proofs.lemmas.List.get_or-set_other marks x k true false (differs k x e) ∙ p.0)
      (from_each (is_marked (set marks x true)) (links_at links k) (λ j a. stays_marked marks x j lt (each (is_marked marks) (links_at links k) j p.1 a)))

  -- a file that becomes open refers to the one that is valued
  becomes_open : (k : ℕ) → is_open links marks k ≡ false → is_open links (set marks x true) k ≡ true → is_among (links_at links k) x ≡ true
  becomes_open k closed h = elim (decide (is_among (links_at links k) x)) [
    | inl e ↦ e
    | inr e ↦ absurd (false≢true (sym closed ∙ still e))
  ]
    where
      p : (is_marked (set marks x true) k ≡ false) × (are_marked (set marks x true) (links_at links k) ≡ true)
      p = open_parts links (set marks x true) k h

      unmarked : is_marked marks k ≡ false
      unmarked = elim (decide (is_marked marks k)) [ inl m ↦ absurd (false≢true (sym p.0 ∙ stays_marked marks x k lt m)) | inr m ↦ m ]

      still : is_among (links_at links k) x ≡ false → is_open links marks k ≡ true
      still e = open_from links marks k unmarked (from_each (is_marked marks) (links_at links k) (λ j a. elim (was_marked marks x j (each (is_marked (set marks x true)) (links_at links k) j p.1 a)) [
        | inl m ↦ m
        | inr m ↦ absurd (false≢true (sym e ∙ subst (λ n. is_among (links_at links k) n ≡ true) m a))
      ]))

or_true : (a b : Bool) → a ≡ true → (a || b) ≡ true
or_true true b h = refl
or_true false b h = absurd (false≢true h)

pub open_next : (links users : List (List ℕ)) (marks : List Bool) (x : ℕ) (old popped new : BTreeSet ℕ) → AreUsers links users → AreOpen (length links) links marks old → x < length marks → x < length links →
    Updates nat_cmp old popped x false → AddsOpen links (set marks x true) (links_at users x) popped new → AreOpen (length links) links (set marks x true) new
open_next links users marks x old popped new u o lt less up a = record { within = within; each = λ k l. a k ∙ at k l (decide (k == x)) }
  where
    within : (k : ℕ) → has new k ≡ true → k < length links
    within k h = elim (Rattle.std.proofs.lemmas.Bool.or_cases (has popped k) (is_among (links_at users x) k && is_open links (set marks x true) k) (sym (a k) ∙ h)) [
      | inl e ↦ was k (decide (k == x)) e
      | inr e ↦ Rattle.dsdl_links.proofs.Stuck.a_file links k x (sym (u.refer k x) ∙ and_left (is_among (links_at users x) k) (is_open links (set marks x true) k) e)
    ]
      where
        was : (k : ℕ) → ((k == x) ≡ true) ⊎ ((k == x) ≡ false) → has popped k ≡ true → k < length links
        was k (inl e) h = let same = eqb-true k x e in omega arith
        was k (inr e) h = o.within k (sym (changed old popped x false up k ∙ ap (λ t. cond t false (has old k)) e) ∙ h)

    now : ℕ → Bool
    now = is_open links (set marks x true)

    at : (k : ℕ) → k < length links → ((k == x) ≡ true) ⊎ ((k == x) ≡ false) → (has popped k || (is_among (links_at users x) k && now k)) ≡ now k
    at k l (inl e) =
        let out : has popped k ≡ false = changed old popped x false up k ∙ ap (λ t. cond t false (has old k)) e in
        let closed : now k ≡ false = ap now (eqb-true k x e) ∙ marked_closed links (set marks x true) x (now_marked marks x lt) in
        or_false_is (has popped k) (is_among (links_at users x) k && now k) out ∙ ap (λ b. is_among (links_at users x) k && b) closed ∙ never (is_among (links_at users x) k) ∙ sym closed
      where
        never : (b : Bool) → (b && false) ≡ false
        never true = refl
        never false = refl
    at k l (inr e) = either (decide (is_open links marks k)) (decide (now k))
      where
        kept : has popped k ≡ is_open links marks k
        kept = changed old popped x false up k ∙ ap (λ t. cond t false (has old k)) e ∙ o.each k l

        either : (is_open links marks k ≡ true) ⊎ (is_open links marks k ≡ false) → (now k ≡ true) ⊎ (now k ≡ false) → (has popped k || (is_among (links_at users x) k && now k)) ≡ now k
        either (inl h) n = or_true (has popped k) (is_among (links_at users x) k && now k) (kept ∙ h) ∙ sym (stays_open links marks x lt k e h)
        either (inr h) (inl n) =
            or_false_is (has popped k) (is_among (links_at users x) k && now k) (kept ∙ h)
            ∙ ap (λ b. b && now k) (u.refer k x ∙ becomes_open links marks x lt k h n)
        either (inr h) (inr n) =
            or_false_is (has popped k) (is_among (links_at users x) k && now k) (kept ∙ h)
            ∙ ap (λ b. is_among (links_at users x) k && b) n ∙ never (is_among (links_at users x) k) ∙ sym n
          where
            never : (b : Bool) → (b && false) ≡ false
            never true = refl
            never false = refl
