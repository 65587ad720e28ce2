-- How runs in order are merged one by one.
use Rattle.std.proofs.Common.{◌≡◌, ℕ, zero, suc, ◌+◌, ◌<◌, ◌≤◌, ◌⊎◌, ◌↔◌, inl, inr, true, false, List, [], ◌∷◌, ◌++◌, length, get_or, take, refl, sym, ◌∙◌, subst, arith, All, AllPairs, max, add-one, nat_lt, nat_cmp, is_lt, ◌==◌}
use Rattle.std.specs.Ordering.{ordering_then}
use Rattle.std.specs.declared.cmp.Ordering.TheVariants.{Less, Equal}
use Rattle.std.proofs.lemmas.Bool.Decides.{nat_tests}
use Rattle.std.proofs.lemmas.Bool.{cases_lt, false≢true}
use Rattle.std.proofs.lemmas.List.Elements.{All-push, All-tail, All-head, All-nil, All-cons, All-weaker, All-get_or}
use Rattle.std.proofs.lemmas.List.Quantifiers.{all_pairs_push}
use Rattle.std.proofs.lemmas.List.{take_more}
use Rattle.std.specs.List.Sorted.{IsPermutation}
use Rattle.std.proofs.lemmas.List.Sorted.{All-permutation, list_any-IsPermutation}
use Rattle.bit_length.specs.declared.run.Run.{Run}
use Rattle.bit_length.specs.Lengths.{Same}
use Rattle.bit_length.specs.Runs.{IsRun, IsBefore, IsAtMost, InRun, InSome, AreRuns, MergesInto, IsMerged, TakesRun, in_run}
use Rattle.bit_length.proofs.MemberLemmas.{InSome-push, InSome-from_test, test_from_InSome}
use Rattle.bit_length.proofs.SetLemmas.{no_run}

-- two runs that touch, as one
abbrev pub joined : Run → Run → Run
joined last next = record { residue = last.residue; first = last.first; last = max last.last next.last }

joined_is : (s : ℕ) (a b : Run) → a.first ≤ a.last → a.first ≤ b.first → b.residue ≡ a.residue → b.first ≤ a.last + 1 → (n : ℕ) → InRun s (joined a b) n ↔ (InRun s a n ⊎ InRun s b n)
joined_is s a b oa ob same touch n = (there, back)
  where
    there : InRun s (joined a b) n → InRun s a n ⊎ InRun s b n
    there (q, low, high, e) = elim (cases_lt a.last q) [
      | inl h ↦ inr (q, omega arith, omega arith, omega arith)
      | inr h ↦ inl (q, low, h, e)
    ]

    back : InRun s a n ⊎ InRun s b n → InRun s (joined a b) n
    back (inl (q, low, high, e)) = (q, low, omega arith, e)
    back (inr (q, low, high, e)) = (q, omega arith, omega arith, omega arith)

joined_run : (s : ℕ) (a b : Run) → IsRun s a → IsRun s b → b.residue ≡ a.residue → IsRun s (joined a b)
joined_run s a b (x, y, z) (x', y', z') same = (
  x,
  omega arith,
  elim (cases_lt a.last b.last) [
    | inl h ↦ let e : max a.last b.last ≡ b.last = omega arith in rw e (omega arith)
    | inr h ↦ let e : max a.last b.last ≡ a.last = omega arith in rw e z
  ],
)

each_last : (s : ℕ) (others : List Run) (last : Run) → All (IsRun s) (others ++ last ∷ []) → IsRun s last
each_last s [] last all = All-head (IsRun s) last [] all
each_last s (r ∷ others) last all = each_last s others last (All-tail (IsRun s) r (others ++ last ∷ []) all)

each_other : (s : ℕ) (others : List Run) (last : Run) → All (IsRun s) (others ++ last ∷ []) → All (IsRun s) others
each_other s [] last all = All-nil (IsRun s)
each_other s (r ∷ others) last all =
    All-cons (IsRun s) r others (All-head (IsRun s) r (others ++ last ∷ []) all) (each_other s others last (All-tail (IsRun s) r (others ++ last ∷ []) all))

-- the sets at both ends of a list with one more run
one_more : (s : ℕ) (taken xs ys : List Run) (x y next : Run) → Same (InSome s (xs ++ x ∷ [])) (InSome s taken) → ((n : ℕ) → InSome s (ys ++ y ∷ []) n ↔ (InSome s (xs ++ x ∷ []) n ⊎ InRun s next n)) → Same (InSome s (ys ++ y ∷ [])) (InSome s (taken ++ next ∷ []))
one_more s taken xs ys x y next same more n = (
  λ h. (InSome-push s taken next n).1 (elim ((more n).0 h) as (λ _. InSome s taken n ⊎ InRun s next n) [
    | inl k ↦ inl ((same n).0 k)
    | inr k ↦ inr k
  ]),
  λ h. (more n).1 (elim ((InSome-push s taken next n).0 h) as (λ _. InSome s (xs ++ x ∷ []) n ⊎ InRun s next n) [
    | inl k ↦ inl ((same n).1 k)
    | inr k ↦ inr k
  ]),
)

pub take_joined : (others : List Run) (last next : Run) → next.residue ≡ last.residue → next.first ≤ last.last + 1 → (s : ℕ) (taken : List Run) → MergesInto s taken others last → IsRun s next → IsAtMost last next → MergesInto s (taken ++ next ∷ []) others (joined last next)
take_joined others last next same touch s taken m run most = record {
  same = one_more s taken others others last (joined last next) next m.same more;
  each = All-push (IsRun s) others (joined last next) (each_other s others last m.each) (joined_run s last next lr run same);
  apart = m.apart;
  before = All-weaker (λ r. IsBefore r last) (λ r. IsBefore r (joined last next)) (λ r h. h) others m.before;
}
  where
    lr : IsRun s last
    lr = each_last s others last m.each

    low : IsAtMost last next → last.first ≤ next.first
    low (inl h) = absurd (omega arith)
    low (inr h) = h.1

    more : (n : ℕ) → InSome s (others ++ joined last next ∷ []) n ↔ (InSome s (others ++ last ∷ []) n ⊎ InRun s next n)
    more n =
        let j = joined_is s last next lr.1 (low most) same touch n in (
          λ h. elim ((InSome-push s others (joined last next) n).0 h) [
            | inl k ↦ inl ((InSome-push s others last n).1 (inl k))
            | inr k ↦ elim (j.0 k) [ inl i ↦ inl ((InSome-push s others last n).1 (inr i)) | inr i ↦ inr i ]
          ],
          λ h. (InSome-push s others (joined last next) n).1 (elim h as (λ _. InSome s others n ⊎ InRun s (joined last next) n) [
            | inl k ↦ elim ((InSome-push s others last n).0 k) as (λ _. InSome s others n ⊎ InRun s (joined last next) n) [ inl i ↦ inl i | inr i ↦ inr (j.1 (inl i)) ]
            | inr k ↦ inr (j.1 (inr k))
          ]),
        )

pub take_next : (others : List Run) (last next : Run) → ((next.residue ≡ last.residue) × (next.first ≤ last.last + 1) → ⊥) → (s : ℕ) (taken : List Run) → MergesInto s taken others last → IsRun s next → IsAtMost last next → MergesInto s (taken ++ next ∷ []) (others ++ last ∷ []) next
take_next others last next apart s taken m run most = record {
  same = one_more s taken others (others ++ last ∷ []) last next next m.same (λ n. InSome-push s (others ++ last ∷ []) next n);
  each = All-push (IsRun s) (others ++ last ∷ []) next m.each run;
  apart = all_pairs_push IsBefore others last m.apart (λ k d lt. m.before k d lt);
  before = All-push (λ r. IsBefore r next) others last (All-weaker (λ r. IsBefore r last) (λ r. IsBefore r next) (λ r h. further r h most) others m.before) (after most);
}
  where
    lr : IsRun s last
    lr = each_last s others last m.each

    after : IsAtMost last next → IsBefore last next
    after (inl h) = inl h
    after (inr h) = elim (cases_lt last.last next.first) [
      | inl k ↦ inr (h.0, k)
      | inr k ↦ absurd (apart (omega arith, omega arith))
    ]

    further : (r : Run) → IsBefore r last → IsAtMost last next → IsBefore r next
    further r (inl h) (inl k) = inl (omega arith)
    further r (inl h) (inr k) = inl (omega arith)
    further r (inr h) (inl k) = inl (omega arith)
    further r (inr h) (inr k) = inr (omega arith, omega arith)

-- ---- the loop's ends

pub merge_none : (s : ℕ) (first : Run) → IsRun s first → MergesInto s (first ∷ []) [] first
merge_none s first run = record {
  same = λ n. (λ h. h, λ h. h);
  each = All-cons (IsRun s) first [] run (All-nil (IsRun s));
  apart = λ i j d lt len. absurd (omega arith);
  before = All-nil (λ r. IsBefore r first);
}

pub merge_all : (s : ℕ) (taken others : List Run) (last : Run) → MergesInto s taken others last → AreRuns s (others ++ last ∷ []) × Same (InSome s (others ++ last ∷ [])) (InSome s taken)
merge_all s taken others last m =
    (record { each = m.each; apart = all_pairs_push IsBefore others last m.apart (λ k d lt. m.before k d lt) }, m.same)

-- ---- the order of runs

at_most : (a b : Run) → is_lt (ordering_then (nat_cmp b.residue a.residue) (ordering_then (nat_cmp b.first a.first) (nat_cmp b.last a.last))) ≡ false → IsAtMost a b
at_most a b e = elim (cases_lt a.residue b.residue) [
  | inl h ↦ inl h
  | inr h ↦ elim (cases_lt b.residue a.residue) [
    | inl k ↦ absurd (false≢true (sym e ∙ below k))
    | inr k ↦ inr (
      omega arith,
      elim (cases_lt b.first a.first) [
        | inl l ↦ absurd (false≢true (sym e ∙ then' (omega arith) l))
        | inr l ↦ l
      ],
    )
  ]
]
  where
    less : (x y : ℕ) → x < y → nat_cmp x y ≡ Less
    less x y lt = let t : nat_lt x y ≡ true = grind (arith, nat_tests) in rw t refl

    equal : (x y : ℕ) → x ≡ y → nat_cmp x y ≡ Equal
    equal x y f =
        let t : nat_lt x y ≡ false = grind (arith, nat_tests) in
        let u : (x == y) ≡ true = grind (arith, nat_tests) in rw (t, u) refl

    below : b.residue < a.residue → is_lt (ordering_then (nat_cmp b.residue a.residue) (ordering_then (nat_cmp b.first a.first) (nat_cmp b.last a.last))) ≡ true
    below k = rw (less b.residue a.residue k) refl

    then' : b.residue ≡ a.residue → b.first < a.first → is_lt (ordering_then (nat_cmp b.residue a.residue) (ordering_then (nat_cmp b.first a.first) (nat_cmp b.last a.last))) ≡ true
    then' f k = rw (equal b.residue a.residue f, less b.first a.first k) refl

at_most_join : (a b c : Run) → IsAtMost a b → IsAtMost b c → IsAtMost a c
at_most_join a b c (inl h) (inl k) = inl (omega arith)
at_most_join a b c (inl h) (inr k) = inl (omega arith)
at_most_join a b c (inr h) (inl k) = inl (omega arith)
at_most_join a b c (inr h) (inr k) = inr (omega arith, omega arith)

-- from neighbours to any two
pub in_order : (runs : List Run) → ((k : ℕ) (d : Run) → k + 1 < length runs → is_lt (ordering_then (nat_cmp (get_or runs (k + 1) d).residue (get_or runs k d).residue) (ordering_then (nat_cmp (get_or runs (k + 1) d).first (get_or runs k d).first) (nat_cmp (get_or runs (k + 1) d).last (get_or runs k d).last))) ≡ false) → AllPairs IsAtMost runs
in_order runs next i zero d lt len = absurd (omega arith)
in_order runs next i (suc j) d lt len = elim (cases_lt i j) [
  | inl h ↦ at_most_join (get_or runs i d) (get_or runs j d) (get_or runs (suc j) d) (in_order runs next i j d h (omega arith)) (one j (omega arith))
  | inr h ↦ let e : j ≡ i = omega arith in subst (λ k. IsAtMost (get_or runs k d) (get_or runs (suc j) d)) e (one j (omega arith))
]
  where
    one : (k : ℕ) → k + 1 < length runs → IsAtMost (get_or runs k d) (get_or runs (suc k) d)
    one k l = subst (λ m. IsAtMost (get_or runs k d) (get_or runs m d)) (add-one k) (at_most (get_or runs k d) (get_or runs (k + 1) d) (next k d l))

-- ---- the loop

get_or_any : (xs : List Run) (m : ℕ) (x y : Run) → m < length xs → get_or xs m x ≡ get_or xs m y
get_or_any [] m x y l = absurd (omega arith)
get_or_any (z ∷ xs) zero x y l = refl
get_or_any (z ∷ xs) (suc m) x y l = get_or_any xs m x y (omega arith)

pub order_from : (runs : List Run) (i : ℕ) (a : Run) (d : Run) → AllPairs IsAtMost runs → i < length runs → a.residue ≡ (get_or runs i d).residue → a.first ≤ (get_or runs i d).first → (k : ℕ) (e : Run) → i ≤ k → k < length runs → IsAtMost a (get_or runs k e)
order_from runs i a d order lt same le k e low len = elim (cases_lt i k) [
  | inl h ↦ at_most_join a (get_or runs i e) (get_or runs k e) here (order i k e h len)
  | inr h ↦ let f : i ≡ k = omega arith in subst (λ m. IsAtMost a (get_or runs m e)) f here
]
  where
    here : IsAtMost a (get_or runs i e)
    here = rw (get_or_any runs i e d lt) (inr (same, le))

-- one more run of a list is taken
pub takes_at : (runs others new_others : List Run) (i : ℕ) (last next new_last : Run) → i < length runs → next ≡ get_or runs i no_run → IsAtMost last next → TakesRun others last next new_others new_last →
    (s : ℕ) → All (IsRun s) runs → MergesInto s (take i runs) others last → MergesInto s (take (i + 1) runs) new_others new_last
takes_at runs others new_others i last next new_last lt is most takes s all m =
    let run : IsRun s next = subst (IsRun s) (sym is) (All-get_or (IsRun s) runs i no_run lt all) in
    rw (take_more runs i no_run lt) (subst (λ r. MergesInto s (take i runs ++ r ∷ []) new_others new_last) is (takes s (take i runs) m run most))

-- ---- the order of the runs doesn't matter

pub merged_in_order : (runs others : List Run) → IsPermutation runs others → (new : List Run) → IsMerged others new → IsMerged runs new
merged_in_order runs others p new merged s all =
    let w = merged s (All-permutation (IsRun s) runs others p all) in
    (w.0, λ n. (λ h. back n ((w.1 n).0 h), λ h. (w.1 n).1 (there n h)))
  where
    positive : (rs : List Run) (n : ℕ) → All (IsRun s) rs → InSome s rs n → 0 < s
    positive [] n a h = absurd h
    positive (r ∷ rs) n a h = omega (arith, (All-head (IsRun s) r rs a).0)

    there : (n : ℕ) → InSome s runs n → InSome s others n
    there n h = InSome-from_test s others n (positive runs n all h) (sym (list_any-IsPermutation (in_run s n) runs others p) ∙ test_from_InSome s runs n all h)

    back : (n : ℕ) → InSome s others n → InSome s runs n
    back n h =
        let a = All-permutation (IsRun s) runs others p all in
        InSome-from_test s runs n (positive others n a h) (list_any-IsPermutation (in_run s n) runs others p ∙ test_from_InSome s others n a h)
