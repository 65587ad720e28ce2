-- Flows at their numbers, and what one flow more makes of them.
use Rattle.std.proofs.Common.{◌≡◌, ◌∙◌, ℕ, nat_eq, Bool, true, false, cond, ◌&&◌, T, List, [], ◌∷◌, map, Some, None, Ordering, Less, Equal, Greater, is_eq, is_lt, eqb-true, refl, sym, ap, ap₂, subst}
use Rattle.std.specs.BTreeSet.{insert_key}
use Rattle.std.specs.Cmp.{IsTotalOrder}
use Rattle.std.specs.FinMap.Entries.{below_all, is_sorted}
use Rattle.std.specs.List.{AllByRecursion}
use Rattle.std.specs.List.Sorted.{IsStrictlySortedBy}
use Rattle.std.specs.Map.{keys_of, lookup}
use Rattle.std.specs.Ordering.{match_ordering, nat_cmp, ordering_reverse}
use Rattle.std.proofs.lemmas.Bool.{eqb-false}
use Rattle.std.proofs.lemmas.Cmp.{nat_eq_equiv}
use Rattle.std.proofs.lemmas.List.Elements.{All-from_recursion, All-weaker, recursion_from_All}
use Rattle.std.proofs.lemmas.Map.Views.{All-insert_key}
use Rattle.std.proofs.lemmas.Option.{none-some, same_Some}
use Rattle.bus_survey.specs.Flows.{flow_order}
use Rattle.bus_survey.specs.Ranks.{rank, IsRanked}
use Rattle.bus_survey.specs.declared.flow.Flow.{Flow}
use Rattle.bus_survey.specs.declared.flow_counts.FlowCounts.{FlowCounts}
use Rattle.bus_survey.proofs.Orders.{flow_order_exact}
use Rattle.bus_survey.proofs.Ranks.{numbers_agree, ranks_agree, same_flow}

-- what holds of each key holds of each with one more
pub all_inserted : {K : Type 0} (cmp : K → K → Ordering) (P : K → Type 0) (k : K) (ks : List K) → P k → AllByRecursion P ks → AllByRecursion P (insert_key cmp ks k)
all_inserted cmp P k ks new h = recursion_from_All P (insert_key cmp ks k) (All-insert_key cmp k P ks (All-from_recursion P ks h) new)

-- keys in their order stay so with one more
module _ {K : Type 0} {cmp : K → K → Ordering} (total : IsTotalOrder cmp) (k : K) where
  pub sorted_inserted : (ks : List K) → IsStrictlySortedBy cmp ks → IsStrictlySortedBy cmp (insert_key cmp ks k)
  unfolding IsStrictlySortedBy
  sorted_inserted [] s = (tt, tt)
  sorted_inserted (q ∷ qs) s = at (cmp k q) refl (sorted_inserted qs s.1)
    where
      at : (o : Ordering) → cmp k q ≡ o → IsStrictlySortedBy cmp (insert_key cmp qs k) → IsStrictlySortedBy cmp (match_ordering o (k ∷ q ∷ qs) (q ∷ qs) (q ∷ insert_key cmp qs k))
      at Less e rest =
          let above = All-weaker (λ y. cmp q y ≡ Less) (λ y. cmp k y ≡ Less) (λ y l. total.trans k q y e l) qs (All-from_recursion (λ y. cmp q y ≡ Less) qs s.0) in
          ((e, recursion_from_All (λ y. cmp k y ≡ Less) qs above), s)
      at Equal e rest = s
      at Greater e rest = (all_inserted cmp (λ y. cmp q y ≡ Less) k qs (total.antisymm q k ∙ ap ordering_reverse e) s.0, rest)

-- keys that ascend, as a test tells
module _ {K X : Type 0} (cmp : K → K → Ordering) where
  below : (k : K) (es : List (K × X)) → AllByRecursion (λ y. cmp k y ≡ Less) (keys_of es) → below_all cmp k es ≡ true
  below k [] h = refl
  below k (e ∷ es) h = ap₂ (λ o b. is_lt o && b) h.0 (below k es h.1)

  in_turn : (es : List (K × X)) → IsStrictlySortedBy cmp (keys_of es) → is_sorted cmp es ≡ true
  unfolding IsStrictlySortedBy
  in_turn [] s = refl
  in_turn (e ∷ es) s = ap₂ (λ a b. a && b) (below e.0 es s.0) (in_turn es s.1)

  pub rising : (es : List (K × X)) → IsStrictlySortedBy cmp (keys_of es) → T (is_sorted cmp es)
  rising es s = subst T (sym (in_turn es s)) tt

-- flows at their numbers, each with its counts
abbrev pub at_ranks : (Flow → FlowCounts) → List Flow → List (ℕ × (Flow × FlowCounts))
at_ranks counts ks = map (λ e. (rank e.0, e)) (map (λ k. (k, counts k)) ks)

-- numbers ascend where flows do
module _ (counts : Flow → FlowCounts) where
  above : (k : Flow) (ks : List Flow) → IsRanked k → AllByRecursion IsRanked ks → AllByRecursion (λ q. flow_order k q ≡ Less) ks → AllByRecursion (λ n. nat_cmp (rank k) n ≡ Less) (keys_of (at_ranks counts ks))
  above k [] small w h = tt
  above k (q ∷ qs) small w h = (ranks_agree k q small w.0 ∙ h.0, above k qs small w.1 h.1)

  pub ascend : (ks : List Flow) → AllByRecursion IsRanked ks → IsStrictlySortedBy flow_order ks → IsStrictlySortedBy nat_cmp (keys_of (at_ranks counts ks))
  unfolding IsStrictlySortedBy
  ascend [] w s = tt
  ascend (k ∷ ks) w s = (above k ks w.0 w.1 s.0, ascend ks w.1 s.1)

-- a flow at another number than k's is another flow
other_flow : (k q : Flow) (n : ℕ) → nat_eq (rank k) n ≡ false → nat_eq n (rank q) ≡ true → is_eq (flow_order k q) ≡ false
other_flow k q n miss at = by (is_eq (flow_order k q)) refl
  where
    by : (b : Bool) → is_eq (flow_order k q) ≡ b → is_eq (flow_order k q) ≡ false
    by false e = e
    by true e = absurd (eqb-false (rank k) n miss (ap rank (same_flow k q e) ∙ sym (eqb-true n (rank q) at)))

module _ (k : Flow) where
  module _ (counts : Flow → FlowCounts) where
    -- what stands at the number of a flow that comes
    pub looked_up_new : IsRanked k → (ks : List Flow) → AllByRecursion IsRanked ks → lookup (nat_eq (rank k)) (at_ranks counts (insert_key flow_order ks k)) ≡ Some (k, counts k)
    looked_up_new small [] w = ap (λ b. cond b (Some (k, counts k)) None) (nat_eq_equiv.refl (rank k))
    looked_up_new small (q ∷ qs) w = at (flow_order k q) refl (looked_up_new small qs w.1)
      where
        Finds : List Flow → Type 0
        Finds ks = lookup (nat_eq (rank k)) (at_ranks counts ks) ≡ Some (k, counts k)

        first : (ks : List Flow) → Finds (k ∷ ks)
        first ks = ap (λ b. cond b (Some (k, counts k)) (lookup (nat_eq (rank k)) (at_ranks counts ks))) (nat_eq_equiv.refl (rank k))

        at : (o : Ordering) → flow_order k q ≡ o → Finds (insert_key flow_order qs k) → Finds (match_ordering o (k ∷ q ∷ qs) (q ∷ qs) (q ∷ insert_key flow_order qs k))
        at Less e rest = first (q ∷ qs)
        at Equal e rest = subst (λ x. Finds (x ∷ qs)) (flow_order_exact k q e) (first qs)
        at Greater e rest =
            ap (λ b. cond b (Some (q, counts q)) (lookup (nat_eq (rank k)) (at_ranks counts (insert_key flow_order qs k)))) (numbers_agree k q small w.0 ∙ ap is_eq e)
            ∙ rest

    -- and at another number, as if it hadn't come
    passed_by : (n : ℕ) → nat_eq (rank k) n ≡ false → (ks : List Flow) → lookup (nat_eq n) (at_ranks counts (insert_key flow_order ks k)) ≡ lookup (nat_eq n) (at_ranks counts ks)
    passed_by n miss [] = ap (λ b. cond b (Some (k, counts k)) None) (nat_eq_equiv.symm n (rank k) ∙ miss)
    passed_by n miss (q ∷ qs) = at (flow_order k q) (passed_by n miss qs)
      where
        Finds : List Flow → Type 0
        Finds ks = lookup (nat_eq n) (at_ranks counts ks) ≡ lookup (nat_eq n) (at_ranks counts (q ∷ qs))

        at : (o : Ordering) → lookup (nat_eq n) (at_ranks counts (insert_key flow_order qs k)) ≡ lookup (nat_eq n) (at_ranks counts qs) → Finds (match_ordering o (k ∷ q ∷ qs) (q ∷ qs) (q ∷ insert_key flow_order qs k))
        at Less rest =
            ap (λ b. cond b (Some (k, counts k)) (lookup (nat_eq n) (at_ranks counts (q ∷ qs)))) (nat_eq_equiv.symm n (rank k) ∙ miss)
        at Equal rest = refl
        at Greater rest = ap (cond (nat_eq n (rank q)) (Some (q, counts q))) rest

    -- what stands at the number of a flow is that flow's
    pub looked_up : IsRanked k → (ks : List Flow) → AllByRecursion IsRanked ks → (v : Flow × FlowCounts) → lookup (nat_eq (rank k)) (at_ranks counts ks) ≡ Some v → v ≡ (k, counts k)
    looked_up small [] w v e = absurd (none-some v e)
    looked_up small (q ∷ qs) w v e = at (is_eq (flow_order k q)) refl (looked_up small qs w.1 v)
      where
        found : (b : Bool) → is_eq (flow_order k q) ≡ b → cond b (Some (q, counts q)) (lookup (nat_eq (rank k)) (at_ranks counts qs)) ≡ Some v
        found b is = ap (λ c. cond c (Some (q, counts q)) (lookup (nat_eq (rank k)) (at_ranks counts qs))) (sym (numbers_agree k q small w.0 ∙ is)) ∙ e

        at : (b : Bool) → is_eq (flow_order k q) ≡ b → (lookup (nat_eq (rank k)) (at_ranks counts qs) ≡ Some v → v ≡ (k, counts k)) → v ≡ (k, counts k)
        at true is rest = sym (ap (λ x. (x, counts x)) (same_flow k q is) ∙ same_Some (q, counts q) v (found true is))
        at false is rest = rest (found false is)

  module _ (before after : Flow → FlowCounts) (others : (q : Flow) → is_eq (flow_order k q) ≡ false → before q ≡ after q) where
    kept : (n : ℕ) → nat_eq (rank k) n ≡ false → (ks : List Flow) → lookup (nat_eq n) (at_ranks after ks) ≡ lookup (nat_eq n) (at_ranks before ks)
    kept n miss [] = refl
    kept n miss (q ∷ qs) = at (nat_eq n (rank q)) refl (kept n miss qs)
      where
        at : (b : Bool) → nat_eq n (rank q) ≡ b → lookup (nat_eq n) (at_ranks after qs) ≡ lookup (nat_eq n) (at_ranks before qs) → cond b (Some (q, after q)) (lookup (nat_eq n) (at_ranks after qs)) ≡ cond b (Some (q, before q)) (lookup (nat_eq n) (at_ranks before qs))
        at true here rest = ap (λ c. Some (q, c)) (sym (others q (other_flow k q n miss here)))
        at false there rest = rest

    -- at another number stands what stood there, where only the counts of the flow that comes change
    pub looked_up_other : (n : ℕ) → nat_eq (rank k) n ≡ false → (ks : List Flow) → lookup (nat_eq n) (at_ranks after (insert_key flow_order ks k)) ≡ lookup (nat_eq n) (at_ranks before ks)
    looked_up_other n miss ks = passed_by after n miss ks ∙ kept n miss ks
