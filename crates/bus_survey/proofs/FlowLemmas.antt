-- The flows of frames, and what is kept of each.
use Rattle.std.proofs.Common.{◌≡◌, ◌∙◌, ℕ, ◌≤◌, nat_eq, Bool, true, false, cond, List, [], ◌∷◌, length, Some, None, Result, Ok, Err, OnErr, map-id, eqb-true, refl, sym, ap, subst, subst₂, arith}
use Rattle.std.specs.BTreeMap.{is_at}
use Rattle.std.specs.FinMap.Entries.{same_entries}
use Rattle.std.specs.List.{AllByRecursion, IsDistinct}
use Rattle.std.specs.List.Sorted.{IsPermutation, IsSorted, IsStrictlySortedBy}
use Rattle.std.specs.Map.{keys_of, lookup, values_of}
use Rattle.std.specs.Ordering.{is_eq, nat_cmp}
use Rattle.std.proofs.lemmas.Cmp.{eq_by_cmp_equiv, nat_cmp_total, nat_eq_equiv, tied_itself}
use Rattle.std.proofs.lemmas.List.Sorted.{IsNonDecreasingBy-from_sort, IsPermutation-trans}
use Rattle.std.proofs.lemmas.Map.Keys.{IsDistinct-from_sorted, IsStrictlyIncreasing-from_distinct, sorted_from_strictly_increasing}
use Rattle.std.proofs.lemmas.Map.Lookups.{exact_unsigned, hash_map_IsPermutation_from_get}
use Rattle.std.proofs.lemmas.Option.{none-some}
use Rattle.std.proofs.lemmas.Simd.{map-map}
use Rattle.indexmap.specs.Layout.{hash_map}
use Rattle.indexmap.proofs.MapLemmas.{lookup_permutation}
use Rattle.tail_frame.specs.Frames.{FrameOf}
use Rattle.bus_survey.specs.Counts.{AreShort, kept_frames, table}
use Rattle.bus_survey.specs.Flows.{flow_of, flow_order, flows, is_of, of_flow}
use Rattle.bus_survey.specs.Ranks.{rank, ranked_table, AreRanked, IsRanked, IsTableOf}
use Rattle.bus_survey.specs.declared.flow.Flow.{Flow}
use Rattle.bus_survey.specs.declared.flow_counts.FlowCounts.{FlowCounts}
use Rattle.bus_survey.proofs.Orders.{flow_order_total}
use Rattle.bus_survey.proofs.Ranks.{eq_from_cmp, numbers_agree, same_flow}
use Rattle.bus_survey.proofs.Tables.{all_inserted, sorted_inserted, rising, ascend, looked_up, looked_up_new, looked_up_other}

-- the frames of a flow are some of all
pub few_of : (k : Flow) (past : List FrameOf) → length (of_flow k past) ≤ length past
few_of k [] = omega arith
few_of k (f ∷ past) = at (few_of k past) (is_of k f)
  where
    at : length (of_flow k past) ≤ length past → (b : Bool) → length (cond b (f ∷ of_flow k past) (of_flow k past)) ≤ length (f ∷ past)
    at rest true = omega (arith, rest)
    at rest false = omega (arith, rest)

pub short_of : (k : Flow) (past : List FrameOf) → AreShort past → AreShort (of_flow k past)
short_of k [] h = tt
short_of k (f ∷ past) h = at (short_of k past h.1) (is_of k f)
  where
    at : AreShort (of_flow k past) → (b : Bool) → AreShort (cond b (f ∷ of_flow k past) (of_flow k past))
    at rest true = (h.0, rest)
    at rest false = rest

-- what is kept of each flow of frames
abbrev pub kept_of : List FrameOf → Flow → FlowCounts
kept_of past flow = kept_frames (of_flow flow past)

flows_ranked : (past : List FrameOf) → AreRanked past → AllByRecursion IsRanked (flows past)
flows_ranked [] small = tt
flows_ranked (f ∷ past) small = all_inserted flow_order IsRanked (flow_of f) (flows past) small.0 (flows_ranked past small.1)

flows_sorted : (past : List FrameOf) → IsStrictlySortedBy flow_order (flows past)
unfolding IsStrictlySortedBy
flows_sorted [] = tt
flows_sorted (f ∷ past) = sorted_inserted flow_order_total (flow_of f) (flows past) (flows_sorted past)

numbers_sorted : (past : List FrameOf) → AreRanked past → IsStrictlySortedBy nat_cmp (keys_of (ranked_table past))
numbers_sorted past small = ascend (kept_of past) (flows past) (flows_ranked past small) (flows_sorted past)

numbers_distinct : (past : List FrameOf) → AreRanked past → IsDistinct nat_eq (keys_of (ranked_table past))
numbers_distinct past small =
    let numbers = keys_of (ranked_table past) in
    subst (λ e. IsDistinct e numbers) (λ i x y. sym (eq_from_cmp x y) i) (IsDistinct-from_sorted nat_cmp numbers (numbers_sorted past small))

module _ (f : FrameOf) (past : List FrameOf) where
  abbrev k : Flow
  k = flow_of f

  others : (q : Flow) → is_eq (flow_order k q) ≡ false → kept_of past q ≡ kept_of (f ∷ past) q
  others q e = ap (λ b. kept_frames (cond b (f ∷ of_flow q past) (of_flow q past))) (sym e)

  -- what the table has at other numbers than that of a frame's flow, and there
  at_other : (n : ℕ) → nat_eq (rank k) n ≡ false → lookup (nat_eq n) (ranked_table (f ∷ past)) ≡ lookup (nat_eq n) (ranked_table past)
  at_other n miss = looked_up_other k (kept_of past) (kept_of (f ∷ past)) others n miss (flows past)

  at_new : AreRanked (f ∷ past) → lookup (nat_eq (rank k)) (ranked_table (f ∷ past)) ≡ Some (k, kept_of (f ∷ past) k)
  at_new small = looked_up_new k (kept_of (f ∷ past)) small.0 (flows past) (flows_ranked past small.1)

  -- what the table has with one frame more
  pub at_number : AreRanked (f ∷ past) → (n : ℕ) → cond (nat_eq (rank k) n) (Some (k, kept_frames (f ∷ of_flow k past))) (lookup (nat_eq n) (ranked_table past)) ≡ lookup (nat_eq n) (ranked_table (f ∷ past))
  at_number small n = by (nat_eq (rank k) n) refl
    where
      counted : kept_frames (f ∷ of_flow k past) ≡ kept_of (f ∷ past) k
      counted = ap (λ o. kept_frames (cond (is_eq o) (f ∷ of_flow k past) (of_flow k past))) (sym (tied_itself flow_order_total k))

      by : (b : Bool) → nat_eq (rank k) n ≡ b → cond b (Some (k, kept_frames (f ∷ of_flow k past))) (lookup (nat_eq n) (ranked_table past)) ≡ lookup (nat_eq n) (ranked_table (f ∷ past))
      by true here =
          ap (λ c. Some (k, c)) counted ∙ sym (at_new small)
          ∙ ap (λ m. lookup (nat_eq m) (ranked_table (f ∷ past))) (eqb-true (rank k) n here)
      by false there = sym (at_other n there)

-- a flow at whose number nothing stands has no frame
none_of : (k : Flow) → IsRanked k → (past : List FrameOf) → AreRanked past → lookup (nat_eq (rank k)) (ranked_table past) ≡ None → of_flow k past ≡ []
none_of k ranked [] small e = refl
none_of k ranked (f ∷ past) small e = at (is_of k f) refl (none_of k ranked past small.1)
  where
    at : (b : Bool) → is_of k f ≡ b → (lookup (nat_eq (rank k)) (ranked_table past) ≡ None → of_flow k past ≡ []) → cond b (f ∷ of_flow k past) (of_flow k past) ≡ []
    at true is rest =
        absurd (none-some _ (sym e ∙ ap (λ q. lookup (nat_eq (rank q)) (ranked_table (f ∷ past))) (sym (same_flow (flow_of f) k is)) ∙ at_new f past small))
    at false is rest = rest (sym (at_other f past (rank k) (numbers_agree (flow_of f) k small.0 ranked ∙ is)) ∙ e)

abbrev Entries : Type 0
Entries = List (ℕ × (Flow × FlowCounts))

-- entries that change places tell of the same frames
pub moved : (past : List FrameOf) (old new : Entries) → IsTableOf past old → IsPermutation old new → IsTableOf past new
moved past old new is moves = (IsPermutation-trans (ranked_table past) old new is.0 moves, is.1)

module _ (past : List FrameOf) (entries : Entries) (is : IsTableOf past entries) (distinct : IsDistinct nat_eq (keys_of entries)) where
  same_at : (n : ℕ) → lookup (nat_eq n) entries ≡ lookup (nat_eq n) (ranked_table past)
  same_at n = lookup_permutation nat_eq_equiv (ranked_table past) entries is.0 distinct (nat_eq n) (nat_eq_equiv.congr n)

  module _ (k : Flow) (ranked : IsRanked k) where
    -- what is kept of a flow that is known
    pub known : (v : Flow × FlowCounts) → lookup (nat_eq (rank k)) entries ≡ Some v → v ≡ (k, kept_of past k)
    known v e = looked_up k (kept_of past) ranked (flows past) (flows_ranked past is.1) v (sym (same_at (rank k)) ∙ e)

    -- a flow that isn't known has no frame
    pub unknown : lookup (nat_eq (rank k)) entries ≡ None → of_flow k past ≡ []
    unknown e = none_of k ranked past is.1 (sym (same_at (rank k)) ∙ e)

  -- entries with one frame more
  pub heard : (f : FrameOf) → IsRanked (flow_of f) → (new : Entries) → IsDistinct nat_eq (keys_of new)
      → ((n : ℕ) → lookup (nat_eq n) new ≡ cond (nat_eq (rank (flow_of f)) n) (Some (flow_of f, kept_frames (f ∷ of_flow (flow_of f) past))) (lookup (nat_eq n) entries))
      → IsTableOf (f ∷ past) new
  heard f ranked new apart finds =
      let small : AreRanked (f ∷ past) = (ranked, is.1) in
      let same_entries_as =
      hash_map_IsPermutation_from_get nat_eq_equiv (hash_map (ranked_table (f ∷ past)) (tt {0}) 0) (hash_map new (tt {0}) 0) (numbers_distinct (f ∷ past) small) apart
      (λ n. sym (finds n ∙ ap (cond (nat_eq (rank (flow_of f)) n) (Some (flow_of f, kept_frames (f ∷ of_flow (flow_of f) past)))) (same_at n) ∙ at_number f past small n))
      (λ n. n) (λ x y e. eqb-true x y e) in
      (subst₂ IsPermutation (map-id (ranked_table (f ∷ past))) (map-id new) same_entries_as, small)

  -- entries in the order of their numbers
  pub in_order : IsSorted nat_cmp (keys_of entries) → values_of entries ≡ table past
  in_order sorted =
      let numbers = keys_of entries in
      let rises : IsStrictlySortedBy nat_cmp numbers =
      sorted_from_strictly_increasing numbers (IsStrictlyIncreasing-from_distinct numbers (IsNonDecreasingBy-from_sort (λ n. n) numbers sorted) distinct) in
      let same : entries ≡ ranked_table past =
      same_entries nat_cmp nat_cmp_total exact_unsigned entries (ranked_table past) (rising nat_cmp entries rises) (rising nat_cmp (ranked_table past) (numbers_sorted past is.1))
      (λ n. lookup_permutation (eq_by_cmp_equiv nat_cmp_total) (ranked_table past) entries is.0 (IsDistinct-from_sorted nat_cmp numbers rises) (is_at (nat_cmp n)) ((eq_by_cmp_equiv nat_cmp_total).congr n)) in
      ap values_of same ∙ map-map (λ e. e.1) (λ e. (rank e.0, e)) (table past) ∙ map-id (table past)

-- what holds at all holds at an error
pub at_error : {T E P : Type 0} (r : Result T E) → P → OnErr r P
at_error (Ok x) p = tt
at_error (Err e) p = p
