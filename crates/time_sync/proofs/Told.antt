-- The laws: the master, its last pair, and the estimate.
use Rattle.std.proofs.Common.{◌≡◌, ℕ, ◌+◌, ◌%◌, eqb, leb, Bool, true, not, ◌&&◌, List, [], ◌∷◌, Option, Some, None, refl, sym, ap, ◌∙◌, ◌⊎◌, inl, inr}
use Rattle.std.specs.Prelude.{ℤ, pos, ◌-ℤ◌}
use Rattle.std.proofs.lemmas.Bool.{cases_Bool, and_parts, and_from, cond-true, cond-false, eqb-true, eqb-false, eq-eqb, ne_eqb, leb-true, le-leb, not-true, both_ways}
use Rattle.time_sync.specs.Pairs.{Message, of_source, last_offset}
use Rattle.time_sync.specs.Times.{is_online, master, estimate_of, estimate_by}
use Rattle.time_sync.specs.Laws.{IsPair, IsLastPair, SyncLaws}
use Rattle.time_sync.proofs.Least.{least_some, least_none, none_least}

abbrev pair_test : Message → Message → Bool
pair_test a b = eqb b.tid ((a.tid + 1) % 32) && (leb b.moment (a.moment + 2000000) && not (eqb b.stamp 0))

abbrev offset_of : Message → Message → ℤ
offset_of a b = pos b.stamp -ℤ pos a.moment

test_pair : (a b : Message) → pair_test a b ≡ true → IsPair a b
test_pair a b t =
    let p = and_parts (eqb b.tid ((a.tid + 1) % 32)) (leb b.moment (a.moment + 2000000) && not (eqb b.stamp 0)) t in
    let q = and_parts (leb b.moment (a.moment + 2000000)) (not (eqb b.stamp 0)) p.1 in
    (eqb-true b.tid ((a.tid + 1) % 32) p.0, leb-true b.moment (a.moment + 2000000) q.0, eqb-false b.stamp 0 (not-true (eqb b.stamp 0) q.1))

pair_test_of : (a b : Message) → IsPair a b → pair_test a b ≡ true
pair_test_of a b p =
    and_from (eqb b.tid ((a.tid + 1) % 32)) (leb b.moment (a.moment + 2000000) && not (eqb b.stamp 0)) (eq-eqb b.tid ((a.tid + 1) % 32) p.0)
    (and_from (leb b.moment (a.moment + 2000000)) (not (eqb b.stamp 0)) (le-leb b.moment (a.moment + 2000000) p.1) (ap not (ne_eqb b.stamp 0 p.2)))

some_inj : {A : Type 0} (a b : A) → Some a ≡ Some b → a ≡ b
some_inj a b e = cc

-- an offset is that of the last pair
offset_pair : (ms : List Message) (o : ℤ) → last_offset ms ≡ Some o → (a b : Message) × IsLastPair a b ms × (o ≡ offset_of a b)
offset_pair [] o e = cc
offset_pair (d ∷ []) o e = cc
offset_pair (d ∷ c ∷ older) o e = elim (cases_Bool (pair_test c d)) [
  | inl t ↦ (c, d, inl (test_pair c d t, refl, refl), some_inj o (offset_of c d) (sym e ∙ cond-true (pair_test c d) (Some (offset_of c d)) (last_offset (c ∷ older)) t))
  | inr f ↦
      let further = offset_pair (c ∷ older) o (sym (cond-false (pair_test c d) (Some (offset_of c d)) (last_offset (c ∷ older)) f) ∙ e) in
      (further.0, further.1, inr ((λ p. both_ways (pair_test c d) f (pair_test_of c d p)), further.2), further.3)
]

-- and the last pair gives it
pair_offset : (ms : List Message) (a b : Message) → IsLastPair a b ms → last_offset ms ≡ Some (offset_of a b)
pair_offset [] a b h = absurd h
pair_offset (d ∷ []) a b h = absurd h
pair_offset (d ∷ c ∷ older) a b (inl h) =
    cond-true (pair_test c d) (Some (offset_of c d)) (last_offset (c ∷ older)) (pair_test_of c d h.0)
    ∙ ap (λ x. Some (offset_of x d)) h.1
    ∙ ap (λ x. Some (offset_of a x)) h.2
pair_offset (d ∷ c ∷ older) a b (inr h) = elim (cases_Bool (pair_test c d)) [
  | inl t ↦ absurd (h.0 (test_pair c d t))
  | inr f ↦ cond-false (pair_test c d) (Some (offset_of c d)) (last_offset (c ∷ older)) f ∙ pair_offset (c ∷ older) a b h.1
]

none_unless : (o : Option ℤ) → ((z : ℤ) → o ≡ Some z → ⊥) → o ≡ None
none_unless None h = refl
none_unless (Some z) h = absurd (h z refl)

no_pair : (ms : List Message) → last_offset ms ≡ None → (a b : Message) → IsLastPair a b ms → ⊥
no_pair ms e a b h = let f = pair_offset ms a b h in cc

no_offset : (ms : List Message) → ((a b : Message) → IsLastPair a b ms → ⊥) → last_offset ms ≡ None
no_offset ms h = none_unless (last_offset ms) (λ z e. let p = offset_pair ms z e in h p.0 p.1 p.2)

estimate_none : (s : ℕ) (o : Option ℤ) → estimate_of s o ≡ None → o ≡ None
estimate_none s None e = refl
estimate_none s (Some z) e = cc

none_by : (o : Option ℕ) (past : List Message) → estimate_by o past ≡ None → (o ≡ None) ⊎ ((s : ℕ) × (o ≡ Some s) × (last_offset (of_source s past) ≡ None))
none_by None past e = inl refl
none_by (Some s) past e = inr (s, refl, estimate_none s (last_offset (of_source s past)) e)

by_none : (o : Option ℕ) (past : List Message) → (o ≡ None) ⊎ ((s : ℕ) × (o ≡ Some s) × (last_offset (of_source s past) ≡ None)) → estimate_by o past ≡ None
by_none o past (inl e) = ap (λ x. estimate_by x past) e
by_none o past (inr h) = ap (λ x. estimate_by x past) h.1 ∙ ap (estimate_of h.0) h.2

pub sync_laws : SyncLaws
sync_laws = record {
  master_online = λ m past s e. let l = least_some (is_online m past) 128 s e in (l.below, l.here);
  master_least = λ m past s t e h. let l = least_some (is_online m past) 128 s e in l.lesser t h;
  no_master = λ m past. (least_none (is_online m past) 128, none_least (is_online m past) 128);
  offset = λ ms o. (offset_pair ms o, λ h. pair_offset ms h.0 h.1 h.2 ∙ ap (λ z. Some z) (sym h.3));
  no_offset = λ ms. (no_pair ms, no_offset ms);
  none = λ m past. (none_by (master m past) past, by_none (master m past) past);
}
