-- Of definitions in order, the version before another one stands in front of it.
use Rattle.std.proofs.Common.{◌≡◌, ◌↔◌, ◌∙◌, ◌⊎◌, inl, inr, ℕ, zero, suc, ◌+◌, ◌-◌, ◌<◌, ◌≤◌, ◌==◌, ◌&&◌, Bool, true, false, not, cond, List, [], ◌∷◌, length, get_or, drop, Contains, refl, sym, ap, subst, arith, is_lt}
use Rattle.std.specs.Prelude.{nat_lt}
use Rattle.std.specs.List.{filter, zip}
use Rattle.std.specs.Ordering.{nat_cmp, ordering_then, ordering_reverse}
use Rattle.std.specs.declared.cmp.Ordering.{Ordering}
use Rattle.std.specs.declared.cmp.Ordering.TheVariants.{Less, Equal, Greater}
use Rattle.std.specs.Cmp.{nat_cmp_is, unsigned_Decides}
use Rattle.std.specs.Cmp.Lexicographic.{slice_cmp}
use Rattle.std.proofs.lemmas.Bool.{and_parts, cases_Bool, false≢true}
use Rattle.std.proofs.lemmas.Bool.Decides.{nat_tests}
use Rattle.std.proofs.lemmas.Cmp.{nat_cmp_total, nat_list_cmp_total, tied_itself}
use Rattle.std.proofs.lemmas.List.{get_or_default, length-drop}
use Rattle.std.proofs.lemmas.Grind.{get_or_after_one}
use Rattle.std.proofs.lemmas.List.Sorted.{sorted_far, All-permutation, Contains-permutation, IsPermutation-sym}
use Rattle.std.proofs.lemmas.Map.Lookups.{exact_bytes}
use Rattle.std.proofs.lemmas.Slice.Eq.{bytes_eq-Decides}
use Rattle.std.proofs.lemmas.Slice.Zip.{get_or-zip, length-zip}
use Rattle.dsdl_names.specs.declared.TypeId.{TypeId}
use Rattle.dsdl_names.specs.Types.{type_order}
use Rattle.dsdl_types.specs.declared.definition.Definition.{Definition}
use Rattle.layout_text.specs.Namespaces.{IsByName}
use Rattle.layout_text.proofs.ByName.{before, before_ranks}
use Rattle.type_versions.specs.Laws.{HasType, HasPair, IsVersionBefore}
use Rattle.type_versions.specs.Pairs.{are_versions, has_versions, version_pairs}

-- ---- what versions of one type are
record Versioned (new old : TypeId) : Type 0 where
  name : new.name ≡ old.name
  major : new.major ≡ old.major
  some : (new.major == 0) ≡ false
  minor : old.minor < new.minor

lesser : (a b : ℕ) → nat_lt a b ≡ true → a < b
lesser a b e = grind (arith, nat_tests)

is_lesser : (a b : ℕ) → a < b → nat_lt a b ≡ true
is_lesser a b h = grind (arith, nat_tests)

not_lesser : (a b : ℕ) → nat_lt a b ≡ false → b ≤ a
not_lesser a b e = grind (arith, nat_tests)

not_true : (b : Bool) → not b ≡ true → b ≡ false
not_true true e = sym e
not_true false e = refl

not_false : (b : Bool) → b ≡ false → not b ≡ true
not_false true e = sym e
not_false false e = refl

and_both : (a b : Bool) → a ≡ true → b ≡ true → (a && b) ≡ true
and_both true b e f = f
and_both false b e f = e

versioned : (new old : TypeId) → are_versions new old ≡ true → Versioned new old
versioned new old e =
    let p = and_parts _ _ e in
    let q = and_parts _ _ p.1 in
    let r = and_parts _ _ q.1 in
    record {
      name = (bytes_eq-Decides new.name old.name).0 p.0;
      major = (unsigned_Decides new.major old.major).0 q.0;
      some = not_true _ r.0;
      minor = lesser old.minor new.minor r.1;
    }

are : (new old : TypeId) → Versioned new old → are_versions new old ≡ true
are new old v =
    and_both _ _ ((bytes_eq-Decides new.name old.name).1 v.name)
    (and_both _ _ ((unsigned_Decides new.major old.major).1 v.major) (and_both _ _ (not_false _ v.some) (is_lesser old.minor new.minor v.minor)))

-- ---- the order of types
same_names : (a b : List ℕ) → a ≡ b → slice_cmp nat_cmp a b ≡ Equal
same_names a b e = ap (slice_cmp nat_cmp a) (sym e) ∙ tied_itself nat_list_cmp_total a

less : (a b : ℕ) → a < b → nat_cmp a b ≡ Less
less a b h = sym (nat_cmp_is a b Less h)

equal : (a b : ℕ) → a ≡ b → nat_cmp a b ≡ Equal
equal a b h = sym (nat_cmp_is a b Equal h)

then_less : (p q r : Ordering) → p ≡ Equal → q ≡ Equal → r ≡ Less → is_lt (ordering_then p (ordering_then q r)) ≡ true
then_less Equal Equal Less a b c = refl
then_less p q r a b c = cc

-- an older version stands in front of a newer one
rises : (new old : TypeId) → are_versions new old ≡ true → is_lt (type_order old new) ≡ true
rises new old e =
    let v = versioned new old e in
    then_less _ _ _ (same_names old.name new.name (sym v.name)) (equal old.major new.major (sym v.major)) (less old.minor new.minor v.minor)

at_least : (a b : ℕ) → is_lt (nat_cmp a b) ≡ false → b ≤ a
at_least a b e = elim (cases_Bool (nat_lt a b)) [
  | inl t ↦ absurd (false≢true (sym e ∙ ap is_lt (less a b (lesser a b t))))
  | inr f ↦ not_lesser a b f
]

-- what isn't less than the one nor greater than the other, by the first part of an order and by the second
record Within (p r s : Ordering) : Type 0 where
  first : p ≡ Equal
  low : is_lt r ≡ false
  high : is_lt s ≡ false

within : (p q r s : Ordering) → q ≡ ordering_reverse p → is_lt (ordering_then p r) ≡ false → is_lt (ordering_then q s) ≡ false → Within p r s
within Less q r s e low high = absurd (false≢true (sym low))
within Equal q r s e low high = record { first = refl; low = low; high = subst (λ o. is_lt (ordering_then o s) ≡ false) e high }
within Greater q r s e low high = absurd (false≢true (sym (subst (λ o. is_lt (ordering_then o s) ≡ false) e high)))

record Between (d old new : TypeId) : Type 0 where
  name : d.name ≡ old.name
  major : d.major ≡ old.major
  low : old.minor ≤ d.minor
  high : d.minor ≤ new.minor

between : (d old new : TypeId) → Versioned new old → is_lt (type_order d old) ≡ false → is_lt (type_order new d) ≡ false → Between d old new
between d old new v low high =
    let names = within (slice_cmp nat_cmp d.name old.name) (slice_cmp nat_cmp new.name d.name) _ _ (ap (λ n. slice_cmp nat_cmp n d.name) v.name ∙ nat_list_cmp_total.antisymm old.name d.name) low high in
    let majors = within (nat_cmp d.major old.major) (nat_cmp new.major d.major) _ _ (ap (λ n. nat_cmp n d.major) v.major ∙ nat_cmp_total.antisymm old.major d.major) names.low names.high in
    let up : old.major ≤ d.major = at_least d.major old.major (ap is_lt majors.first) in
    let down : d.major ≤ old.major = at_least old.major d.major (ap is_lt (nat_cmp_total.antisymm old.major d.major) ∙ ap (λ o. is_lt (ordering_reverse o)) majors.first) in
    record {
      name = exact_bytes d.name old.name names.first;
      major = omega arith;
      low = at_least d.minor old.minor majors.low;
      high = at_least new.minor d.minor majors.high;
    }

made : (a b : TypeId) → a.name ≡ b.name → a.major ≡ b.major → a.minor ≡ b.minor → a ≡ b
made a b e f g = λ i. record { name = e i; major = f i; minor = g i }

-- ---- pairs of neighbours
filtered : {X : Type 0} (test : X → Bool) (xs : List X) (x : X) → Contains (filter test xs) x → Contains xs x × (test x ≡ true)
filtered test [] x (k, short, e) = absurd (omega arith)
filtered test (y ∷ xs) x h = step (test y) refl h (filtered test xs x)
  where
    later : Contains xs x × (test x ≡ true) → Contains (y ∷ xs) x × (test x ≡ true)
    later ((k, short, e), t) = ((suc k, omega arith, e), t)

    step : (b : Bool) → test y ≡ b → Contains (cond b (y ∷ filter test xs) (filter test xs)) x → (Contains (filter test xs) x → Contains xs x × (test x ≡ true)) → Contains (y ∷ xs) x × (test x ≡ true)
    step true t (zero, short, e) rest = ((0, omega arith, e), ap test (sym e) ∙ t)
    step true t (suc k, short, e) rest = later (rest (k, omega arith, e))
    step false t h rest = later (rest h)

kept : {X : Type 0} (test : X → Bool) (xs : List X) (x : X) → Contains xs x → test x ≡ true → Contains (filter test xs) x
kept test [] x (k, short, e) t = absurd (omega arith)
kept test (y ∷ xs) x (zero, short, e) t = step (test y) (ap test e ∙ t)
  where
    step : (b : Bool) → b ≡ true → Contains (cond b (y ∷ filter test xs) (filter test xs)) x
    step true u = (0, omega arith, e)
    step false u = absurd (false≢true u)
kept test (y ∷ xs) x (suc k, short, e) t = step (test y) (kept test xs x (k, omega arith, e) t)
  where
    step : (b : Bool) → Contains (filter test xs) x → Contains (cond b (y ∷ filter test xs) (filter test xs)) x
    step true (j, low, f) = (suc j, omega arith, f)
    step false h = h

-- the neighbours at a place
pub neighbour : (ds : List Definition) (k : ℕ) (p : Definition × Definition) → k + 1 < length ds → get_or (zip (drop 1 ds) ds) k p ≡ (get_or ds (k + 1) p.0, get_or ds k p.1)
neighbour ds k p h =
    let long : k < length (drop 1 ds) = omega (arith, length-drop 1 ds) in
    let e = get_or-zip (drop 1 ds) ds k p long (omega arith) in
    let f : get_or (drop 1 ds) k p.0 ≡ get_or ds (k + 1) p.0 = get_or_after_one ds k p.0 ∙ ap (λ n. get_or ds n p.0) (omega arith) in
    e ∙ ap (λ d. (d, get_or ds k p.1)) f

pair_at : (ds : List Definition) (k : ℕ) (a b : Definition) → k + 1 < length ds → get_or ds (k + 1) a ≡ a → get_or ds k b ≡ b → are_versions a.id b.id ≡ true → Contains (version_pairs ds) (a, b)
pair_at ds k a b h ea eb t =
    let low : k < length (zip (drop 1 ds) ds) = omega (arith, length-drop 1 ds, length-zip (drop 1 ds) ds) in
    let e = neighbour ds k (a, b) h ∙ (λ i. (ea i, eb i)) in
    kept has_versions (zip (drop 1 ds) ds) (a, b) (k, low, e) t

module _ (ds sorted : List Definition) (new old : TypeId) (order : IsByName ds sorted) where
  far : (i j : ℕ) (d : Definition) → i ≤ j → j < length sorted → is_lt (type_order (get_or sorted j d).id (get_or sorted i d).id) ≡ false
  far i j d le low = sorted_far before before_ranks sorted order.ascending i j d le low

  module _ (k : ℕ) (a b : Definition) (h : k + 1 < length sorted) (ea : get_or sorted (k + 1) a ≡ a) (eb : get_or sorted k b ≡ b) (t : are_versions a.id b.id ≡ true) where
    none : (e : Definition) → Contains sorted e → are_versions e.id b.id && are_versions a.id e.id ≡ false
    none e (j, low, ej) = elim (cases_Bool (are_versions e.id b.id && are_versions a.id e.id)) [
      | inl u ↦
          let p = and_parts _ _ u in
          absurd (side p.0 p.1 (leq j k))
      | inr u ↦ u
    ]
      where
        leq : (i k : ℕ) → (i ≤ k) ⊎ (k + 1 ≤ i)
        leq i k = grind arith

        at : (i : ℕ) (d c : Definition) → i < length sorted → get_or sorted i d ≡ d → get_or sorted i c ≡ d
        at i d c short f = get_or_default sorted i c d short ∙ f

        side : are_versions e.id b.id ≡ true → are_versions a.id e.id ≡ true → (j ≤ k) ⊎ (k + 1 ≤ j) → ⊥
        side u v (inl le) =
            let f = far j k e le (omega arith) in
            let g : is_lt (type_order b.id e.id) ≡ false = subst (λ d. is_lt (type_order d.id e.id) ≡ false) (at k b e (omega arith) eb) (subst (λ d. is_lt (type_order (get_or sorted k e).id d.id) ≡ false) ej f) in
            false≢true (sym g ∙ rises e.id b.id u)
        side u v (inr le) =
            let f = far (k + 1) j e le low in
            let g : is_lt (type_order e.id a.id) ≡ false = subst (λ d. is_lt (type_order e.id d.id) ≡ false) (at (k + 1) a e h ea) (subst (λ d. is_lt (type_order d.id (get_or sorted (k + 1) e).id) ≡ false) ej f) in
            false≢true (sym g ∙ rises a.id e.id v)

  -- ---- a pair is of neighbours, and so of a version and the one before it
  paired : HasPair (version_pairs sorted) new old → IsVersionBefore ds new old
  paired (p, has, en, eo) = go (filtered has_versions (zip (drop 1 sorted) sorted) p has)
    where
      back : (d : Definition) → Contains sorted d → Contains ds d
      back d h = Contains-permutation sorted ds d (IsPermutation-sym ds sorted order.same) h

      go : Contains (zip (drop 1 sorted) sorted) p × (are_versions p.0.id p.1.id ≡ true) → IsVersionBefore ds new old
      go ((k, low, e), t) =
          let h : k + 1 < length sorted = omega (arith, length-drop 1 sorted, length-zip (drop 1 sorted) sorted, low) in
          let is = sym (neighbour sorted k p h) ∙ e in
          let ea : get_or sorted (k + 1) p.0 ≡ p.0 = ap (λ q. q.0) is in
          let eb : get_or sorted k p.1 ≡ p.1 = ap (λ q. q.1) is in
          let apart = none k p.0 p.1 h ea eb t in
          record {
            has_new = (p.0, back p.0 (k + 1, h, ea), en);
            has_old = (p.1, back p.1 (k, omega arith, eb), eo);
            versions = subst (λ n. are_versions n old ≡ true) en (subst (λ o. are_versions p.0.id o ≡ true) eo t);
            none_between = λ j d short. (
                let x = get_or ds j d in
                let f = apart x (Contains-permutation ds sorted x order.same (j, short, get_or_default ds j x d short)) in
                subst (λ o. are_versions x.id o && are_versions new x.id ≡ false) eo (subst (λ n. are_versions x.id p.1.id && are_versions n x.id ≡ false) en f));
          }

  -- ---- and the one before it is its neighbour
  module _ (v : IsVersionBefore ds new old) (d : Definition) where
    last : (i j : ℕ) → i ≡ j + 1 → i < length sorted → (get_or sorted j d).id ≡ old → (get_or sorted i d).id ≡ new → HasPair (version_pairs sorted) new old
    last i j e low eo en =
        let a = get_or sorted i d in
        let b = get_or sorted j d in
        let h : j + 1 < length sorted = omega arith in
        let ea : get_or sorted (j + 1) a ≡ a = ap (λ k. get_or sorted k a) (sym e) ∙ get_or_default sorted i a d low in
        let eb : get_or sorted j b ≡ b = get_or_default sorted j b d (omega arith) in
        let t : are_versions a.id b.id ≡ true = subst (λ o. are_versions a.id o ≡ true) (sym eo) (subst (λ n. are_versions n old ≡ true) (sym en) v.versions) in
        ((a, b), pair_at sorted j a b h ea eb t, en, eo)

    walk : (n i j : ℕ) → i ≡ j + 1 + n → i < length sorted → (get_or sorted j d).id ≡ old → (get_or sorted i d).id ≡ new → HasPair (version_pairs sorted) new old
    walk zero i j e low eo en = last i j (omega arith) low eo en
    walk (suc n) i j e low eo en =
        let x = get_or sorted (j + 1) d in
        let b = between x.id old new (versioned new old v.versions) (subst (λ o. is_lt (type_order x.id o) ≡ false) eo (far j (j + 1) d (omega arith) (omega arith))) (subst (λ m. is_lt (type_order m x.id) ≡ false) en (far (j + 1) i d (omega arith) low)) in
        elim (cases_Bool (nat_lt old.minor x.id.minor)) [
          | inl t ↦ last (j + 1) j refl (omega arith) eo (reached x b (lesser old.minor x.id.minor t) (All-permutation (λ (y : Definition). are_versions y.id old && are_versions new y.id ≡ false) ds sorted order.same v.none_between (j + 1) d (omega arith)))
          | inr f ↦ walk n i (j + 1) (omega arith) low (made x.id old b.name b.major (let le = not_lesser old.minor x.id.minor f in let low = b.low in omega arith)) en
        ]
      where
        reached : (x : Definition) → Between x.id old new → old.minor < x.id.minor → are_versions x.id old && are_versions new x.id ≡ false → x.id ≡ new
        reached x b more apart =
            let w = versioned new old v.versions in
            let first : are_versions x.id old ≡ true = are x.id old (record { name = b.name; major = b.major; some = ap (λ m. m == 0) (b.major ∙ sym w.major) ∙ w.some; minor = more }) in
            elim (cases_Bool (nat_lt x.id.minor new.minor)) [
              | inl t ↦
                  let second : are_versions new x.id ≡ true = are new x.id (record { name = w.name ∙ sym b.name; major = w.major ∙ sym b.major; some = w.some; minor = lesser x.id.minor new.minor t }) in
                  absurd (false≢true (sym apart ∙ and_both _ _ first second))
              | inr f ↦ made x.id new (b.name ∙ sym w.name) (b.major ∙ sym w.major) (let le = not_lesser x.id.minor new.minor f in let high = b.high in omega arith)
            ]

  found : IsVersionBefore ds new old → HasPair (version_pairs sorted) new old
  found v = go (there v.has_new) (there v.has_old)
    where
      there : {id : TypeId} → HasType ds id → HasType sorted id
      there (d, has, e) = (d, Contains-permutation ds sorted d order.same has, e)

      apart : (i j : ℕ) → (i ≤ j) ⊎ (j + 1 ≤ i)
      apart i j = grind arith

      go : HasType sorted new → HasType sorted old → HasPair (version_pairs sorted) new old
      go (a, (i, low, ea), en) (b, (j, short, eb), eo) =
          let new_at : (get_or sorted i a).id ≡ new = ap (λ d. d.id) ea ∙ en in
          let old_at : (get_or sorted j a).id ≡ old = ap (λ d. d.id) (get_or_default sorted j a b short ∙ eb) ∙ eo in
          elim (apart i j) [
            | inl le ↦
                let f = far i j a le short in
                absurd (false≢true (sym (subst (λ o. is_lt (type_order o new) ≡ false) old_at (subst (λ n. is_lt (type_order (get_or sorted j a).id n) ≡ false) new_at f)) ∙ rises new old v.versions))
            | inr le ↦ walk v a (i - (j + 1)) i j (omega arith) low old_at new_at
          ]

pub pairs_are : (ds sorted : List Definition) (new old : TypeId) → IsByName ds sorted → HasPair (version_pairs sorted) new old ↔ IsVersionBefore ds new old
pairs_are ds sorted new old order = (paired ds sorted new old order, found ds sorted new old order)
