-- Of each type there is one entry at most, with the definitions that both namespaces have of it.
use Rattle.std.proofs.Common.{◌≡◌, ◌∙◌, ℕ, suc, ◌+◌, ◌<◌, ◌≤◌, Bool, true, false, cond, List, [], ◌∷◌, map, length, get_or, Option, Some, None, refl, sym, ap, subst, arith, add-one, is_lt, inl, inr}
use Rattle.std.specs.List.{filter}
use Rattle.std.specs.List.Sorted.{IsSortedByKey, IsStableByKey, ties}
use Rattle.std.specs.Cmp.{IsStrictWeakOrder, unsigned_Decides}
use Rattle.std.specs.declared.cmp.Ordering.{Ordering}
use Rattle.std.specs.declared.cmp.Ordering.TheVariants.{Less, Equal, Greater}
use Rattle.std.proofs.lemmas.Bool.{and_from, and_parts, cases_Bool, false≢true}
use Rattle.std.proofs.lemmas.Cmp.{tied_itself}
use Rattle.std.proofs.lemmas.List.MinMax.{ranks_by}
use Rattle.std.proofs.lemmas.List.Sorted.{sorted_far}
use Rattle.std.proofs.lemmas.Slice.Eq.{bytes_eq-Decides}
use Rattle.dsdl_names.specs.declared.TypeId.{TypeId}
use Rattle.dsdl_names.specs.Types.{type_order}
use Rattle.dsdl_types.specs.Finding.{same_id, definition_of}
use Rattle.dsdl_types.specs.declared.definition.Definition.{Definition}
use Rattle.dsdl_types.specs.declared.definition.Parts.TheVariants as parts
use Rattle.dsdl_types.specs.declared.schema.Schema.TheVariants as schemas
use Rattle.type_changes.specs.Entries.{Entry, paired, of_old, of_new, of_both}
use Rattle.type_changes.specs.Laws.{AreDistinct, entry_where, is_of}
use Rattle.type_changes.proofs.Pairing.{before, with_it, after}
use Rattle.type_changes.proofs.Swapped.{reversed, tied, type_total}

-- ---- types that are one
same_is : (a b : TypeId) → same_id a b ≡ true → a ≡ b
same_is a b e =
    let p = and_parts _ _ e in
    let q = and_parts _ _ p.1 in
    let name = (bytes_eq-Decides a.name b.name).0 p.0 in
    let major = (unsigned_Decides a.major b.major).0 q.0 in
    let minor = (unsigned_Decides a.minor b.minor).0 q.1 in
    λ i. record { name = name i; major = major i; minor = minor i }

same_self : (a : TypeId) → same_id a a ≡ true
same_self a =
    and_from _ _ ((bytes_eq-Decides a.name a.name).1 refl)
    (and_from _ _ ((unsigned_Decides a.major a.major).1 refl) ((unsigned_Decides a.minor a.minor).1 refl))

is_same : (a b : TypeId) → a ≡ b → same_id a b ≡ true
is_same a b e = subst (λ x. same_id a x ≡ true) e (same_self a)

-- ---- what is kept of a list
kept : {X : Type 0} (test : X → Bool) (x : X) (xs : List X) → test x ≡ true → filter test (x ∷ xs) ≡ x ∷ filter test xs
kept test x xs e = ap (λ b. cond b (x ∷ filter test xs) (filter test xs)) e

dropped : {X : Type 0} (test : X → Bool) (x : X) (xs : List X) → test x ≡ false → filter test (x ∷ xs) ≡ filter test xs
dropped test x xs e = ap (λ b. cond b (x ∷ filter test xs) (filter test xs)) e

filter_same : {X : Type 0} (f g : X → Bool) (xs : List X) → ((x : X) → f x ≡ g x) → filter f xs ≡ filter g xs
filter_same f g [] h = refl
filter_same f g (x ∷ xs) h = λ i. cond (h x i) (x ∷ filter_same f g xs h i) (filter_same f g xs h i)

-- ---- none of these stands in front of a definition
abbrev Behind : Definition → List Definition → Type 0
Behind d [] = Unit {0}
Behind d (x ∷ xs) = (is_lt (type_order x.id d.id) ≡ false) × Behind d xs

abbrev InRow : List Definition → Type 0
InRow [] = Unit {0}
InRow (d ∷ ds) = Behind d ds × InRow ds

abbrev in_front : Definition → Definition → Bool
in_front a b = is_lt (type_order a.id b.id)

front_ranks : IsStrictWeakOrder in_front
front_ranks = ranks_by type_total (λ (d : Definition). d.id)

behind_at : (d : Definition) (xs : List Definition) → ((k : ℕ) (c : Definition) → k < length xs → is_lt (type_order (get_or xs k c).id d.id) ≡ false) → Behind d xs
behind_at d [] h = tt
behind_at d (x ∷ xs) h = (h 0 x (omega arith), behind_at d xs (λ k c short. h (suc k) c (omega arith)))

sorted_tail : (x : Definition) (xs : List Definition) → IsSortedByKey (λ (d : Definition). d.id) type_order (x ∷ xs) → IsSortedByKey (λ (d : Definition). d.id) type_order xs
sorted_tail x xs up k d low short =
    let a : k + 1 ≡ suc k = add-one k in
    let b : suc k + 1 ≡ suc (k + 1) = omega arith in
    rw b at (up (suc k) d (omega arith) (omega arith))

in_row : (ds : List Definition) → IsSortedByKey (λ (d : Definition). d.id) type_order ds → InRow ds
in_row [] up = tt
in_row (d ∷ ds) up = (behind_at d ds (λ k c short. sorted_far in_front front_ranks (d ∷ ds) up 0 (suc k) c (omega arith) (omega arith)), in_row ds (sorted_tail d ds up))

-- ---- the definitions of one type
module _ (id : TypeId) where
  here : (d : Definition) (ds : List Definition) → same_id d.id id ≡ true → definition_of (d ∷ ds) id ≡ Some d
  here d ds e = ap (λ b. cond b (Some d) (definition_of ds id)) e

  later : (d : Definition) (ds : List Definition) → same_id d.id id ≡ false → definition_of (d ∷ ds) id ≡ definition_of ds id
  later d ds e = ap (λ b. cond b (Some d) (definition_of ds id)) e

  -- none is of a type that stands in front of all
  none_behind : (d : Definition) (xs : List Definition) → type_order id d.id ≡ Less → Behind d xs → definition_of xs id ≡ None
  none_behind d [] e h = refl
  none_behind d (x ∷ xs) e h = elim (cases_Bool (same_id x.id id)) [
    | inl s ↦
        let lt : is_lt (type_order x.id d.id) ≡ true = ap (λ a. is_lt (type_order a d.id)) (same_is x.id id s) ∙ ap is_lt e in
        absurd (false≢true (sym h.0 ∙ lt))
    | inr f ↦ later x xs f ∙ none_behind d xs e h.1
  ]

  none_from : (d : Definition) (xs : List Definition) → type_order id d.id ≡ Less → Behind d xs → definition_of (d ∷ xs) id ≡ None
  none_from d xs e h = elim (cases_Bool (same_id d.id id)) [
    | inl s ↦
        let tie : type_order id d.id ≡ Equal = ap (type_order id) (same_is d.id id s) ∙ tied_itself type_total id in
        absurd cc
    | inr f ↦ later d xs f ∙ none_behind d xs e h
  ]

  -- behind the one of this type is no other
  abbrev Once : List Definition → Type 0
  Once [] = Unit {0}
  Once (d ∷ ds) = (same_id d.id id ≡ true → definition_of ds id ≡ None) × Once ds

  none_kept : (ds : List Definition) → length (filter (is_of id) ds) ≡ 0 → definition_of ds id ≡ None
  none_kept [] e = refl
  none_kept (d ∷ ds) e = elim (cases_Bool (same_id d.id id)) [
    | inl s ↦ (let long : suc (length (filter (is_of id) ds)) ≡ 0 = sym (ap length (kept (is_of id) d ds s)) ∙ e in absurd (omega arith))
    | inr f ↦ later d ds f ∙ none_kept ds (sym (ap length (dropped (is_of id) d ds f)) ∙ e)
  ]

  once : (ds : List Definition) → length (filter (is_of id) ds) ≤ 1 → Once ds
  once [] h = tt
  once (d ∷ ds) h = (
    λ s. (let long : length (filter (is_of id) (d ∷ ds)) ≡ suc (length (filter (is_of id) ds)) = ap length (kept (is_of id) d ds s) in
        none_kept ds (omega arith)),
    once ds (elim (cases_Bool (same_id d.id id)) [
      | inl s ↦ (let long : length (filter (is_of id) (d ∷ ds)) ≡ suc (length (filter (is_of id) ds)) = ap length (kept (is_of id) d ds s) in omega arith)
      | inr f ↦ (let long : length (filter (is_of id) (d ∷ ds)) ≡ length (filter (is_of id) ds) = ap length (dropped (is_of id) d ds f) in omega arith)
    ]),
  )

  -- ---- the entries of one type
  abbrev of_type : Entry → Bool
  of_type e = same_id e.id id

  -- the first entry is of the type, and no other is
  first_alone : (e : Entry) (es : List Entry) (old new : Option Definition) → same_id e.id id ≡ true → filter of_type es ≡ entry_where id None None → e.old ≡ old → e.new ≡ new
      → filter of_type (e ∷ es) ≡ record { id = id; old = old; new = new } ∷ []
  first_alone e es old new s none o n =
      kept of_type e es s ∙ (λ i. record { id = same_is e.id id s i; old = o i; new = n i } ∷ none i)

  -- new ones alone
  of_news : (ns : List Definition) → Once ns → filter of_type (map (λ n. of_new n) ns) ≡ entry_where id None (definition_of ns id)
  of_news [] h = refl
  of_news (n ∷ ns) h = elim (cases_Bool (same_id n.id id)) [
    | inl s ↦
        first_alone (of_new n) (map (λ n. of_new n) ns) None (Some n) s (of_news ns h.1 ∙ ap (entry_where id None) (h.0 s)) refl refl
        ∙ ap (entry_where id None) (sym (here n ns s))
    | inr f ↦ dropped of_type (of_new n) (map (λ n. of_new n) ns) f ∙ of_news ns h.1 ∙ ap (entry_where id None) (sym (later n ns f))
  ]

  module _ (o : Definition) (os : List Definition) (behind : Behind o os) (alone : same_id o.id id ≡ true → definition_of os id ≡ None)
      (rest : (ns : List Definition) → InRow ns → Once ns → filter of_type (paired os ns) ≡ entry_where id (definition_of os id) (definition_of ns id)) where
    -- in front of the first new one
    less : (ns : List Definition) → InRow ns → Once ns → (same_id o.id id ≡ true → definition_of ns id ≡ None)
        → filter of_type (of_old o ∷ paired os ns) ≡ entry_where id (definition_of (o ∷ os) id) (definition_of ns id)
    less ns row h none = elim (cases_Bool (same_id o.id id)) [
      | inl s ↦
          first_alone (of_old o) (paired os ns) (Some o) None s (rest ns row h ∙ (λ i. entry_where id (alone s i) (none s i))) refl refl
          ∙ (λ i. entry_where id (sym (here o os s) i) (sym (none s) i))
      | inr f ↦ dropped of_type (of_old o) (paired os ns) f ∙ rest ns row h ∙ ap (λ x. entry_where id x (definition_of ns id)) (sym (later o os f))
    ]

    -- with it
    equal : (n : Definition) (ns : List Definition) → InRow (n ∷ ns) → Once (n ∷ ns) → o.id ≡ n.id
        → filter of_type (of_both o n ∷ paired os ns) ≡ entry_where id (definition_of (o ∷ os) id) (definition_of (n ∷ ns) id)
    equal n ns row h e = elim (cases_Bool (same_id o.id id)) [
      | inl s ↦
          let t : same_id n.id id ≡ true = ap (λ a. same_id a id) (sym e) ∙ s in
          first_alone (of_both o n) (paired os ns) (Some o) (Some n) s (rest ns row.1 h.1 ∙ (λ i. entry_where id (alone s i) (h.0 t i))) refl refl
          ∙ (λ i. entry_where id (sym (here o os s) i) (sym (here n ns t) i))
      | inr f ↦
          let g : same_id n.id id ≡ false = ap (λ a. same_id a id) (sym e) ∙ f in
          dropped of_type (of_both o n) (paired os ns) f ∙ rest ns row.1 h.1 ∙ (λ i. entry_where id (sym (later o os f) i) (sym (later n ns g) i))
    ]

    -- behind it
    greater : (n : Definition) (ns : List Definition) → Once (n ∷ ns) → type_order n.id o.id ≡ Less
        → filter of_type (paired (o ∷ os) ns) ≡ entry_where id (definition_of (o ∷ os) id) (definition_of ns id)
        → filter of_type (of_new n ∷ paired (o ∷ os) ns) ≡ entry_where id (definition_of (o ∷ os) id) (definition_of (n ∷ ns) id)
    greater n ns h e more = elim (cases_Bool (same_id n.id id)) [
      | inl s ↦
          let none : definition_of (o ∷ os) id ≡ None = none_from o os (ap (λ a. type_order a o.id) (sym (same_is n.id id s)) ∙ e) behind in
          first_alone (of_new n) (paired (o ∷ os) ns) None (Some n) s (more ∙ (λ i. entry_where id (none i) (h.0 s i))) refl refl
          ∙ (λ i. entry_where id (sym none i) (sym (here n ns s) i))
      | inr f ↦ dropped of_type (of_new n) (paired (o ∷ os) ns) f ∙ more ∙ ap (entry_where id (definition_of (o ∷ os) id)) (sym (later n ns f))
    ]

    by_order : (n : Definition) (ns : List Definition) (r : Ordering) → type_order o.id n.id ≡ r → InRow (n ∷ ns) → Once (n ∷ ns)
        → filter of_type (paired (o ∷ os) ns) ≡ entry_where id (definition_of (o ∷ os) id) (definition_of ns id)
        → filter of_type (paired (o ∷ os) (n ∷ ns)) ≡ entry_where id (definition_of (o ∷ os) id) (definition_of (n ∷ ns) id)
    by_order n ns Less e row h more =
        ap (filter of_type) (before o n (paired os) ns (sym e))
        ∙ less (n ∷ ns) row h (λ s. none_from n ns (ap (λ a. type_order a n.id) (sym (same_is o.id id s)) ∙ e) row.0)
    by_order n ns Equal e row h more = ap (filter of_type) (with_it o n (paired os) ns (sym e)) ∙ equal n ns row h (tied o.id n.id e)
    by_order n ns Greater e row h more = ap (filter of_type) (after o n (paired os) ns (sym e)) ∙ greater n ns h (reversed o.id n.id Greater e) more

    inner : (ns : List Definition) → InRow ns → Once ns → filter of_type (paired (o ∷ os) ns) ≡ entry_where id (definition_of (o ∷ os) id) (definition_of ns id)
    inner [] row h = less [] tt tt (λ s. refl)
    inner (n ∷ ns) row h = by_order n ns (type_order o.id n.id) refl row h (inner ns row.1 h.1)

  one_each : (os ns : List Definition) → InRow os → Once os → InRow ns → Once ns → filter of_type (paired os ns) ≡ entry_where id (definition_of os id) (definition_of ns id)
  one_each [] ns up h row g = of_news ns g
  one_each (o ∷ os) ns up h row g = inner o os up.0 h.0 (λ ns row g. one_each os ns up.1 h.1 row g) ns row g

-- ---- by name and version are the same definitions of each type
a_definition : TypeId → Definition
a_definition id = record { id = id; port = None; types = []; parts = parts.Message schemas.Bool }

apart : (a b : TypeId) (r : Ordering) → type_order a b ≡ r → (r ≡ Equal → ⊥) → same_id b a ≡ false
apart a b r e ne = elim (cases_Bool (same_id b a)) [
  | inl s ↦ (let tie : type_order a b ≡ Equal = ap (type_order a) (same_is b a s) ∙ tied_itself type_total a in absurd (ne (sym e ∙ tie)))
  | inr f ↦ f
]

tie_less : (d x : Definition) → in_front d x ≡ true → in_front x d ≡ false → ties in_front d x ≡ false
tie_less d x e f = rw e refl

tie_greater : (d x : Definition) → in_front d x ≡ false → in_front x d ≡ true → ties in_front d x ≡ false
tie_greater d x e f = rw (e, f) refl

tie_equal : (d x : Definition) → in_front d x ≡ false → in_front x d ≡ false → ties in_front d x ≡ true
tie_equal d x e f = rw (e, f) refl

tie_is : (d x : Definition) → ties in_front d x ≡ same_id x.id d.id
tie_is d x = by (type_order d.id x.id) refl
  where
    by : (r : Ordering) → type_order d.id x.id ≡ r → ties in_front d x ≡ same_id x.id d.id
    by Less e = tie_less d x (ap is_lt e) (ap is_lt (reversed d.id x.id Less e)) ∙ sym (apart d.id x.id Less e (λ ne. cc))
    by Equal e = tie_equal d x (ap is_lt e) (ap is_lt (reversed d.id x.id Equal e)) ∙ sym (is_same x.id d.id (sym (tied d.id x.id e)))
    by Greater e = tie_greater d x (ap is_lt e) (ap is_lt (reversed d.id x.id Greater e)) ∙ sym (apart d.id x.id Greater e (λ ne. cc))

by_type : (id : TypeId) (ds sorted : List Definition) → IsStableByKey (λ (d : Definition). d.id) type_order ds sorted → filter (is_of id) sorted ≡ filter (is_of id) ds
unfolding a_definition
by_type id ds sorted stable =
    let d = a_definition id in
    filter_same (is_of id) (ties in_front d) sorted (λ x. sym (tie_is d x)) ∙ stable d ∙ filter_same (ties in_front d) (is_of id) ds (tie_is d)

abbrev first_of : List Definition → Option Definition
first_of [] = None
first_of (d ∷ ds) = Some d

found : (id : TypeId) (ds : List Definition) → definition_of ds id ≡ first_of (filter (is_of id) ds)
found id [] = refl
found id (d ∷ ds) = by (same_id d.id id) (found id ds)
  where
    by : (b : Bool) → definition_of ds id ≡ first_of (filter (is_of id) ds) → cond b (Some d) (definition_of ds id) ≡ first_of (cond b (d ∷ filter (is_of id) ds) (filter (is_of id) ds))
    by true e = refl
    by false e = e

found_sorted : (id : TypeId) (ds sorted : List Definition) → IsStableByKey (λ (d : Definition). d.id) type_order ds sorted → definition_of sorted id ≡ definition_of ds id
found_sorted id ds sorted stable = found id sorted ∙ ap first_of (by_type id ds sorted stable) ∙ sym (found id ds)

once_sorted : (id : TypeId) (ds sorted : List Definition) → IsStableByKey (λ (d : Definition). d.id) type_order ds sorted → AreDistinct ds → Once id sorted
once_sorted id ds sorted stable h = once id sorted (subst (λ l. length l ≤ 1) (sym (by_type id ds sorted stable)) (h id))

pub one_entry : (old new olds news : List Definition) (id : TypeId) → IsSortedByKey (λ (d : Definition). d.id) type_order olds → IsStableByKey (λ (d : Definition). d.id) type_order old olds
    → IsSortedByKey (λ (d : Definition). d.id) type_order news → IsStableByKey (λ (d : Definition). d.id) type_order new news → AreDistinct old → AreDistinct new
    → filter (λ e. same_id e.id id) (paired olds news) ≡ entry_where id (definition_of old id) (definition_of new id)
one_entry old new olds news id up stable rise keeps h g =
    one_each id olds news (in_row olds up) (once_sorted id old olds stable h) (in_row news rise) (once_sorted id new news keeps g)
    ∙ (λ i. entry_where id (found_sorted id old olds stable i) (found_sorted id new news keeps i))
