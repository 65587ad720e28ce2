-- Types at the places of their files' numbers
use Rattle.std.proofs.Common.{◌≡◌, ◌≢◌, ℕ, suc, ◌+◌, ◌<◌, ◌≤◌, ◌==◌, Bool, true, false, not, List, [], ◌∷◌, ◌++◌, length, take, drop, get_or, set, map, replicate, Option, Some, None, cond, refl, sym, ap, ◌∙◌, subst, arith, eq-eqb, inl, inr, ◌⊎◌}
use Rattle.std.specs.Prelude.{filter_map, find}
use Rattle.std.specs.List.{All, range_with_len}
use Rattle.std.specs.Option.{option_map, option_or}
use Rattle.std.proofs.lemmas.Bool.{false≢true, eqb-true}
use Rattle.std.proofs.lemmas.List.{drop_more, drop_all, get_or-map, length-map, get_or-set_same, get_or-set_other, length-set, same_lists, get_or-replicate, length-replicate, get_or_default, length_push, length-take, take_more, set_past}
use Rattle.std.proofs.lemmas.Bool.{cases_lt}
use Rattle.std.proofs.lemmas.List.Elements.{All-cons}
use Rattle.std.proofs.lemmas.List.FromFn.{length-map-range_with_len, get_or-map-range_with_len}
use Rattle.dsdl_links.specs.declared.source.Source.{Source}
use Rattle.dsdl_types.specs.Definitions.{IsDefinition}
use Rattle.dsdl_types.specs.declared.definition.Definition.{Definition}
use Rattle.dsdl_resolve.specs.Placing.{AreNumbered, Places}
use Rattle.dsdl_resolve.specs.Progressing.{doubled}
use Rattle.dsdl_resolve.specs.Valuing.{Done, definition_of, definition_at, in_path_order, is_first, is_meant, meant}

decide : (b : Bool) → (b ≡ true) ⊎ (b ≡ false)
decide true = inl refl
decide false = inr refl

-- the type of a number among these with one in front
abbrev at_front : Bool → Done → List Done → ℕ → Option Definition
at_front b d ds n = option_map definition_of (cond b (Some d) (find (λ (e : Done). e.number == n) ds))

at_here : (d : Done) (ds : List Done) (n : ℕ) → (d.number == n) ≡ true → definition_at (d ∷ ds) n ≡ Some (definition_of d)
at_here d ds n e = ap (λ b. at_front b d ds n) e

at_behind : (d : Done) (ds : List Done) (n : ℕ) → (d.number == n) ≡ false → definition_at (d ∷ ds) n ≡ definition_at ds n
at_behind d ds n e = ap (λ b. at_front b d ds n) e

differs : (m n : ℕ) → (m == n) ≡ false → n ≢ m
differs m n h e = false≢true (sym h ∙ eq-eqb m n (sym e))

pub places_none : (slots : List (Option Definition)) → Places [] slots slots
places_none slots = record { count = refl; each = λ n lt. refl }

pub places_more : (d : Done) (ds : List Done) (old slots : List (Option Definition)) (number : ℕ) (x : Definition) → number ≡ d.number → x ≡ definition_of d → number < length slots → Places ds old slots →
    Places (d ∷ ds) old (set slots number (Some x))
places_more d ds old slots number x is same lt h = record {
  count = length-set slots number (Some x) ∙ h.count;
  each = λ n within. at n within (decide (d.number == n));
}
  where
    at : (n : ℕ) → n < length old → ((d.number == n) ≡ true) ⊎ ((d.number == n) ≡ false) → get_or (set slots number (Some x)) n None ≡ option_or (definition_at (d ∷ ds) n) (get_or old n None)
    at n within (inl e) =
        ap (λ m. get_or (set slots number (Some x)) m None) (sym (eqb-true d.number n e) ∙ sym is) ∙ get_or-set_same slots number (Some x) None lt
        ∙ ap Some same ∙ sym (ap (λ o. option_or o (get_or old n None)) (at_here d ds n e))
    at n within (inr e) =
        get_or-set_other slots number n (Some x) None (λ f. differs d.number n e (f ∙ is)) ∙ h.each n within
        ∙ sym (ap (λ o. option_or o (get_or old n None)) (at_behind d ds n e))

pub places_past : (d : Done) (ds : List Done) (old slots : List (Option Definition)) (number : ℕ) → number ≡ d.number → length slots ≤ number → Places ds old slots → Places (d ∷ ds) old slots
places_past d ds old slots number is le h = record {
  count = h.count;
  each = λ n within. at n within (decide (d.number == n));
}
  where
    at : (n : ℕ) → n < length old → ((d.number == n) ≡ true) ⊎ ((d.number == n) ≡ false) → get_or slots n None ≡ option_or (definition_at (d ∷ ds) n) (get_or old n None)
    at n within (inl e) = let same = eqb-true d.number n e in absurd (omega (arith, h.count))
    at n within (inr e) = h.each n within ∙ sym (ap (λ o. option_or o (get_or old n None)) (at_behind d ds n e))

pub places_set : (d : Done) (ds : List Done) (old slots : List (Option Definition)) (number : ℕ) (x : Definition) → number ≡ d.number → x ≡ definition_of d → Places ds old slots →
    Places (d ∷ ds) old (set slots number (Some x))
places_set d ds old slots number x is same h = elim (cases_lt number (length slots)) [
  | inl lt ↦ places_more d ds old slots number x is same lt h
  | inr le ↦ subst (Places (d ∷ ds) old) (sym (set_past slots number (Some x) le)) (places_past d ds old slots number is le h)
]

some_done : (done : List Done) → 0 < length done → Done
some_done [] lt = absurd (omega arith)
some_done (d ∷ done) lt = d

last_same : (xs ys : List Definition) (x y : Definition) → xs ++ x ∷ [] ≡ ys ++ y ∷ [] → (xs ≡ ys) × (x ≡ y)
last_same [] [] x y e = (refl, cc)
last_same [] (b ∷ []) x y e = absurd (cc)
last_same [] (b ∷ c ∷ ys) x y e = absurd (cc)
last_same (a ∷ []) [] x y e = absurd (cc)
last_same (a ∷ c ∷ xs) [] x y e = absurd (cc)
last_same (a ∷ xs) (b ∷ ys) x y e = let p = last_same xs ys x y (cc) in let head : a ≡ b = cc in (ap (λ h. h ∷ xs) head ∙ ap (λ l. b ∷ l) p.0, p.1)

-- the file at a place, with its number and its type
pub record StandsAt (done : List Done) (i number : ℕ) (x : Definition) : Type 0 where
  pub it : Done
  pub front : drop i done ≡ it ∷ drop (i + 1) done
  pub number_is : number ≡ it.number
  pub type_is : x ≡ definition_of it

pub stands_at : (done : List Done) (ns : List ℕ) (ds : List Definition) → AreNumbered done ns ds → (i : ℕ) (x : Definition) → i < length ds → x ≡ get_or ds i x → StandsAt done i (get_or ns i 0) x
stands_at done ns ds h i x lt is =
    let long : length ds ≡ length done = ap length h.types ∙ length-map done definition_of in
    let d = some_done done (omega arith) in
    let it = get_or done i d in
    let number : Done → ℕ = λ e. e.number in
    record {
      it = it;
      front = drop_more done i d (omega arith);
      number_is = ap (λ l. get_or l i 0) h.numbers ∙ get_or-map number done i d 0 (omega arith);
      type_is = is ∙ ap (λ l. get_or l i x) h.types ∙ get_or-map definition_of done i d x (omega arith);
    }

pub places_init : (done : List Done) (ns : List ℕ) (ds : List Definition) → AreNumbered done ns ds → (slots : List (Option Definition)) → Places (drop (length ds) done) slots slots
places_init done ns ds h slots =
    subst (λ l. Places l slots slots) (sym (drop_all (length ds) done (omega (arith, ap length h.types, length-map done definition_of)))) (places_none slots)

pub places_step : (done : List Done) (ns : List ℕ) (ds : List Definition) → AreNumbered done ns ds → (i : ℕ) (x : Definition) → i < length ds → x ≡ get_or ds i x → (old slots : List (Option Definition)) →
    Places (drop (i + 1) done) old slots → Places (drop i done) old (set slots (get_or ns i 0) (Some x))
places_step done ns ds h i x lt is old slots placed =
    let s = stands_at done ns ds h i x lt is in
    subst (λ l. Places l old (set slots (get_or ns i 0) (Some x))) (sym s.front) (places_set s.it (drop (i + 1) done) old slots (get_or ns i 0) x s.number_is s.type_is placed)

pub places_end : (done : List Done) (old slots : List (Option Definition)) (k : ℕ) → k ≡ 0 → Places (drop k done) old slots → Places done old slots
places_end done old slots k e h = subst (λ n. Places (drop n done) old slots) e h

-- what stands before the last of a front
pub front_less : (ds old new : List Definition) (x : Definition) → old ≡ take (length old) ds → old ≡ new ++ x ∷ [] →
    (length old ≡ length new + 1) × (new ≡ take (length new) ds) × (length new < length ds) × (x ≡ get_or ds (length new) x)
front_less ds old new x front popped =
    let long : length old ≡ length new + 1 = ap length popped ∙ length_push new x in
    let within : length new < length ds = omega (arith, long, ap length front, length-take (length old) ds) in
    let whole : new ++ x ∷ [] ≡ take (length new) ds ++ get_or ds (length new) x ∷ [] = sym popped ∙ front ∙ ap (λ n. take n ds) long ∙ take_more ds (length new) x within in
    let same = last_same new (take (length new) ds) x (get_or ds (length new) x) whole in
    (long, same.0, within, same.1)

-- ---- those that references mean, and the others
module _ (sources : List Source) (n : ℕ) where
  unmeant : (done : List Done) → is_first sources n ≡ false → definition_at (meant sources done) n ≡ None
  unmeant [] h = refl
  unmeant (d ∷ done) h = at (decide (is_meant sources d)) (decide (d.number == n)) (unmeant done h)
    where
      at : (is_meant sources d ≡ true) ⊎ (is_meant sources d ≡ false) → ((d.number == n) ≡ true) ⊎ ((d.number == n) ≡ false) → definition_at (meant sources done) n ≡ None → definition_at (meant sources (d ∷ done)) n ≡ None
      at (inl e) (inl f) rest = absurd (false≢true (sym h ∙ ap (is_first sources) (sym (eqb-true d.number n f)) ∙ e))
      at (inl e) (inr f) rest = ap (λ b. definition_at (cond b (d ∷ meant sources done) (meant sources done)) n) e ∙ at_behind d (meant sources done) n f ∙ rest
      at (inr e) f rest = ap (λ b. definition_at (cond b (d ∷ meant sources done) (meant sources done)) n) e ∙ rest

  -- the type of a number is among those that references mean, or among the others
  pub parted : (done : List Done) → definition_at done n ≡ option_or (definition_at (meant sources done) n) (definition_at (doubled sources done) n)
  parted [] = refl
  parted (d ∷ done) = at (decide (is_meant sources d)) (decide (d.number == n)) (parted done) (unmeant done)
    where
      with_meant : is_meant sources d ≡ true → meant sources (d ∷ done) ≡ d ∷ meant sources done
      with_meant e = ap (λ b. cond b (d ∷ meant sources done) (meant sources done)) e

      without : is_meant sources d ≡ false → meant sources (d ∷ done) ≡ meant sources done
      without e = ap (λ b. cond b (d ∷ meant sources done) (meant sources done)) e

      not_doubled : is_meant sources d ≡ true → doubled sources (d ∷ done) ≡ doubled sources done
      not_doubled e = ap (λ b. cond (not b) (d ∷ doubled sources done) (doubled sources done)) e

      with_doubled : is_meant sources d ≡ false → doubled sources (d ∷ done) ≡ d ∷ doubled sources done
      with_doubled e = ap (λ b. cond (not b) (d ∷ doubled sources done) (doubled sources done)) e

      at : (is_meant sources d ≡ true) ⊎ (is_meant sources d ≡ false) → ((d.number == n) ≡ true) ⊎ ((d.number == n) ≡ false) →
          definition_at done n ≡ option_or (definition_at (meant sources done) n) (definition_at (doubled sources done) n) →
          (is_first sources n ≡ false → definition_at (meant sources done) n ≡ None) →
          definition_at (d ∷ done) n ≡ option_or (definition_at (meant sources (d ∷ done)) n) (definition_at (doubled sources (d ∷ done)) n)
      at (inl e) (inl f) rest none =
          at_here d done n f ∙ sym (ap (λ l. option_or (definition_at l n) (definition_at (doubled sources (d ∷ done)) n)) (with_meant e)
          ∙ ap (λ o. option_or o (definition_at (doubled sources (d ∷ done)) n)) (at_here d (meant sources done) n f))
      at (inl e) (inr f) rest none =
          at_behind d done n f ∙ rest ∙ sym (ap (λ l. option_or (definition_at l n) (definition_at (doubled sources (d ∷ done)) n)) (with_meant e)
          ∙ ap (λ o. option_or o (definition_at (doubled sources (d ∷ done)) n)) (at_behind d (meant sources done) n f)
          ∙ ap (λ l. option_or (definition_at (meant sources done) n) (definition_at l n)) (not_doubled e))
      at (inr e) (inl f) rest none =
          at_here d done n f ∙ sym (ap (λ l. option_or (definition_at l n) (definition_at (doubled sources (d ∷ done)) n)) (without e)
          ∙ ap (λ o. option_or o (definition_at (doubled sources (d ∷ done)) n)) (none (ap (is_first sources) (sym (eqb-true d.number n f)) ∙ e))
          ∙ ap (λ l. definition_at l n) (with_doubled e) ∙ at_here d (doubled sources done) n f)
      at (inr e) (inr f) rest none =
          at_behind d done n f ∙ rest ∙ sym (ap (λ l. option_or (definition_at l n) (definition_at (doubled sources (d ∷ done)) n)) (without e)
          ∙ ap (λ l. option_or (definition_at (meant sources done) n) (definition_at l n)) (with_doubled e)
          ∙ ap (λ o. option_or (definition_at (meant sources done) n) o) (at_behind d (doubled sources done) n f))

-- ---- all places
kept : (f : ℕ → Option Definition) (ns : List ℕ) → filter_map (λ (slot : Option Definition). slot) (map f ns) ≡ filter_map f ns
kept f [] = refl
kept f (n ∷ ns) = ap (λ l. Rattle.std.specs.List.cons_option (f n) l) (kept f ns)

or_none : (o : Option Definition) → option_or o None ≡ o
or_none None = refl
or_none (Some d) = refl

pub all_placed : (sources : List Source) (done : List Done) (count : ℕ) (first second third : List (Option Definition)) → first ≡ replicate count None →
    Places (doubled sources done) first second → Places (meant sources done) second third →
    filter_map (λ (slot : Option Definition). slot) third ≡ in_path_order count done
all_placed sources done count first second third is others those =
    let long : length first ≡ count = ap length is ∙ length-replicate count None in
    ap (filter_map (λ (slot : Option Definition). slot))
    (same_lists third (map (definition_at done) (range_with_len 0 count)) (omega (arith, those.count, others.count, length-map-range_with_len (definition_at done) 0 count))
    (λ k d lt.
    let within : k < count = omega (arith, those.count, others.count) in
    get_or_default third k d None lt ∙ those.each k (omega (arith, others.count)) ∙ ap (option_or (definition_at (meant sources done) k)) (others.each k (omega arith)
    ∙ ap (option_or (definition_at (doubled sources done) k)) (ap (λ l. get_or l k None) is ∙ get_or-replicate count k None None within) ∙ or_none (definition_at (doubled sources done) k))
    ∙ sym (parted sources k done) ∙ sym (get_or-map-range_with_len (definition_at done) 0 count k k d within (omega arith))))
    ∙ kept (definition_at done) (range_with_len 0 count)

-- ---- types that keep the rules
found_keeps : (ds : List Done) (n : ℕ) (x : Definition) → All IsDefinition (map definition_of ds) → definition_at ds n ≡ Some x → IsDefinition x
found_keeps [] n x h e = absurd (cc)
found_keeps (d ∷ ds) n x h e = at (decide (d.number == n)) (found_keeps ds n x (λ k y lt. h (suc k) y (omega arith)))
  where
    at : ((d.number == n) ≡ true) ⊎ ((d.number == n) ≡ false) → (definition_at ds n ≡ Some x → IsDefinition x) → IsDefinition x
    at (inl f) rest = let same : Some (definition_of d) ≡ Some x = sym (at_here d ds n f) ∙ e in let is : definition_of d ≡ x = cc in subst IsDefinition is (h 0 x (omega arith))
    at (inr f) rest = rest (sym (at_behind d ds n f) ∙ e)

parts_keep : (o p : Option Definition) (x : Definition) → (o ≡ Some x → IsDefinition x) → (p ≡ Some x → IsDefinition x) → option_or o p ≡ Some x → IsDefinition x
parts_keep None p x h k e = k e
parts_keep (Some d) p x h k e = h e

all_keep : (f : ℕ → Option Definition) → ((n : ℕ) (x : Definition) → f n ≡ Some x → IsDefinition x) → (ns : List ℕ) → All IsDefinition (filter_map f ns)
all_keep f h [] = λ k d lt. absurd (omega arith)
all_keep f h (n ∷ ns) = at (f n) refl (all_keep f h ns)
  where
    at : (o : Option Definition) → f n ≡ o → All IsDefinition (filter_map f ns) → All IsDefinition (filter_map f (n ∷ ns))
    at None e rest = subst (All IsDefinition) (sym (ap (λ o. Rattle.std.specs.List.cons_option o (filter_map f ns)) e)) rest
    at (Some x) e rest = subst (All IsDefinition) (sym (ap (λ o. Rattle.std.specs.List.cons_option o (filter_map f ns)) e)) (All-cons IsDefinition x (filter_map f ns) (h n x e) rest)

pub in_order_keep : (sources : List Source) (done : List Done) (count : ℕ) → All IsDefinition (map definition_of (meant sources done)) → All IsDefinition (map definition_of (doubled sources done)) →
    All IsDefinition (in_path_order count done)
in_order_keep sources done count those others =
    all_keep (definition_at done)
    (λ n x e. parts_keep (definition_at (meant sources done) n) (definition_at (doubled sources done) n) x (found_keeps (meant sources done) n x those) (found_keeps (doubled sources done) n x others) (sym (parted sources n done) ∙ e))
    (range_with_len 0 count)
