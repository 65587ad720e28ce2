-- Full names and their numbers
use Rattle.std.proofs.Common.{◌≡◌, ℕ, zero, suc, ◌<◌, ◌≤◌, ◌+◌, ◌==◌, Bool, true, false, List, [], ◌∷◌, length, get_or, take, drop, Some, cond, refl, sym, ap, ◌∙◌, subst, arith, eq-eqb, inl, inr, ◌⊎◌, ◌||◌, ◌&&◌, not, min}
use Rattle.std.specs.Prelude.{unwrap_or}
use Rattle.std.specs.BTreeMap.{BTreeMap, get, Updates}
use Rattle.std.specs.List.{position_from, list_any}
use Rattle.std.specs.Ordering.{is_eq, nat_cmp}
use Rattle.std.specs.Cmp.Lexicographic.{slice_cmp}
use Rattle.std.specs.Str.{bytes_eq}
use Rattle.std.proofs.lemmas.Map.Text.{is_eq-slice_cmp}
use Rattle.std.proofs.lemmas.Bool.{false≢true}
use Rattle.std.proofs.lemmas.Bool.Decides.{nat_tests}
use Rattle.std.proofs.lemmas.List.Folds.{list_any_at}
use Rattle.std.proofs.lemmas.List.{get_or-map}
use Rattle.std.proofs.lemmas.Slice.Eq.{bytes_eq-Decides}
use Rattle.std.proofs.lemmas.List.{drop_more, drop_all}
use Rattle.dsdl_types.specs.declared.definition.Definition.{Definition}
use Rattle.dsdl_clash.specs.Clashes.{clashes_with, same_name, same_outlines, versions_clash}
use Rattle.dsdl_clash.specs.Names.{has_name, first_of_name, name_numbers}
use Rattle.dsdl_clash.specs.Kinds.{clash_of, first_rival}
use Rattle.dsdl_clash.specs.declared.clash.By.{By}
use Rattle.dsdl_clash.specs.declared.clash.By.TheVariants as by

-- the map has the definitions from i on
pub PlacedFrom : List Definition → ℕ → BTreeMap (List ℕ) ℕ → Type 0
PlacedFrom ds i places = (name : List ℕ) → get (slice_cmp nat_cmp) places name ≡ position_from (has_name name) i (drop i ds)

pub place_none : (ds : List Definition) (i : ℕ) (places : BTreeMap (List ℕ) ℕ) → places.entries ≡ [] → length ds ≤ i → PlacedFrom ds i places
unfolding PlacedFrom
place_none ds i places none le name =
    ap (Rattle.std.specs.Map.lookup (λ k. is_eq (slice_cmp nat_cmp name k))) none ∙ ap (position_from (has_name name) i) (sym (drop_all i ds le))

pub place_more : (ds : List Definition) (i : ℕ) (d : Definition) (places more : BTreeMap (List ℕ) ℕ) → PlacedFrom ds (i + 1) places → i < length ds → d ≡ get_or ds i d →
    Updates (slice_cmp nat_cmp) places more d.id.name (Some i) → PlacedFrom ds i more
unfolding PlacedFrom
place_more ds i d places more placed lt is u name =
    let front : drop i ds ≡ d ∷ drop (i + 1) ds = drop_more ds i d lt ∙ ap (λ f. f ∷ drop (i + 1) ds) (sym is) in
    u.0 name ∙ ap (λ b. cond b (Some i) (get (slice_cmp nat_cmp) places name)) (is_eq-slice_cmp d.id.name name)
    ∙ ap (λ o. cond (has_name name d) (Some i) o) (placed name) ∙ ap (position_from (has_name name) i) (sym front)

pub placed_all : (ds : List Definition) (places : BTreeMap (List ℕ) ℕ) → PlacedFrom ds 0 places → (name : List ℕ) → get (slice_cmp nat_cmp) places name ≡ first_of_name ds name
unfolding PlacedFrom
placed_all ds places h = h

decide : (b : Bool) → (b ≡ true) ⊎ (b ≡ false)
decide true = inl refl
decide false = inr refl

pub equal_names : (m n : List ℕ) → bytes_eq m n ≡ true → m ≡ n
equal_names m n h = (bytes_eq-Decides m n).0 h

pub names_equal : (m n : List ℕ) → m ≡ n → bytes_eq m n ≡ true
names_equal m n h = (bytes_eq-Decides m n).1 h

differ : (m n : List ℕ) → bytes_eq m n ≡ false → bytes_eq n m ≡ false
differ m n h = at (decide (bytes_eq n m))
  where
    at : (bytes_eq n m ≡ true) ⊎ (bytes_eq n m ≡ false) → bytes_eq n m ≡ false
    at (inl e) = absurd (false≢true (sym h ∙ names_equal m n (sym (equal_names n m e))))
    at (inr e) = e

-- the number of the first definition of a name, where the first of these has the number i
number : ℕ → List Definition → List ℕ → ℕ
number i ds name = unwrap_or (position_from (has_name name) i ds) 0

some_number : (i : ℕ) (ds : List Definition) (name : List ℕ) → list_any (has_name name) ds ≡ true → i ≤ number i ds name
unfolding number
some_number i [] name h = absurd (false≢true h)
some_number i (d ∷ ds) name h = at (has_name name d) refl (some_number (i + 1) ds name)
  where
    at : (b : Bool) → has_name name d ≡ b → (list_any (has_name name) ds ≡ true → i + 1 ≤ number (i + 1) ds name) → i ≤ number i (d ∷ ds) name
    at true e behind = let is : cond (has_name name d) (Some i) (position_from (has_name name) (i + 1) ds) ≡ Some i = ap (λ b. cond b (Some i) (position_from (has_name name) (i + 1) ds)) e in omega (arith, ap (λ o. unwrap_or o 0) is)
    at false e behind =
        let is : cond (has_name name d) (Some i) (position_from (has_name name) (i + 1) ds) ≡ position_from (has_name name) (i + 1) ds = ap (λ b. cond b (Some i) (position_from (has_name name) (i + 1) ds)) e in
        omega (arith, ap (λ o. unwrap_or o 0) is, behind (ap (λ b. b || list_any (has_name name) ds) (sym e) ∙ h))

unequal : (m n : ℕ) → m < n → (m == n) ≡ false
unequal m n h = grind (arith, nat_tests)

unequal_above : (m n : ℕ) → n < m → (m == n) ≡ false
unequal_above m n h = grind (arith, nat_tests)

-- the numbers of two names that definitions have are equal where the names are
same_number : (i : ℕ) (ds : List Definition) (m n : List ℕ) → list_any (has_name m) ds ≡ true → list_any (has_name n) ds ≡ true →
    (number i ds m == number i ds n) ≡ bytes_eq m n
unfolding number
same_number i [] m n h k = absurd (false≢true h)
same_number i (d ∷ ds) m n h k = at (decide (has_name m d)) (decide (has_name n d)) (same_number (i + 1) ds m n)
  where
    here : (name : List ℕ) → has_name name d ≡ true → number i (d ∷ ds) name ≡ i
    here name e = ap (λ b. unwrap_or (cond b (Some i) (position_from (has_name name) (i + 1) ds)) 0) e

    behind : (name : List ℕ) → has_name name d ≡ false → number i (d ∷ ds) name ≡ number (i + 1) ds name
    behind name e = ap (λ b. unwrap_or (cond b (Some i) (position_from (has_name name) (i + 1) ds)) 0) e

    any_behind : (name : List ℕ) → has_name name d ≡ false → list_any (has_name name) (d ∷ ds) ≡ true → list_any (has_name name) ds ≡ true
    any_behind name e a = ap (λ b. b || list_any (has_name name) ds) (sym e) ∙ a

    above : (name : List ℕ) → has_name name d ≡ false → list_any (has_name name) (d ∷ ds) ≡ true → i < number i (d ∷ ds) name
    above name e a = omega (arith, behind name e, some_number (i + 1) ds name (any_behind name e a))

    at : (has_name m d ≡ true) ⊎ (has_name m d ≡ false) → (has_name n d ≡ true) ⊎ (has_name n d ≡ false) →
        (list_any (has_name m) ds ≡ true → list_any (has_name n) ds ≡ true → (number (i + 1) ds m == number (i + 1) ds n) ≡ bytes_eq m n) →
        (number i (d ∷ ds) m == number i (d ∷ ds) n) ≡ bytes_eq m n
    at (inl e) (inl f) later =
        eq-eqb (number i (d ∷ ds) m) (number i (d ∷ ds) n) (here m e ∙ sym (here n f))
        ∙ sym (names_equal m n (sym (equal_names d.id.name m e) ∙ equal_names d.id.name n f))
    at (inl e) (inr f) later =
        unequal (number i (d ∷ ds) m) (number i (d ∷ ds) n) (omega (arith, here m e, above n f k)) ∙ sym (subst (λ x. bytes_eq x n ≡ false) (equal_names d.id.name m e) f)
    at (inr e) (inl f) later =
        unequal_above (number i (d ∷ ds) m) (number i (d ∷ ds) n) (omega (arith, here n f, above m e h))
        ∙ sym (differ n m (subst (λ x. bytes_eq x m ≡ false) (equal_names d.id.name n f) e))
    at (inr e) (inr f) later =
        ap (λ x. x == number i (d ∷ ds) n) (behind m e) ∙ ap (λ x. number (i + 1) ds m == x) (behind n f) ∙ later (any_behind m e h) (any_behind n f k)

-- the numbers at two places
pub same_number_at : (ds : List Definition) (i j : ℕ) (a b : Definition) → i < length ds → j < length ds → a ≡ get_or ds i a → b ≡ get_or ds j b →
    (get_or (name_numbers ds) i 0 == get_or (name_numbers ds) j 0) ≡ bytes_eq a.id.name b.id.name
unfolding number
same_number_at ds i j a b lt lu is at =
    let f : Definition → ℕ = λ d. number 0 ds d.id.name in
    let first : get_or (name_numbers ds) i 0 ≡ f a = get_or-map f ds i a 0 lt ∙ ap f (sym is) in
    let second : get_or (name_numbers ds) j 0 ≡ f b = get_or-map f ds j b 0 lu ∙ ap f (sym at) in
    ap (λ x. x == get_or (name_numbers ds) j 0) first ∙ ap (λ x. f a == x) second
    ∙ same_number 0 ds a.id.name b.id.name (list_any_at (has_name a.id.name) ds i a lt (ap (has_name a.id.name) (sym is) ∙ names_equal a.id.name a.id.name refl))
    (list_any_at (has_name b.id.name) ds j b lu (ap (has_name b.id.name) (sym at) ∙ names_equal b.id.name b.id.name refl))

-- before the first definition of a name none clashes by versions with one of this name
none_named : (i : ℕ) (ds : List Definition) (d : Definition) (k : ℕ) → i + k ≤ unwrap_or (position_from (has_name d.id.name) i ds) 0 → clashes_with versions_clash (take k ds) d ≡ false
none_named i ds d zero le = refl
none_named i [] d (suc k) le = refl
none_named i (x ∷ ds) d (suc k) le = at (same_name x d) refl (none_named (i + 1) ds d k)
  where
    others : Bool
    others = (x.id.major == d.id.major) && ((x.id.minor == d.id.minor) || (not (x.id.major == 0) && not (same_outlines x.parts d.parts)))

    behind : (b : Bool) → same_name x d ≡ b → i + suc k ≤ unwrap_or (cond b (Some i) (position_from (has_name d.id.name) (i + 1) ds)) 0
    behind b e = subst (λ c. i + suc k ≤ unwrap_or (cond c (Some i) (position_from (has_name d.id.name) (i + 1) ds)) 0) e le

    at : (b : Bool) → same_name x d ≡ b → (i + 1 + k ≤ unwrap_or (position_from (has_name d.id.name) (i + 1) ds) 0 → clashes_with versions_clash (take k ds) d ≡ false) → clashes_with versions_clash (x ∷ take k ds) d ≡ false
    at true e rest = absurd (let l : i + suc k ≤ i = behind true e in omega (arith, l))
    at false e rest =
        let l : i + suc k ≤ unwrap_or (position_from (has_name d.id.name) (i + 1) ds) 0 = behind false e in
        ap (λ b. (b && others) || clashes_with versions_clash (take k ds) d) e ∙ rest (omega (arith, l))

-- before the first rival of a definition none clashes with it
pub no_rival : (b : By) (ds : List Definition) (at : ℕ) (d : Definition) → at < length ds → d ≡ get_or ds at d → clashes_with (clash_of b) (take (first_rival b (name_numbers ds) at) ds) d ≡ false
no_rival by.Version ds at d lt is =
    let f : Definition → ℕ = λ e. unwrap_or (first_of_name ds e.id.name) 0 in
    let first : get_or (name_numbers ds) at 0 ≡ f d = get_or-map f ds at d 0 lt ∙ ap f (sym is) in
    none_named 0 ds d (min (get_or (name_numbers ds) at 0) at) (omega (arith, first))
no_rival by.Port ds at d lt is = refl
