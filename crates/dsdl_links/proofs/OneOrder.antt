-- Links give one order, or one first file that reaches itself
use Rattle.std.proofs.Common.{◌≡◌, ℕ, zero, suc, ◌+◌, ◌<◌, ◌≤◌, ◌==◌, Bool, true, false, List, [], ◌∷◌, ◌++◌, length, replicate, ◌⊎◌, inl, inr, refl, sym, ap, ◌∙◌, subst, arith, eqb, eq-eqb, set, append_assoc, MatchBool, ◌||◌}
use Rattle.std.specs.List.{list_all, IsDistinct, AllByRecursion}
use Rattle.std.proofs.lemmas.Bool.{false≢true, eqb-true, cases_order, or_cases}
use Rattle.std.proofs.lemmas.List.{length_push, length-set, length-replicate}
use Rattle.std.proofs.lemmas.Map.Steps.{length-le_from_distinct_below}
use Rattle.std.proofs.lemmas.Map.Keys.{IsDistinct-cons}
use Rattle.dsdl_links.specs.Laws.{HaveOrder, HaveCycle, HaveOneOrder}
use Rattle.dsdl_links.specs.Marks.{is_marked, unmarked, Marks}
use Rattle.dsdl_links.specs.Order.{is_among, links_at, AreWithin, is_ready, IsNext, Valued, begin, next, IsOrder, Reaches, refers, through, IsCycle}
use Rattle.dsdl_links.proofs.Among.{decide, among_push, each, or_left, or_right}
use Rattle.dsdl_links.proofs.Marking.{mark_none, mark_marked, mark_new}
use Rattle.dsdl_links.proofs.Readiness.{ready_parts, closed}
use Rattle.dsdl_links.proofs.Reaching.{Follows, follow_none, follow_more, fewer_left, follow_end}
use Rattle.dsdl_links.proofs.Stuck.{stuck, from_file, apart}

-- ---- one order
one_next : (links : List (List ℕ)) (v : List ℕ) (i j : ℕ) → IsNext links v i → IsNext links v j → i ≡ j
one_next links v i j h k = elim (cases_order i j) [
  | inl e ↦ e
  | inr (inl e) ↦ absurd (false≢true (sym (k.earlier i e) ∙ h.ready))
  | inr (inr e) ↦ absurd (false≢true (sym (h.earlier j e) ∙ k.ready))
]

longer : (v : List ℕ) (i : ℕ) → length (v ++ i ∷ []) ≡ 0 → ⊥
longer v i e = omega (arith, length_push v i)

one_valued : {links : List (List ℕ)} {a b : List ℕ} → Valued links a → Valued links b → length a ≡ length b → a ≡ b
one_valued begin begin e = refl
one_valued begin (next {valued} {i} d n) e = absurd (longer valued i (sym e))
one_valued (next {valued} {i} d n) begin e = absurd (longer valued i e)
one_valued {links} (next {valued = v} {i = i} d n) (next {valued = w} {i = j} f m) e =
    let same : v ≡ w = one_valued d f (omega (arith, e, length_push v i, length_push w j)) in
    let is : i ≡ j = one_next links w i j (subst (λ l. IsNext links l i) same n) m in
    ap (λ l. l ++ i ∷ []) same ∙ ap (λ k. w ++ k ∷ []) is

-- ---- no file of an order reaches itself
stays : {links : List (List ℕ)} {order : List ℕ} → Valued links order → {k j : ℕ} → is_among order k ≡ true → Reaches links k j → is_among order j ≡ true
stays d {k} {j} h (refers a) = closed d k j h a
stays d {k} {j} h (through {k = m} a r) = stays d (closed d k m h a) r

first_step : {links : List (List ℕ)} {i j : ℕ} → Reaches links i j → (m : ℕ) × (is_among (links_at links i) m ≡ true) × ((m ≡ j) ⊎ Reaches links m j)
first_step {j = j} (refers a) = (j, a, inl refl)
first_step (through {k = m} a r) = (m, a, inr r)

acyclic : {links : List (List ℕ)} {order : List ℕ} → Valued links order → (k : ℕ) → is_among order k ≡ true → Reaches links k k → ⊥
acyclic begin k h r = false≢true h
acyclic {links} (next {valued} {i} d n) k h r = elim (among_push valued i k h) [
  | inl e ↦ acyclic d k e r
  | inr e ↦
      let parts = ready_parts (is_among valued i) (list_all (is_among valued) (links_at links i)) n.ready in
      let (m, a, rest) = first_step (subst (λ x. Reaches links x x) e r) in
      let inside : is_among valued m ≡ true = each (is_among valued) (links_at links i) m parts.1 a in
      false≢true (sym parts.0 ∙ elim rest [ inl f ↦ subst (λ x. is_among valued x ≡ true) f inside | inr q ↦ stays d inside q ])
]

-- ---- an order has all files
among_next : {links : List (List ℕ)} {order : List ℕ} → Valued links order → (k : ℕ) → is_among order k ≡ true → k < length links
among_next begin k h = absurd (false≢true h)
among_next {links} (next {valued} {i} d n) k h = elim (among_push valued i k h) [ inl e ↦ among_next d k e | inr e ↦ subst (λ x. x < length links) (sym e) n.within ]

not_there : (xs : List ℕ) (x y : ℕ) → AllByRecursion (λ z. eqb y z ≡ false) xs → eqb y x ≡ false → AllByRecursion (λ z. eqb y z ≡ false) (xs ++ x ∷ [])
not_there [] x y h e = (e, tt)
not_there (z ∷ xs) x y h e = (h.0, not_there xs x y h.1 e)

unequal : (m n : ℕ) → (m == n) ≡ false → eqb n m ≡ false
unequal m n e = elim (decide (n == m)) [ inl f ↦ absurd (false≢true (sym e ∙ eq-eqb m n (sym (eqb-true n m f)))) | inr f ↦ f ]

neither : (a b : Bool) → (a || b) ≡ false → (a ≡ false) × (b ≡ false)
neither true b h = absurd (false≢true (sym h))
neither false b h = (refl, h)

distinct_push : (xs : List ℕ) (x : ℕ) → IsDistinct eqb xs → is_among xs x ≡ false → IsDistinct eqb (xs ++ x ∷ [])
unfolding IsDistinct
distinct_push [] x d h = (tt, tt)
distinct_push (z ∷ xs) x d h = let p = neither (x == z) (is_among xs x) h in (not_there xs x z d.0 (unequal x z p.0), distinct_push xs x d.1 p.1)

distinct : {links : List (List ℕ)} {order : List ℕ} → Valued links order → IsDistinct eqb order
unfolding IsDistinct
distinct begin = tt
distinct {links} (next {valued} {i} d n) = distinct_push valued i (distinct d) (ready_parts (is_among valued i) (list_all (is_among valued) (links_at links i)) n.ready).0

has_all : (links : List (List ℕ)) (order : List ℕ) → IsOrder links order → (i : ℕ) → i < length links → is_among order i ≡ true
has_all links order h i lt = elim (decide (is_among order i)) [
  | inl e ↦ e
  | inr e ↦
      let few : length (i ∷ order) ≤ length links = length-le_from_distinct_below (i ∷ order) (length links) (IsDistinct-cons eqb i order (apart order i e) (distinct h.valued))
      (λ k a. elim (or_cases (k == i) (is_among order k) a) [ inl f ↦ subst (λ x. x < length links) (sym (eqb-true k i f)) lt | inr f ↦ among_next h.valued k f ]) in
      absurd (omega (arith, h.all))
]

never_both : (links : List (List ℕ)) → HaveOrder links → HaveCycle links → ⊥
never_both links (order, h) (i, c) = acyclic h.valued i (has_all links order h i c.within) c.cycle

one_first : (links : List (List ℕ)) (i j : ℕ) → IsCycle links i → IsCycle links j → i ≡ j
one_first links i j h k = elim (cases_order i j) [
  | inl e ↦ e
  | inr (inl e) ↦ absurd (k.earlier i e h.cycle)
  | inr (inr e) ↦ absurd (h.earlier j e k.cycle)
]

-- ---- whether a file reaches itself
append_none : (xs : List ℕ) → xs ++ [] ≡ xs
append_none [] = refl
append_none (x ∷ xs) = ap (λ l. x ∷ l) (append_none xs)

record Marked (files : List ℕ) (old : List Bool) (waited : List ℕ) : Type 0 where
  marks : List Bool
  waits : List ℕ
  are : Marks files old marks waited waits
  count : length marks ≡ length old

mark_one : (x : ℕ) (front : List ℕ) (old : List Bool) (waited : List ℕ) → x < length old → Marked front old waited → Marked (front ++ x ∷ []) old waited
mark_one x front old waited lt m = elim (decide (is_marked m.marks x)) [
  | inl e ↦ record { marks = m.marks; waits = m.waits; are = mark_marked front x old m.marks waited m.waits m.are e; count = m.count }
  | inr e ↦ record {
    marks = set m.marks x true;
    waits = m.waits ++ x ∷ [];
    are = mark_new front x old m.marks waited m.waits m.are (omega (arith, m.count, lt)) e;
    count = length-set m.marks x true ∙ m.count;
  }
]

mark_each : (files front : List ℕ) (old : List Bool) (waited : List ℕ) → Marked front old waited → ((j : ℕ) → is_among files j ≡ true → j < length old) → Marked (front ++ files) old waited
mark_each [] front old waited m within = subst (λ l. Marked l old waited) (sym (append_none front)) m
mark_each (x ∷ files) front old waited m within =
    subst (λ l. Marked l old waited) (append_assoc front (x ∷ []) files)
    (mark_each files (front ++ x ∷ []) old waited (mark_one x front old waited (within x (or_left (x == x) (is_among files x) (eq-eqb x x refl))) m)
    (λ j a. within j (or_right (j == x) (is_among files j) a)))

mark_files : (files : List ℕ) (old : List Bool) (waited : List ℕ) → ((j : ℕ) → is_among files j ≡ true → j < length old) → Marked files old waited
mark_files files old waited within = mark_each files [] old waited (record { marks = old; waits = waited; are = mark_none old waited; count = refl }) within

-- the last of a list with those before it
last_of : (x : ℕ) (xs : List ℕ) → (front : List ℕ) × (y : ℕ) × (x ∷ xs ≡ front ++ y ∷ [])
last_of x [] = ([], x, refl)
last_of x (y ∷ xs) = let p = last_of y xs in (x ∷ p.0, p.1, ap (λ l. x ∷ l) p.2)

-- all files that a file reaches
record Explored (links : List (List ℕ)) (file : ℕ) : Type 0 where
  reached : List Bool
  all : Follows links file reached []

explore : (links : List (List ℕ)) → AreWithin links → (file left : ℕ) (reached : List Bool) (waits : List ℕ) → length reached ≡ length links → unmarked reached + length waits ≤ left → Follows links file reached waits → Explored links file
explore links within file left reached [] count few f = record { reached = reached; all = f }
explore links within file zero reached (x ∷ waits) count few f = absurd (omega arith)
explore links within file (suc left) reached (x ∷ waits) count few f =
    let (rest, y, parts) = last_of x waits in
    let m = mark_files (links_at links y) reached rest (λ j a. omega (arith, count, within y j a)) in
    let f' = subst (Follows links file reached) parts f in
    explore links within file left m.marks m.waits (m.count ∙ count)
    (omega (arith, fewer_left links file y reached m.marks rest m.waits f' m.are (within y), ap length parts))
    (follow_more links file y reached m.marks rest m.waits f' m.are (within y))

by_mark : (b : Bool) (A : Type 0) → MatchBool b A (A → ⊥) → A ⊎ (A → ⊥)
by_mark true A h = inl h
by_mark false A h = inr h

reaches_itself : (links : List (List ℕ)) → AreWithin links → (file : ℕ) → file < length links → Reaches links file file ⊎ (Reaches links file file → ⊥)
reaches_itself links within file lt =
    let start = follow_none links file (length links) lt in
    let e = explore links within file (unmarked (replicate (length links) false) + 1) (replicate (length links) false) (file ∷ []) (length-replicate (length links) false) (omega arith) start in
    by_mark (is_marked e.reached file) (Reaches links file file) (follow_end links file e.reached e.all)

-- ---- the first file that reaches itself, or none
first_or_none : (links : List (List ℕ)) → AreWithin links → (left n : ℕ) → n + left ≡ length links → ((k : ℕ) → k < n → Reaches links k k → ⊥) → HaveCycle links ⊎ ((k : ℕ) → k < length links → Reaches links k k → ⊥)
first_or_none links within zero n e none = inr (λ k lt. none k (omega arith))
first_or_none links within (suc left) n e none = at (reaches_itself links within n (omega arith)) (first_or_none links within left (suc n) (omega arith))
  where
    at : Reaches links n n ⊎ (Reaches links n n → ⊥) → (((k : ℕ) → k < suc n → Reaches links k k → ⊥) → HaveCycle links ⊎ ((k : ℕ) → k < length links → Reaches links k k → ⊥)) →
        HaveCycle links ⊎ ((k : ℕ) → k < length links → Reaches links k k → ⊥)
    at (inl r) rest = inl (n, record { within = omega arith; cycle = r; earlier = none })
    at (inr never) rest = rest (λ k lt. elim (cases_order k n) [ inl f ↦ subst (λ x. Reaches links x x → ⊥) (sym f) never | inr (inl f) ↦ none k f | inr (inr f) ↦ absurd (omega arith) ])

-- ---- the next file, or none
next_or_none : (links : List (List ℕ)) (v : List ℕ) (left n : ℕ) → n + left ≡ length links → ((k : ℕ) → k < n → is_ready links v k ≡ false) → ((i : ℕ) × IsNext links v i) ⊎ ((k : ℕ) → k < length links → is_ready links v k ≡ false)
next_or_none links v zero n e none = inr (λ k lt. none k (omega arith))
next_or_none links v (suc left) n e none = at (decide (is_ready links v n)) (next_or_none links v left (suc n) (omega arith))
  where
    at : (is_ready links v n ≡ true) ⊎ (is_ready links v n ≡ false) →
        (((k : ℕ) → k < suc n → is_ready links v k ≡ false) → ((i : ℕ) × IsNext links v i) ⊎ ((k : ℕ) → k < length links → is_ready links v k ≡ false)) →
        ((i : ℕ) × IsNext links v i) ⊎ ((k : ℕ) → k < length links → is_ready links v k ≡ false)
    at (inl r) rest = inl (n, record { within = omega arith; ready = r; earlier = none })
    at (inr never) rest = rest (λ k lt. elim (cases_order k n) [ inl f ↦ subst (λ x. is_ready links v x ≡ false) (sym f) never | inr (inl f) ↦ none k f | inr (inr f) ↦ absurd (omega arith) ])

order_on : (links : List (List ℕ)) → AreWithin links → ((i : ℕ) → Reaches links i i → ⊥) → (left : ℕ) (v : List ℕ) → Valued links v → length v + left ≡ length links → HaveOrder links
order_on links within none zero v d e = (v, record { valued = d; all = omega arith })
order_on links within none (suc left) v d e =
    elim (next_or_none links v (length links) 0 (omega arith) (λ k lt. absurd (omega arith))) [
      | inl (i, n) ↦ order_on links within none left (v ++ i ∷ []) (next d n) (omega (arith, length_push v i))
      | inr closed_all ↦ absurd (stuck links v within closed_all none (omega arith))
    ]

order_or_cycle : (links : List (List ℕ)) → AreWithin links → HaveOrder links ⊎ HaveCycle links
order_or_cycle links within = elim (first_or_none links within (length links) 0 (omega arith) (λ k lt. absurd (omega arith))) [
  | inl c ↦ inr c
  | inr none ↦ inl (order_on links within (λ i r. none i (from_file r) r) (length links) [] begin (omega arith))
]

pub one_order : HaveOneOrder
one_order = record {
  either = order_or_cycle;
  one_order = λ links a b h k. one_valued h.valued k.valued (h.all ∙ sym k.all);
  not_both = never_both;
  one_cycle = one_first;
}
