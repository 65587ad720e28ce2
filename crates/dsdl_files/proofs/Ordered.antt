-- Lists of paths in their order.
use Rattle.std.proofs.Common.{◌≡◌, ◌∙◌, inl, inr, ℕ, Bool, true, false, ◌&&◌, T, List, [], ◌∷◌, refl, sym, ap, subst, map}
use Rattle.std.proofs.lemmas.Map.Keys.{sorted_head, sorted_tail}
use Rattle.std.specs.declared.cmp.Ordering.{Ordering}
use Rattle.std.specs.declared.cmp.Ordering.TheVariants.{Less, Equal, Greater}
use Rattle.std.specs.Ordering.{is_lt, is_eq}
use Rattle.std.specs.Cmp.Lexicographic.{nat_list_cmp_total}
use Rattle.std.proofs.lemmas.Cmp.{tied_itself}
use Rattle.std.specs.List.{AllByRecursion}
use Rattle.std.specs.List.Sorted.{IsStrictlySortedBy}
use Rattle.std.specs.FinMap.Entries.{is_sorted, below_all}
use Rattle.dsdl_files.specs.Order.{by_bytes, IsAscending}
use Rattle.dsdl_files.proofs.Members.{In}

-- a path is below another
abbrev pub Before : List ℕ → List ℕ → Type 0
Before p q = by_bytes p q ≡ Less

not_less : {P : Type 0} → Equal ≡ Less → P
not_less e = absurd (subst T (ap is_eq e) tt)

pub before_itself : {P : Type 0} (p q : List ℕ) → p ≡ q → Before p q → P
before_itself p q e l = not_less (sym (tied_itself nat_list_cmp_total p) ∙ ap (by_bytes p) e ∙ l)

pub before_both : {P : Type 0} (p q : List ℕ) → Before p q → Before q p → P
before_both p q l g = before_itself p p refl (nat_list_cmp_total.trans p q p l g)

pub before_then : (p q r : List ℕ) → Before p q → Before q r → Before p r
before_then p q r l g = nat_list_cmp_total.trans p q r l g

of_each : (P : List ℕ → Type 0) (ps : List (List ℕ)) (q : List ℕ) → AllByRecursion P ps → In q ps → P q
of_each P [] q a i = absurd i
of_each P (p ∷ ps) q a i = elim i [ inl h ↦ subst P (sym h) a.0 | inr t ↦ of_each P ps q a.1 t ]

pub head_before : (p : List ℕ) (ps : List (List ℕ)) (q : List ℕ) → IsAscending (p ∷ ps) → In q ps → Before p q
head_before p ps q a i = of_each (Before p) ps q (sorted_head by_bytes p ps a) i

pub tail_ascends : (p : List ℕ) (ps : List (List ℕ)) → IsAscending (p ∷ ps) → IsAscending ps
tail_ascends p ps a = sorted_tail by_bytes p ps a

-- ---- two lists in order with the same elements are equal

no_element : {P : Type 0} (p : List ℕ) → In p [] → P
no_element p i = absurd i

same_tail : (p : List ℕ) (ps qs : List (List ℕ)) → IsAscending (p ∷ ps) → ((x : List ℕ) → In x (p ∷ ps) → In x (p ∷ qs)) → (x : List ℕ) → In x ps → In x qs
same_tail p ps qs a f x i = elim (f x (inr i)) [
  | inl h ↦ before_itself p x (sym h) (head_before p ps x a i)
  | inr t ↦ t
]

same_head : (p q : List ℕ) (ps qs : List (List ℕ)) → IsAscending (p ∷ ps) → IsAscending (q ∷ qs) → In p (q ∷ qs) → In q (p ∷ ps) → p ≡ q
same_head p q ps qs a b i j = elim i [
  | inl h ↦ h
  | inr t ↦ elim j [
    | inl h ↦ sym h
    | inr u ↦ before_both p q (head_before p ps q a u) (head_before q qs p b t)
  ]
]

pub same_ascending : (ps qs : List (List ℕ)) → IsAscending ps → IsAscending qs → ((x : List ℕ) → In x ps → In x qs) → ((x : List ℕ) → In x qs → In x ps) → ps ≡ qs
same_ascending [] [] a b f g = refl
same_ascending [] (q ∷ qs) a b f g = no_element q (g q (inl refl))
same_ascending (p ∷ ps) [] a b f g = no_element p (f p (inl refl))
same_ascending (p ∷ ps) (q ∷ qs) a b f g =
    let head : p ≡ q = same_head p q ps qs a b (f p (inl refl)) (g q (inl refl)) in
    let b' : IsAscending (p ∷ qs) = subst (λ h. IsAscending (h ∷ qs)) (sym head) b in
    let f' : (x : List ℕ) → In x (p ∷ ps) → In x (p ∷ qs) = λ x i. subst (λ h. In x (h ∷ qs)) (sym head) (f x i) in
    let g' : (x : List ℕ) → In x (p ∷ qs) → In x (p ∷ ps) = λ x i. g x (subst (λ h. In x (h ∷ qs)) head i) in
    let tail : ps ≡ qs = same_ascending ps qs (tail_ascends p ps a) (tail_ascends p qs b') (same_tail p ps qs a f') (same_tail p qs ps b' g') in
    λ i. head i ∷ tail i

-- ---- the order of a map's keys

less : (o : Ordering) → T (is_lt o) → o ≡ Less
less Less t = refl
less Equal t = absurd t
less Greater t = absurd t

left_of : (a b : Bool) → T (a && b) → T a
left_of true b t = tt
left_of false b t = t

right_of : (a b : Bool) → T (a && b) → T b
right_of true b t = t
right_of false b t = absurd t

before_all : {X : Type 0} (p : List ℕ) (es : List (List ℕ × X)) → T (below_all by_bytes p es) → AllByRecursion (Before p) (map (λ e. e.0) es)
before_all p [] h = tt
before_all p (e ∷ es) h =
    let first = is_lt (by_bytes p e.0) in
    let rest = below_all by_bytes p es in
    (less (by_bytes p e.0) (left_of first rest h), before_all p es (right_of first rest h))

pub sorted_keys : {X : Type 0} (es : List (List ℕ × X)) → T (is_sorted by_bytes es) → IsAscending (map (λ e. e.0) es)
unfolding IsStrictlySortedBy
sorted_keys [] h = tt
sorted_keys (e ∷ es) h =
    let first = below_all by_bytes e.0 es in
    let rest = is_sorted by_bytes es in
    (before_all e.0 es (left_of first rest h), sorted_keys es (right_of first rest h))
