-- Which elements a list has.
use Rattle.std.proofs.Common.{◌≡◌, ◌∙◌, ◌⊎◌, inl, inr, ℕ, ◌<◌, Bool, true, false, cond, ◌&&◌, ◌||◌, T, List, [], ◌∷◌, ◌++◌, Option, Some, None, refl, sym, ap, subst, map, length, get_or, zero, suc, arith}
use Rattle.std.specs.Prelude.{is_some, unwrap_or}
use Rattle.std.proofs.lemmas.Bool.{true≢false}
use Rattle.std.specs.List.{list_any, filter, filter_map, flat_map, cons_option, Contains}
use Rattle.std.specs.Str.{bytes_eq}
use Rattle.std.specs.Cmp.Lexicographic.{bytes_decides}

pub true_or_false : (b : Bool) → (b ≡ true) ⊎ (b ≡ false)
true_or_false true = inl refl
true_or_false false = inr refl

pub not_both : {P : Type 0} (b : Bool) → b ≡ true → b ≡ false → P
not_both b t f = absurd (true≢false (sym t ∙ f))

pub or_left : (a b : Bool) → a ≡ true → (a || b) ≡ true
or_left a b e = ap (λ t. t || b) e

pub or_right : (a b : Bool) → b ≡ true → (a || b) ≡ true
or_right true b e = refl
or_right false b e = e

pub or_cases : (a b : Bool) → (a || b) ≡ true → (a ≡ true) ⊎ (b ≡ true)
or_cases true b e = inl refl
or_cases false b e = inr e

pub and_left : (a b : Bool) → (a && b) ≡ true → a ≡ true
and_left true b e = refl
and_left false b e = e

pub and_right : (a b : Bool) → (a && b) ≡ true → b ≡ true
and_right true b e = e
and_right false b e = absurd (true≢false (sym e))

pub and_both : (a b : Bool) → a ≡ true → b ≡ true → (a && b) ≡ true
and_both a b e f = ap (λ t. t && b) e ∙ f

pub same_path : (p q : List ℕ) → bytes_eq p q ≡ true → p ≡ q
same_path p q e = (bytes_decides p q).0 e

pub path_itself : (p q : List ℕ) → p ≡ q → bytes_eq p q ≡ true
path_itself p q e = (bytes_decides p q).1 e

pub same_some : {X : Type 0} (x y : X) → Some x ≡ Some y → x ≡ y
same_some x y e = ap (λ o. unwrap_or o x) e

pub not_none : {P X : Type 0} (x : X) → None ≡ Some x → P
not_none x e = absurd (subst T (sym (ap is_some e)) tt)

pub some_of : {X : Type 0} (o : Option X) → is_some o ≡ true → (x : X) × (o ≡ Some x)
some_of None e = absurd (true≢false (sym e))
some_of (Some x) e = (x, refl)

module _ {X : Type 0} where
  -- x is an element of a list
  abbrev pub In : X → List X → Type 0
  In x [] = ⊥
  In x (y ∷ ys) = (x ≡ y) ⊎ In x ys

  pub any_in : (p : X → Bool) (xs : List X) → list_any p xs ≡ true → (x : X) × (In x xs) × (p x ≡ true)
  any_in p [] e = absurd (true≢false (sym e))
  any_in p (x ∷ xs) e = elim (or_cases (p x) (list_any p xs) e) [
    | inl h ↦ (x, inl refl, h)
    | inr t ↦ let r = any_in p xs t in (r.0, inr r.1, r.2)
  ]

  pub in_any : (p : X → Bool) (xs : List X) (x : X) → In x xs → p x ≡ true → list_any p xs ≡ true
  in_any p [] x i e = absurd i
  in_any p (y ∷ ys) x i e = elim i [
    | inl h ↦ or_left (p y) (list_any p ys) (ap p (sym h) ∙ e)
    | inr t ↦ or_right (p y) (list_any p ys) (in_any p ys x t e)
  ]

  pub in_append_left : (xs ys : List X) (x : X) → In x xs → In x (xs ++ ys)
  in_append_left [] ys x i = absurd i
  in_append_left (y ∷ xs) ys x i = elim i [ inl h ↦ inl h | inr t ↦ inr (in_append_left xs ys x t) ]

  pub in_append_right : (xs ys : List X) (x : X) → In x ys → In x (xs ++ ys)
  in_append_right [] ys x i = i
  in_append_right (y ∷ xs) ys x i = inr (in_append_right xs ys x i)

  pub in_append : (xs ys : List X) (x : X) → In x (xs ++ ys) → In x xs ⊎ In x ys
  in_append [] ys x i = inr i
  in_append (y ∷ xs) ys x i = elim i [
    | inl h ↦ inl (inl h)
    | inr t ↦ elim (in_append xs ys x t) [ inl l ↦ inl (inr l) | inr r ↦ inr r ]
  ]

  pub in_filter : (p : X → Bool) (xs : List X) (x : X) → In x xs → p x ≡ true → In x (filter p xs)
  in_filter p [] x i e = absurd i
  in_filter p (y ∷ ys) x i e = elim (true_or_false (p y)) [
    | inl t ↦ subst (λ b. In x (cond b (y ∷ filter p ys) (filter p ys))) (sym t) (elim i [ inl h ↦ inl h | inr r ↦ inr (in_filter p ys x r e) ])
    | inr f ↦ subst (λ b. In x (cond b (y ∷ filter p ys) (filter p ys))) (sym f) (elim i [ inl h ↦ not_both (p y) (ap p (sym h) ∙ e) f | inr r ↦ in_filter p ys x r e ])
  ]

  pub filter_in : (p : X → Bool) (xs : List X) (x : X) → In x (filter p xs) → In x xs × (p x ≡ true)
  filter_in p [] x i = absurd i
  filter_in p (y ∷ ys) x i = elim (true_or_false (p y)) [
    | inl t ↦ elim (subst (λ b. In x (cond b (y ∷ filter p ys) (filter p ys))) t i) [
      | inl h ↦ (inl h, ap p h ∙ t)
      | inr r ↦ let s = filter_in p ys x r in (inr s.0, s.1)
    ]
    | inr f ↦ let s = filter_in p ys x (subst (λ b. In x (cond b (y ∷ filter p ys) (filter p ys))) f i) in (inr s.0, s.1)
  ]

  in_at : (xs : List X) (x : X) (k : ℕ) → k < length xs → get_or xs k x ≡ x → In x xs
  in_at [] x k l e = absurd (omega (arith, l))
  in_at (y ∷ ys) x zero l e = inl (sym e)
  in_at (y ∷ ys) x (suc k) l e = inr (in_at ys x k (omega (arith, l)) e)

  pub contains_in : (xs : List X) (x : X) → Contains xs x → In x xs
  contains_in xs x c = in_at xs x c.0 c.1 c.2

  pub in_contains : (xs : List X) (x : X) → In x xs → Contains xs x
  in_contains [] x i = absurd i
  in_contains (y ∷ ys) x i = elim i [
    | inl h ↦ (0, omega arith, sym h)
    | inr t ↦ let c = in_contains ys x t in (suc c.0, omega (arith, c.1), c.2)
  ]

pub in_map : {X Y : Type 0} (f : X → Y) (xs : List X) (x : X) → In x xs → In (f x) (map f xs)
in_map f [] x i = absurd i
in_map f (z ∷ zs) x i = elim i [ inl h ↦ inl (ap f h) | inr t ↦ inr (in_map f zs x t) ]

pub map_in : {X Y : Type 0} (f : X → Y) (xs : List X) (y : Y) → In y (map f xs) → (x : X) × (In x xs) × (y ≡ f x)
map_in f [] y i = absurd i
map_in f (z ∷ zs) y i = elim i [ inl h ↦ (z, inl refl, h) | inr t ↦ let r = map_in f zs y t in (r.0, inr r.1, r.2) ]

pub in_flat_map : {X Y : Type 0} (f : X → List Y) (xs : List X) (x : X) (y : Y) → In x xs → In y (f x) → In y (flat_map f xs)
in_flat_map f [] x y i j = absurd i
in_flat_map f (z ∷ zs) x y i j = elim i [
  | inl h ↦ in_append_left (f z) (flat_map f zs) y (subst (λ w. In y (f w)) h j)
  | inr t ↦ in_append_right (f z) (flat_map f zs) y (in_flat_map f zs x y t j)
]

pub flat_map_in : {X Y : Type 0} (f : X → List Y) (xs : List X) (y : Y) → In y (flat_map f xs) → (x : X) × (In x xs) × (In y (f x))
flat_map_in f [] y i = absurd i
flat_map_in f (z ∷ zs) y i = elim (in_append (f z) (flat_map f zs) y i) [
  | inl h ↦ (z, inl refl, h)
  | inr t ↦ let r = flat_map_in f zs y t in (r.0, inr r.1, r.2)
]

in_cons_option : {Y : Type 0} (o : Option Y) (ys : List Y) (y : Y) → (o ≡ Some y) ⊎ In y ys → In y (cons_option o ys)
in_cons_option None ys y s = elim s [ inl e ↦ absurd (not_none y e) | inr i ↦ i ]
in_cons_option (Some x) ys y s = elim s [ inl e ↦ inl (sym (same_some x y e)) | inr i ↦ inr i ]

cons_option_in : {Y : Type 0} (o : Option Y) (ys : List Y) (y : Y) → In y (cons_option o ys) → (o ≡ Some y) ⊎ In y ys
cons_option_in None ys y i = inr i
cons_option_in (Some x) ys y i = elim i [ inl e ↦ inl (ap Some (sym e)) | inr t ↦ inr t ]

pub in_filter_map : {X Y : Type 0} (f : X → Option Y) (xs : List X) (x : X) (y : Y) → In x xs → f x ≡ Some y → In y (filter_map f xs)
in_filter_map f [] x y i e = absurd i
in_filter_map f (z ∷ zs) x y i e = in_cons_option (f z) (filter_map f zs) y (elim i [
  | inl h ↦ inl (ap f (sym h) ∙ e)
  | inr t ↦ inr (in_filter_map f zs x y t e)
])

pub filter_map_in : {X Y : Type 0} (f : X → Option Y) (xs : List X) (y : Y) → In y (filter_map f xs) → (x : X) × (In x xs) × (f x ≡ Some y)
filter_map_in f [] y i = absurd i
filter_map_in f (z ∷ zs) y i = elim (cons_option_in (f z) (filter_map f zs) y i) [
  | inl e ↦ (z, inl refl, e)
  | inr t ↦ let r = filter_map_in f zs y t in (r.0, inr r.1, r.2)
]

-- the paths of a list, by the test that compares paths
pub any_path : (p : List ℕ) (ps : List (List ℕ)) → list_any (bytes_eq p) ps ≡ true → In p ps
any_path p ps e = let r = any_in (bytes_eq p) ps e in subst (λ q. In q ps) (sym (same_path p r.0 r.2)) r.1

pub path_any : (p : List ℕ) (ps : List (List ℕ)) → In p ps → list_any (bytes_eq p) ps ≡ true
path_any p ps i = in_any (bytes_eq p) ps p i (path_itself p p refl)
