-- The first entry of each name, as far as a listing was read.
use Rattle.std.proofs.Common.{◌≡◌, ◌≢◌, ◌∙◌, inl, inr, ℕ, ◌<◌, Bool, true, false, cond, ◌||◌, not, List, [], ◌∷◌, ◌++◌, refl, sym, ap, subst, length, get_or, append-nil, arith}
use Rattle.std.proofs.lemmas.Bool.{true≢false}
use Rattle.std.proofs.lemmas.Grind.{common_steps}
use Rattle.std.proofs.lemmas.List.Elements.{filter-append}
use Rattle.std.proofs.lemmas.List.Folds.{list_any-append, list_any_at}
use Rattle.std.proofs.lemmas.List.Quantifiers.{all_pairs_push}
use Rattle.std.specs.List.{list_any, filter}
use Rattle.std.specs.Str.{bytes_eq}
use Rattle.cy_outside.specs.declared.tree.Entry.{Entry}
use Rattle.dsdl_files.specs.Steps.{NamesDiffer, first_of_each}
use Rattle.dsdl_files.proofs.Members.{any_in, in_contains, same_path, path_itself, true_or_false, or_cases}

left_read : (done rest : List Entry) (e x : Entry) (k : ℕ) → k < length done → get_or done k x ≡ x → get_or (done ++ e ∷ rest) k x ≡ x
left_read done rest e x k l is = grind (arith, common_steps)

next_read : (done rest : List Entry) (e x : Entry) → get_or (done ++ e ∷ rest) (length done) x ≡ e
next_read done rest e x = grind (arith, common_steps)

next_place : (done rest : List Entry) (e : Entry) → length done < length (done ++ e ∷ rest)
next_place done rest e = grind (arith, common_steps)

-- a name that stands before stands twice
pub repeated : {P : Type 0} (all done rest : List Entry) (e : Entry) → all ≡ done ++ e ∷ rest → NamesDiffer all
    → list_any (λ (x : Entry). bytes_eq x.name e.name) done ≡ true → P
repeated all done rest e whole apart found =
    let r = any_in (λ (x : Entry). bytes_eq x.name e.name) done found in
    let k = in_contains done r.0 r.1 in
    let apart' : NamesDiffer (done ++ e ∷ rest) = subst NamesDiffer whole apart in
    let names : r.0.name ≡ e.name = same_path r.0.name e.name r.2 in
    absurd (apart' k.0 (length done) r.0 k.1 (next_place done rest e)
    (ap (λ (x : Entry). x.name) (left_read done rest e r.0 k.0 k.1 k.2) ∙ names ∙ ap (λ (x : Entry). x.name) (sym (next_read done rest e r.0))))

pub not_added : (added any : Bool) → added ≡ not any → added ≡ false → any ≡ true
not_added added true e f = refl
not_added added false e f = sym f ∙ e

or_last : (a b : Bool) → (b || a) ≡ (a || (b || false))
or_last true true = refl
or_last true false = refl
or_last false true = refl
or_last false false = refl

-- the names are those of the entries so far
pub more_names : (done : List Entry) (e : Entry) (name path : List ℕ) (new old : Bool) → path ≡ e.name → new ≡ (bytes_eq path name || old)
    → old ≡ list_any (λ (x : Entry). bytes_eq x.name name) done → new ≡ list_any (λ (x : Entry). bytes_eq x.name name) (done ++ e ∷ [])
more_names done e name path new old is added before =
    added ∙ ap (λ p. bytes_eq p name || old) is ∙ ap (λ o. bytes_eq e.name name || o) before
    ∙ or_last (list_any (λ (x : Entry). bytes_eq x.name name) done) (bytes_eq e.name name)
    ∙ sym (list_any-append (λ (x : Entry). bytes_eq x.name name) done (e ∷ []))

pub added_new : (added any : Bool) → added ≡ not any → added ≡ true → any ≡ false
added_new added true e t = sym t ∙ e
added_new added false e t = refl

or_none_left : (a b : Bool) → (a || b) ≡ false → a ≡ false
or_none_left true b e = e
or_none_left false b e = refl

or_none_right : (a b : Bool) → (a || b) ≡ false → b ≡ false
or_none_right true b e = absurd (true≢false e)
or_none_right false b e = e

or_none : (a b : Bool) → a ≡ false → b ≡ false → (a || b) ≡ false
or_none a b e f = ap (λ t. t || b) e ∙ f

-- an entry has the name of e
abbrev is_named : Entry → Entry → Bool
is_named e x = bytes_eq x.name e.name

-- the entries of a list with another name than x
abbrev others : Entry → List Entry → List Entry
others x = filter (λ (other : Entry). not (bytes_eq x.name other.name))

others_more : (x e : Entry) (firsts : List Entry) (b : Bool) → bytes_eq x.name e.name ≡ b
    → others x (firsts ++ e ∷ []) ≡ others x firsts ++ cond (not b) (e ∷ []) []
others_more x e firsts b h =
    filter-append (λ (other : Entry). not (bytes_eq x.name other.name)) firsts (e ∷ [])
    ∙ ap (λ t. others x firsts ++ cond (not t) (e ∷ []) []) h

-- an entry of a name that didn't stand before
pub firsts_new : (done : List Entry) (e : Entry) → list_any (λ (x : Entry). bytes_eq x.name e.name) done ≡ false
    → first_of_each (done ++ e ∷ []) ≡ first_of_each done ++ e ∷ []
firsts_new [] e h = refl
firsts_new (x ∷ xs) e h =
    ap (λ l. x ∷ others x l) (firsts_new xs e (or_none_right (is_named e x) (list_any (is_named e) xs) h))
    ∙ ap (λ l. x ∷ l) (others_more x e (first_of_each xs) false (or_none_left (is_named e x) (list_any (is_named e) xs) h))

-- an entry of a name that stood before
pub firsts_same : (done : List Entry) (e : Entry) → list_any (λ (x : Entry). bytes_eq x.name e.name) done ≡ true
    → first_of_each (done ++ e ∷ []) ≡ first_of_each done
firsts_same [] e h = absurd (true≢false (sym h))
firsts_same (x ∷ xs) e h = elim (true_or_false (list_any (is_named e) xs)) as (λ _. first_of_each ((x ∷ xs) ++ e ∷ []) ≡ first_of_each (x ∷ xs)) [
  | inl t ↦ ap (λ l. x ∷ others x l) (firsts_same xs e t)
  | inr f ↦
      let named : is_named e x ≡ true = elim (or_cases (is_named e x) (list_any (is_named e) xs) h) as (λ _. is_named e x ≡ true) [
        | inl n ↦ n
        | inr t ↦ absurd (true≢false (sym t ∙ f))
      ] in
      ap (λ l. x ∷ others x l) (firsts_new xs e f)
      ∙ ap (λ l. x ∷ l) (others_more x e (first_of_each xs) true named ∙ append-nil (others x (first_of_each xs)))
]

none_filtered : (p q : Entry → Bool) (xs : List Entry) → list_any p xs ≡ false → list_any p (filter q xs) ≡ false
none_filtered p q [] h = refl
none_filtered p q (x ∷ xs) h =
    let rest = none_filtered p q xs (or_none_right (p x) (list_any p xs) h) in
    elim (true_or_false (q x)) as (λ _. list_any p (filter q (x ∷ xs)) ≡ false) [
      | inl t ↦ ap (λ b. list_any p (cond b (x ∷ filter q xs) (filter q xs))) t ∙ or_none (p x) (list_any p (filter q xs)) (or_none_left (p x) (list_any p xs) h) rest
      | inr f ↦ ap (λ b. list_any p (cond b (x ∷ filter q xs) (filter q xs))) f ∙ rest
    ]

-- what no entry passes, none of the firsts does
none_first : (p : Entry → Bool) (xs : List Entry) → list_any p xs ≡ false → list_any p (first_of_each xs) ≡ false
none_first p [] h = refl
none_first p (x ∷ xs) h =
    or_none (p x) (list_any p (others x (first_of_each xs))) (or_none_left (p x) (list_any p xs) h)
    (none_filtered p (λ (other : Entry). not (bytes_eq x.name other.name)) (first_of_each xs) (none_first p xs (or_none_right (p x) (list_any p xs) h)))

-- the names still differ behind a new one
pub differ_more : (done : List Entry) (e : Entry) → list_any (λ (x : Entry). bytes_eq x.name e.name) done ≡ false
    → NamesDiffer (first_of_each done) → NamesDiffer (first_of_each done ++ e ∷ [])
differ_more done e new d = all_pairs_push (λ (a b : Entry). a.name ≢ b.name) (first_of_each done) e d
    (λ k x l names. true≢false (sym (list_any_at (is_named e) (first_of_each done) k x l (path_itself _ _ names)) ∙ none_first (is_named e) done new))
