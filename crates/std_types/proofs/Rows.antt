-- Arrays of values, as they are written and read item by item
use Rattle.std.proofs.Common.{◌≡◌, ℕ, ◌+◌, ◌<◌, ◌≤◌, List, [], ◌∷◌, ◌++◌, length, get_or, drop, sym, ap, ◌∙◌}
use Rattle.std.proofs.lemmas.List.{at_drop_more, at_drop_all, append-nil, append_assoc}
use Rattle.dsdl_types.specs.Values.{Val, Vals, Items, Empty, More, join}
use Rattle.dsdl_types.specs.Views.{val, vals}
use Rattle.dsdl_types.specs.declared.value.Value.{Value}
use Rattle.dsdl_types.specs.declared.value.Value.TheVariants as V
use Rattle.dsdl_types.proofs.Equations.{val_items}
use Rattle.dsdl_types.proofs.Views.{join_none, join_push}
use Rattle.std_types.specs.Held.{row_of, list_of}

-- the values so far and those of what is left are all
abbrev pub Written : {A : Type 0} → (A → Val) → List A → ℕ → List Value → Type 0
Written f xs i done = join (vals done) (row_of f (drop i xs)) ≡ row_of f xs

pub written_at : {A : Type 0} (f : A → Val) (xs : List A) (i : ℕ) (d : A) (done : List Value) (v : Value) →
    i < length xs → val v ≡ f (get_or xs i d) → Written f xs i done → Written f xs (i + 1) (done ++ v ∷ [])
written_at f xs i d done v within value so_far =
    let left : row_of f (drop i xs) ≡ More (f (get_or xs i d)) (row_of f (drop (i + 1) xs)) = at_drop_more (row_of f) xs i d within in
    join_push done v (row_of f (drop (i + 1) xs))
    ∙ ap (λ w. join (vals done) (More w (row_of f (drop (i + 1) xs)))) value
    ∙ ap (λ ws. join (vals done) ws) (sym left)
    ∙ so_far

pub written_next : {A : Type 0} (f : A → Val) (xs : List A) (i : ℕ) (x : A) (done : List Value) (v : Value) →
    i < length xs → x ≡ get_or xs i x → val v ≡ f x → Written f xs i done → Written f xs (i + 1) (done ++ v ∷ [])
written_next f xs i x done v within is value so_far = written_at f xs i x done v within (value ∙ ap f is) so_far

pub written_all : {A : Type 0} (f : A → Val) (xs : List A) (i : ℕ) (done all : List Value) →
    all ≡ done → length xs ≤ i → Written f xs i done → val (V.Items all) ≡ Items (row_of f xs)
written_all f xs i done all same past so_far =
    val_items all
    ∙ ap (λ vs. Items (vals vs)) same
    ∙ ap Items (sym (join_none (vals done)) ∙ ap (λ ws. join (vals done) ws) (sym (at_drop_all (row_of f) xs i past)) ∙ so_far)

-- what was read so far and what is left to read is all
abbrev pub Taken : {A : Type 0} → (Val → A) → List Value → ℕ → List A → Type 0
Taken g items i done = done ++ list_of g (vals (drop i items)) ≡ list_of g (vals items)

pub taken_next : {A : Type 0} (g : Val → A) (items : List Value) (i : ℕ) (item : Value) (done : List A) (x : A) →
    i < length items → item ≡ get_or items i item → x ≡ g (val item) → Taken g items i done → Taken g items (i + 1) (done ++ x ∷ [])
taken_next g items i item done x within is held so_far =
    let left : list_of g (vals (drop i items)) ≡ g (val (get_or items i item)) ∷ list_of g (vals (drop (i + 1) items)) =
    at_drop_more (λ l. list_of g (vals l)) items i item within in
    append_assoc done (x ∷ []) (list_of g (vals (drop (i + 1) items)))
    ∙ ap (λ y. done ++ y ∷ list_of g (vals (drop (i + 1) items))) (held ∙ ap (λ v. g (val v)) is)
    ∙ ap (λ l. done ++ l) (sym left)
    ∙ so_far

pub taken_all : {A : Type 0} (g : Val → A) (items : List Value) (i : ℕ) (done : List A) →
    length items ≤ i → Taken g items i done → done ≡ list_of g (vals items)
taken_all g items i done past so_far =
    sym (append-nil done) ∙ ap (λ l. done ++ l) (sym (at_drop_all (λ l. list_of g (vals l)) items i past)) ∙ so_far

pub vals_push : (vs : List Value) (v : Value) → vals (vs ++ v ∷ []) ≡ join (vals vs) (More (val v) Empty)
vals_push vs v = sym (join_none (vals (vs ++ v ∷ []))) ∙ join_push vs v Empty

-- the values of the fields so far are known, and so is the next
pub row_next : {before after known : Vals} {v w : Val} →
    after ≡ join before (More v Empty) → before ≡ known → v ≡ w → after ≡ join known (More w Empty)
row_next next so_far value = next ∙ (λ i. join (so_far i) (More (value i) Empty))
