-- Lists of values and fields as those of the definitions
use Rattle.std.proofs.Common.{◌≡◌, ◌<◌, ◌≤◌, ◌+◌, ◌∙◌, sym, drop, length, map, ◌-◌, ℕ, suc, arith, List, [], ◌∷◌, ◌++◌, refl, ap}
use Rattle.std.proofs.lemmas.List.{drop_all}
use Rattle.dsdl_types.specs.Values.{Val, Vals, Empty, More, same_items, join}
use Rattle.dsdl_types.specs.Schemas.{Flds, Outline}
use Rattle.dsdl_types.specs.Zero.{zero_fields}
use Rattle.dsdl_types.specs.Views.{Kind, val, vals, body_of, named, flds, in_order, at_schema, at_body, at_field}
use Rattle.dsdl_types.specs.declared.schema.Schema.TheFolds.{fold-Field, fold_out-Body, fold_out-Field}
use Rattle.dsdl_types.specs.declared.schema.Body.{Body, out-Body}
use Rattle.dsdl_types.specs.declared.schema.Field.{Field}
use Rattle.dsdl_types.specs.declared.value.Value.{Value}

pub join_none : (vs : Vals) → join vs Empty ≡ vs
join_none Empty = refl
join_none (More v vs) = ap (λ ws. More v ws) (join_none vs)

pub join_push : (vs : List Value) (v : Value) (ws : Vals) → join (vals (vs ++ v ∷ [])) ws ≡ join (vals vs) (More (val v) ws)
join_push [] v ws = refl
join_push (w ∷ vs) v ws = ap (λ xs. More (val w) xs) (join_push vs v ws)

pub same_items_next : (n i : ℕ) (v : Val) → i < n → same_items (n - i) v ≡ More v (same_items (n - (i + 1)) v)
same_items_next n i v h = let e : n - i ≡ suc (n - (i + 1)) = omega arith in ap (λ k. same_items k v) e

map_named : (fields : List Field) → map (λ f. fold-Field Kind (Flds × Outline) (List ℕ × Kind) at_schema at_body at_field f) fields ≡ map named fields
map_named [] = refl
map_named (f ∷ fields) = λ i. fold_out-Field Kind (Flds × Outline) (List ℕ × Kind) at_schema at_body at_field f i ∷ map_named fields i

pub body_is : (b : Body) → body_of b ≡ (flds (out-Body b).fields, record { extent = (out-Body b).extent; sealed = (out-Body b).sealed })
body_is b =
    fold_out-Body Kind (Flds × Outline) (List ℕ × Kind) at_schema at_body at_field b
    ∙ ap (λ fs. (in_order fs, record { extent = (out-Body b).extent; sealed = (out-Body b).sealed })) (map_named (out-Body b).fields)

pub extent_is : (b : Body) → (body_of b).1.extent ≡ (out-Body b).extent
extent_is b = ap (λ x. x.1.extent) (body_is b)

pub zero_fields_end : (vs : List Value) (fields : List Field) (i : ℕ) → length fields ≤ i →
    join (vals vs) (zero_fields (flds (drop i fields))) ≡ zero_fields (flds fields) → vals vs ≡ zero_fields (flds fields)
zero_fields_end vs fields i h e =
    sym (join_none (vals vs)) ∙ ap (λ l. join (vals vs) (zero_fields (flds l))) (sym (drop_all i fields h)) ∙ e
