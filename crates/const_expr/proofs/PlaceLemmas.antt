-- The types of a scope by their places
use Rattle.std.proofs.Common.{◌≡◌, ℕ, ◌+◌, ◌<◌, ◌==◌, true, false, Bool, List, [], ◌∷◌, ◌++◌, length, map, get_or, Some, None, cond, ◌⊎◌, inl, inr, refl, sym, ap, ◌∙◌, arith}
use Rattle.std.specs.Prelude.{◌&&◌, slice_get}
use Rattle.std.specs.BTreeMap.{BTreeMap, get, Updates}
use Rattle.std.specs.List.{position_from}
use Rattle.std.specs.Ordering.{ordering_then, is_eq, nat_cmp}
use Rattle.std.specs.declared.cmp.Ordering.{Ordering}
use Rattle.std.specs.declared.cmp.Ordering.TheVariants.{Less, Equal, Greater}
use Rattle.std.specs.Cmp.Lexicographic.{slice_cmp}
use Rattle.std.specs.Cmp.{unsigned_ties}
use Rattle.std.specs.Str.{bytes_eq}
use Rattle.std.proofs.lemmas.Bool.{and_parts, cases_Bool, eqb-true}
use Rattle.std.proofs.lemmas.Map.Text.{is_eq-slice_cmp}
use Rattle.std.proofs.lemmas.Option.{get_or_from_slice_get}
use Rattle.std.proofs.lemmas.Slice.Eq.{bytes_eq-Decides}
use Rattle.dsdl_names.specs.Types.{type_order}
use Rattle.dsdl_names.specs.declared.TypeId.{TypeId}
use Rattle.dsdl_types.specs.Finding.{definition_of, same_id}
use Rattle.dsdl_types.specs.declared.definition.Definition.{Definition}
use Rattle.const_expr.specs.declared.scope.NamedConst.{NamedConst}
use Rattle.const_expr.specs.declared.scope.TypeConsts.{TypeConsts}
use Rattle.const_expr.specs.Member.{constants_of}
use Rattle.const_expr.specs.Places.{ArePlacesOf, ids_of, place_in}
use Rattle.const_expr.proofs.FirstItem.{first_in, first_at, first_missing, place_within, place_of_map, placed_still, placed_last, placed_apart}

abbrev is : TypeId → TypeId → Bool
is id one = same_id one id

-- ---- the definition of a type
abbrev ids : List Definition → List TypeId
ids ds = map (λ (d : Definition). d.id) ds

abbrev defines : TypeId → Definition → Bool
defines id d = same_id d.id id

definition_is : (ds : List Definition) (id : TypeId) → first_in (defines id) Some None ds ≡ definition_of ds id
unfolding first_in
definition_is [] id = refl
definition_is (d ∷ ds) id = ap (cond (same_id d.id id) (Some d)) (definition_is ds id)

place_among : (ds : List Definition) (id : TypeId) → place_in (ids ds) id ≡ position_from (defines id) 0 ds
place_among ds id = place_of_map (λ (d : Definition). d.id) (is id) 0 ds

-- the definition at the place of a type is its first one
pub definition_at : (ds : List Definition) (id : TypeId) (n : ℕ) (d : Definition) → place_in (ids ds) id ≡ Some n → slice_get ds n ≡ Some d → definition_of ds id ≡ Some d
definition_at ds id n d h there =
    sym (first_at (defines id) Some None ds n d (sym (place_among ds id) ∙ h) (sym (get_or_from_slice_get ds n d d there)) ∙ definition_is ds id)

-- the place of a type has a definition
pub definition_within : (ds : List Definition) (id : TypeId) (n : ℕ) → place_in (ids ds) id ≡ Some n → n < length ds
definition_within ds id n h = place_within (defines id) ds n (sym (place_among ds id) ∙ h)

-- a type without a place has no definition
pub definition_missing : (ds : List Definition) (id : TypeId) → place_in (ids ds) id ≡ None → definition_of ds id ≡ None
definition_missing ds id h = sym (definition_is ds id) ∙ first_missing (defines id) Some None ds 0 (sym (place_among ds id) ∙ h)

-- ---- the constants of a type
abbrev keeps : TypeId → TypeConsts → Bool
keeps id t = same_id t.id id

abbrev constants : TypeConsts → List NamedConst
constants t = t.constants

constants_are : (ts : List TypeConsts) (id : TypeId) → first_in (keeps id) constants [] ts ≡ constants_of ts id
unfolding first_in
constants_are [] id = refl
constants_are (t ∷ ts) id = ap (cond (same_id t.id id) t.constants) (constants_are ts id)

kept_at : (ts : List TypeConsts) (id : TypeId) → place_in (ids_of ts) id ≡ position_from (keeps id) 0 ts
kept_at ts id = place_of_map (λ (t : TypeConsts). t.id) (is id) 0 ts

pub constants_within : (ts : List TypeConsts) (id : TypeId) (n : ℕ) → place_in (ids_of ts) id ≡ Some n → n < length ts
constants_within ts id n h = place_within (keeps id) ts n (sym (kept_at ts id) ∙ h)

pub constants_found : (ts : List TypeConsts) (id : TypeId) (n : ℕ) (t : TypeConsts) → place_in (ids_of ts) id ≡ Some n → t ≡ get_or ts n t → t.constants ≡ constants_of ts id
constants_found ts id n t h there = first_at (keeps id) constants [] ts n t (sym (kept_at ts id) ∙ h) there ∙ constants_are ts id

-- ---- types by their order
both_equal : (o p : Ordering) → is_eq (ordering_then o p) ≡ (is_eq o && is_eq p)
both_equal Less p = refl
both_equal Equal p = refl
both_equal Greater p = refl

ties : (a b : TypeId) → is_eq (type_order a b) ≡ same_id a b
ties a b =
    both_equal (slice_cmp nat_cmp a.name b.name) (ordering_then (nat_cmp a.major b.major) (nat_cmp a.minor b.minor))
    ∙ ap (λ t. t && is_eq (ordering_then (nat_cmp a.major b.major) (nat_cmp a.minor b.minor))) (is_eq-slice_cmp a.name b.name)
    ∙ ap (λ t. bytes_eq a.name b.name && t)
    (both_equal (nat_cmp a.major b.major) (nat_cmp a.minor b.minor)
    ∙ ap (λ t. t && is_eq (nat_cmp a.minor b.minor)) (sym (unsigned_ties a.major b.major))
    ∙ ap (λ t. (a.major == b.major) && t) (sym (unsigned_ties a.minor b.minor)))

same_type : (a b : TypeId) → same_id a b ≡ true → a ≡ b
same_type a b h =
    let p = and_parts (bytes_eq a.name b.name) ((a.major == b.major) && (a.minor == b.minor)) h in
    let q = and_parts (a.major == b.major) (a.minor == b.minor) p.1 in
    let name : a.name ≡ b.name = (bytes_eq-Decides a.name b.name).0 p.0 in
    let major : a.major ≡ b.major = eqb-true a.major b.major q.0 in
    let minor : a.minor ≡ b.minor = eqb-true a.minor b.minor q.1 in
    ap (λ n. let t : TypeId = record { name = n; major = a.major; minor = a.minor } in t) name
    ∙ ap (λ n. let t : TypeId = record { name = b.name; major = n; minor = a.minor } in t) major
    ∙ ap (λ n. let t : TypeId = record { name = b.name; major = b.major; minor = n } in t) minor

-- ---- the places with one type more
module _ (ts : List TypeId) (t : TypeId) (old : BTreeMap TypeId ℕ) (are : ArePlacesOf ts old) where
  pub places_kept : (place : ℕ) → get type_order old t ≡ Some place → ArePlacesOf (ts ++ t ∷ []) old
  places_kept place has id = at (cases_Bool (same_id t id))
    where
      at : (same_id t id ≡ true) ⊎ (same_id t id ≡ false) → get type_order old id ≡ place_in (ts ++ t ∷ []) id
      at (inl e) =
          let there : get type_order old id ≡ Some place = ap (get type_order old) (sym (same_type t id e)) ∙ has in
          there ∙ sym (placed_still (is id) 0 place ts t (sym (are id) ∙ there))
      at (inr e) = are id ∙ sym (placed_apart (is id) 0 ts t e)

  pub places_more : (new : BTreeMap TypeId ℕ) (place : ℕ) → place ≡ length ts → get type_order old t ≡ None → Updates type_order old new t (Some place) → ArePlacesOf (ts ++ t ∷ []) new
  places_more new place last none u id = new_is ∙ at (cases_Bool (same_id t id))
    where
      new_is : get type_order new id ≡ cond (same_id t id) (Some place) (get type_order old id)
      new_is = u.0 id ∙ ap (λ b. cond b (Some place) (get type_order old id)) (ties t id)

      at : (same_id t id ≡ true) ⊎ (same_id t id ≡ false) → cond (same_id t id) (Some place) (get type_order old id) ≡ place_in (ts ++ t ∷ []) id
      at (inl e) =
          let none_here : position_from (is id) 0 ts ≡ None = sym (are id) ∙ ap (get type_order old) (sym (same_type t id e)) ∙ none in
          ap (λ b. cond b (Some place) (get type_order old id)) e
          ∙ ap Some (let n : place ≡ 0 + length ts = omega (arith, last) in n)
          ∙ sym (placed_last (is id) 0 ts t none_here e)
      at (inr e) = ap (λ b. cond b (Some place) (get type_order old id)) e ∙ are id ∙ sym (placed_apart (is id) 0 ts t e)
