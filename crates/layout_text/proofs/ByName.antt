-- The order of references to definitions is that of the definitions.
use Rattle.std.proofs.Common.{◌≡◌, ◌+◌, ◌<◌, Bool, true, false, cond, List, [], ◌∷◌, length, map, refl, sym, ap, ◌∙◌, arith, is_lt, Bor}
use Rattle.std.specs.Cmp.{IsTotalOrder, IsStrictWeakOrder}
use Rattle.std.specs.List.{filter}
use Rattle.std.specs.List.Sorted.{IsPermutation, IsSortedBy, IsSortedByKey, IsStableBy, IsStableByKey, ties}
use Rattle.std.proofs.lemmas.Cmp.{nat_cmp_total, nat_list_cmp_total, on_total, then_total}
use Rattle.std.proofs.lemmas.List.{get_or-map, length-map}
use Rattle.std.proofs.lemmas.List.MinMax.{ranks_by}
use Rattle.std.proofs.lemmas.List.Sorted.{IsPermutation-map}
use Rattle.dsdl_names.specs.declared.TypeId.{TypeId}
use Rattle.dsdl_names.specs.Types.{type_order}
use Rattle.dsdl_types.specs.declared.definition.Definition.{Definition}
use Rattle.layout_text.specs.Namespaces.{IsByName}

type_total : IsTotalOrder type_order
type_total =
    then_total (on_total (λ (id : TypeId). id.name) nat_list_cmp_total)
    (then_total (on_total (λ (id : TypeId). id.major) nat_cmp_total) (on_total (λ (id : TypeId). id.minor) nat_cmp_total))

-- whether the definition behind one reference stands before that behind another
abbrev pub stands_before : Bor Definition → Bor Definition → Bool
stands_before a b = is_lt (type_order a.now.id b.now.id)

pub ranks : IsStrictWeakOrder stands_before
ranks = ranks_by type_total (λ (r : Bor Definition). r.now.id)

abbrev behind : Bor Definition → Definition
behind r = r.now

-- a reference to a definition
to : Definition → Bor Definition
to d = record { ref_ptr = (0, 0); now = d }

-- whether a definition stands before another
abbrev pub before : Definition → Definition → Bool
before a b = is_lt (type_order a.id b.id)

pub before_ranks : IsStrictWeakOrder before
before_ranks = ranks_by type_total (λ (d : Definition). d.id)

sorted_behind : (rs : List (Bor Definition)) → IsSortedBy stands_before rs → IsSortedByKey (λ (d : Definition). d.id) type_order (map (λ r. r.now) rs)
unfolding to
sorted_behind rs up k d low lt =
    let n : length (map behind rs) ≡ length rs = simp length-map in
    let a : k + 1 < length rs = omega arith in
    let b : k < length rs = omega arith in
    let e = get_or-map behind rs (k + 1) (to d) d a in
    let f = get_or-map behind rs k (to d) d b in
    (λ i. before (e i) (f i)) ∙ up k (to d) low a

cond_map : (b : Bool) (r : Bor Definition) (xs : List Definition) (rs : List (Bor Definition)) → xs ≡ map (λ r. r.now) rs → cond b (r.now ∷ xs) xs ≡ map (λ r. r.now) (cond b (r ∷ rs) rs)
cond_map true r xs rs e = ap (λ l. r.now ∷ l) e
cond_map false r xs rs e = e

filter_behind : (test : Definition → Bool) (rs : List (Bor Definition)) → filter test (map (λ r. r.now) rs) ≡ map (λ r. r.now) (filter (λ r. test r.now) rs)
filter_behind test [] = refl
filter_behind test (r ∷ rs) = cond_map (test r.now) r (filter test (map (λ r. r.now) rs)) (filter (λ r. test r.now) rs) (filter_behind test rs)

stable_behind : (rs qs : List (Bor Definition)) → IsStableBy stands_before rs qs → IsStableByKey (λ (d : Definition). d.id) type_order (map (λ r. r.now) rs) (map (λ r. r.now) qs)
unfolding to
stable_behind rs qs stable d =
    filter_behind (ties before d) qs ∙ ap (map (λ r. r.now)) (stable (to d)) ∙ sym (filter_behind (ties before d) rs)

pub by_name_behind : (ds : List Definition) (rs qs : List (Bor Definition)) → map (λ r. r.now) rs ≡ ds → IsPermutation rs qs → IsSortedBy stands_before qs → IsStableBy stands_before rs qs → IsByName ds (map (λ r. r.now) qs)
by_name_behind ds rs qs e same up stable = rw (sym e) (record {
  same = IsPermutation-map behind rs qs same;
  ascending = sorted_behind qs up;
  stable = stable_behind rs qs stable;
})
