use Rattle.std.proofs.Common.{◌≡◌, true, false, Some, None, sym, ◌∙◌, subst, rules}
use Rattle.std.specs.Prelude.{is_some}
use Rattle.std.specs.BTreeMap.{get, Updates}
use Rattle.dsdl_names.specs.Types.{type_order}
use Rattle.const_expr.proofs.FirstItem.{is_none, is_some_of}
use Rattle.const_expr.proofs.PlaceLemmas.{places_kept, places_more}
use Rattle.const_expr.proofs.places.add_place.Goals as goal

pub returns-in_ok-insert-clause-added : goal.returns-in_ok-insert-clause-added
returns-in_ok-insert-clause-added c = λ ids last are.
    let old = c.args.places.now in
    let new = c.insert.new.self in
    let id = c.args.id in
    let fresh : c.contains_key.result ≡ false = search rules in
    let has : c.contains_key.result ≡ is_some (get type_order old id) = subst (λ R. c.contains_key.result ≡ is_some (get R old id)) (λ n a b. c.order_of_types.ensures a b n) c.contains_key.ensures in
    let none : get type_order old id ≡ None = is_none (get type_order old id) (sym has ∙ fresh) in
    let updates = subst (λ R. Updates R old new id (Some c.args.place)) (λ n a b. c.order_of_types.ensures a b n) c.in_ok-insert.ensures.updates in
    places_more ids id old are new c.args.place last none updates

pub returns-else-not-contains_key-clause-added : goal.returns-else-not-contains_key-clause-added
returns-else-not-contains_key-clause-added c = λ ids last are.
    let old = c.args.places.now in
    let id = c.args.id in
    let taken : c.contains_key.result ≡ true = search rules in
    let has : c.contains_key.result ≡ is_some (get type_order old id) = subst (λ R. c.contains_key.result ≡ is_some (get R old id)) (λ n a b. c.order_of_types.ensures a b n) c.contains_key.ensures in
    let (place, at) = is_some_of (get type_order old id) (sym has ∙ taken) in
    places_kept ids id old are place at
