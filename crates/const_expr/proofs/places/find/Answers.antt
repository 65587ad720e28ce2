use Rattle.std.proofs.Common.{◌≡◌, ◌<◌, length, Some, None, sym, ap, ◌∙◌, subst, arith}
use Rattle.std.specs.Prelude.{slice_get}
use Rattle.std.specs.BTreeMap.{get}
use Rattle.dsdl_names.specs.Types.{type_order}
use Rattle.const_expr.specs.Places.{defined, place_in}
use Rattle.const_expr.proofs.FirstItem.{lent}
use Rattle.const_expr.proofs.PlaceLemmas.{definition_at, definition_missing, definition_within}
use Rattle.const_expr.proofs.places.find.Goals as goal

pub returns-in-Some-get : goal.returns-in-Some-get
returns-in-Some-get c =
    let scope = c.args.scope.now in
    let id = c.args.id.now in
    let place = c.in-Some.place.now in
    let d = c.in-Some-get.definition in
    let found : Some place ≡ get type_order c.args.places.now id = subst (λ R. Some place ≡ get R c.args.places.now id) (λ n a b. c.order_of_types.ensures a b n) c.in-Some.ensures.value in
    let at : place_in (defined scope) id ≡ Some place = sym (found ∙ c.requires.types id) in
    let stands : Some d.now ≡ slice_get scope.namespace.definitions place = lent c.as_slice.result.now place (Some d) c.in-Some-get.ensures.lookup ∙ ap (λ l. slice_get l place) c.as_slice.ensures in
    record { at = at; stands = sym stands; first = definition_at scope.namespace.definitions id place d.now at (sym stands) }

pub returns-in-None : goal.returns-in-None
returns-in-None c =
    let scope = c.args.scope.now in
    let id = c.args.id.now in
    let place = c.in-Some.place.now in
    let found : Some place ≡ get type_order c.args.places.now id = subst (λ R. Some place ≡ get R c.args.places.now id) (λ n a b. c.order_of_types.ensures a b n) c.in-Some.ensures.value in
    let at : place_in (defined scope) id ≡ Some place = sym (found ∙ c.requires.types id) in
    let within : place < length c.as_slice.result.now = subst (λ l. place < length l) (sym c.as_slice.ensures) (definition_within scope.namespace.definitions id place at) in
    absurd (let past = c.in-None.ensures.lookup.3 in omega (arith, within, past))

pub returns-in_default : goal.returns-in_default
returns-in_default c =
    let scope = c.args.scope.now in
    let id = c.args.id.now in
    let found : None ≡ get type_order c.args.places.now id = subst (λ R. None ≡ get R c.args.places.now id) (λ n a b. c.order_of_types.ensures a b n) c.in_default.ensures.value in
    definition_missing scope.namespace.definitions id (sym (found ∙ c.requires.types id))
