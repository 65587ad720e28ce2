use Rattle.std.proofs.Common.{◌≡◌, ◌<◌, length, get_or, Some, sym, ap, ◌∙◌, subst, arith}
use Rattle.std.proofs.lemmas.List.Elements.{All-get_or}
use Rattle.const_expr.specs.Member.{AreConstants}
use Rattle.const_expr.specs.Places.{ids_of, place_in}
use Rattle.const_expr.specs.declared.scope.TypeConsts.{TypeConsts}
use Rattle.const_expr.proofs.PlaceLemmas.{constants_found, constants_within}
use Rattle.const_expr.proofs.type_member.constants_at.Goals as goal

pub offset_bounds-as_slice-place : goal.offset_bounds-as_slice-place
offset_bounds-as_slice-place c =
    let members = c.args.scope.now.members in
    let place : place_in (ids_of members) c.args.id.now ≡ Some c.args.place = ap (λ ids. place_in ids c.args.id.now) c.requires.members ∙ c.requires.place in
    let within : c.args.place < length c.as_slice.result.now = subst (λ l. c.args.place < length l) (sym c.as_slice.ensures) (constants_within members c.args.id.now c.args.place place) in
    let short = c.as_slice.type_inv.1 in
    omega (arith, within, short)

pub bounds-as_slice-place : goal.bounds-as_slice-place
bounds-as_slice-place c =
    let members = c.args.scope.now.members in
    let place : place_in (ids_of members) c.args.id.now ≡ Some c.args.place = ap (λ ids. place_in ids c.args.id.now) c.requires.members ∙ c.requires.place in
    subst (λ l. c.args.place < length l) (sym c.as_slice.ensures) (constants_within members c.args.id.now c.args.place place)

pub returns-clause-value : goal.returns-clause-value
returns-clause-value c =
    let members = c.args.scope.now.members in
    let place : place_in (ids_of members) c.args.id.now ≡ Some c.args.place = ap (λ ids. place_in ids c.args.id.now) c.requires.members ∙ c.requires.place in
    let t = c.index-as_slice-place.result in
    let there : t ≡ get_or members c.args.place t = c.index-as_slice-place.is ∙ ap (λ l. get_or l c.args.place t) c.as_slice.ensures in
    ap (λ (u : TypeConsts). u.constants) (sym c.index-as_slice-place.is) ∙ constants_found members c.args.id.now c.args.place t place there

pub returns-clause-kept : goal.returns-clause-kept
returns-clause-kept c =
    let members = c.args.scope.now.members in
    let place : place_in (ids_of members) c.args.id.now ≡ Some c.args.place = ap (λ ids. place_in ids c.args.id.now) c.requires.members ∙ c.requires.place in
    let kept = λ (t : TypeConsts). AreConstants t.constants in
    subst (λ l. kept (get_or l c.args.place c.index-as_slice-place.result)) (sym c.as_slice.ensures)
    (All-get_or kept members c.args.place c.index-as_slice-place.result (constants_within members c.args.id.now c.args.place place) c.requires.scope.members)
