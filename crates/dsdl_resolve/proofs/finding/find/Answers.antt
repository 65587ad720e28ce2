use Rattle.std.proofs.Common.{sym, subst}
use Rattle.std.specs.Prelude.{IsSomeAnd}
use Rattle.dsdl_resolve.specs.Places.{AreCountsIn}
use Rattle.dsdl_resolve.proofs.PlaceLemmas.{counts_at}
use Rattle.dsdl_resolve.proofs.finding.find.Goals as goal

pub returns-in-Some-get : goal.returns-in-Some-get
returns-in-Some-get c =
    let d = c.in-Some.definition.now in
    let at = counts_at c.args.scope.now c.args.places.now c.in-Some.place d c.requires c.in-Some.ensures.stands in
    (c.in-Some.ensures.first, subst (λ o. IsSomeAnd o (λ counts. AreCountsIn counts d.parts)) (sym c.in-Some-get.ensures) at)

pub returns-in-None : goal.returns-in-None
returns-in-None c =
    let d = c.in-Some.definition.now in
    let at = counts_at c.args.scope.now c.args.places.now c.in-Some.place d c.requires c.in-Some.ensures.stands in
    absurd (subst (λ o. IsSomeAnd o (λ counts. AreCountsIn counts d.parts)) (sym c.in-None.ensures) at)
