use Rattle.std.proofs.Common.{refl, subst, sym}
use Rattle.dsdl_types.specs.Views.{flds}
use Rattle.dsdl_resolve.specs.Opens.{AreOffsets}
use Rattle.dsdl_resolve.specs.SoundSections.{AreFine}
use Rattle.dsdl_resolve.specs.Totals.{AreTotals}
use Rattle.dsdl_resolve.proofs.Opening.{known_now, some_variants}
use Rattle.dsdl_resolve.proofs.PlaceLemmas.{places_moved}
use Rattle.dsdl_resolve.proofs.open_section.OpenSection.values_with_offset.Goals as goal

pub offsets_of-requires-clause-totals : goal.offsets_of-requires-clause-totals
offsets_of-requires-clause-totals c =
    let t = c.args.self.now.before.totals in subst (λ fs. AreTotals t t.union (flds fs)) (sym c.as_slice.ensures) c.requires.ready.totals

pub offsets_of-requires-clause-fine : goal.offsets_of-requires-clause-fine
offsets_of-requires-clause-fine c = subst (AreFine c.args.self.now.before.totals.union) (sym c.as_slice.ensures) c.requires.ready.fine

pub offsets_of-requires-clause-some : goal.offsets_of-requires-clause-some
offsets_of-requires-clause-some c = some_variants c.args.self.now c.requires.ready c.requires.late

pub offsets_of-requires-clause-known : goal.offsets_of-requires-clause-known
offsets_of-requires-clause-known c =
    subst (λ fs. AreOffsets c.args.self.now.before.totals.union fs c.take-known.result) (sym c.as_slice.ensures)
    (subst (AreOffsets c.args.self.now.before.totals.union c.args.self.now.fields) (sym c.take-known.ensures.value) c.requires.ready.offsets)

pub values_of-values-requires-clause-places : goal.values_of-values-requires-clause-places
values_of-values-requires-clause-places c = places_moved c.args.scope.now _ c.args.places.now refl refl c.requires.places

pub returns-clause-offsets : goal.returns-clause-offsets
returns-clause-offsets c =
    known_now c.args.self.now c.as_slice.result.now c.in_ok-set.set c.len.result _ (c.remembered.ensures c.in_ok-set.set c.take.ensures.value) c.len.ensures c.as_slice.ensures c.in_ok-set.ensures
