use Rattle.std.proofs.Common.{get_or, arith, ap, refl}
use Rattle.bit_length.specs.Lengths.{Has, Joins}
use Rattle.dsdl_resolve.proofs.OffsetVariants as offsets
use Rattle.dsdl_resolve.proofs.offsets.variants_of.Goals as goal

pub bounds-fields-0 : goal.bounds-fields-0
bounds-fields-0 c = offsets.some_field c.args.fields.now c.requires.some

pub part_lengths-requires-clause-formed : goal.part_lengths-requires-clause-formed
part_lengths-requires-clause-formed c =
    offsets.variant_formed c.args.fields.now 0 (get_or c.args.fields.now 0 c.index-fields-0.result) (offsets.some_field c.args.fields.now c.requires.some)
    (ap (λ x. get_or c.args.fields.now 0 x) c.index-fields-0.is) c.requires.formed c.requires.packed

pub part_lengths-requires-clause-short : goal.part_lengths-requires-clause-short
part_lengths-requires-clause-short c =
    offsets.variant_short c.args.fields.now 0 (get_or c.args.fields.now 0 c.index-fields-0.result) (offsets.some_field c.args.fields.now c.requires.some)
    (ap (λ x. get_or c.args.fields.now 0 x) c.index-fields-0.is) c.requires.formed c.requires.packed c.requires.greatest

pub loop-i-init : goal.loop-i-init
loop-i-init c =
    offsets.first_variant c.args.fields.now 0 (get_or c.args.fields.now 0 c.index-fields-0.result) (offsets.some_field c.args.fields.now c.requires.some)
    (ap (λ x. get_or c.args.fields.now 0 x) c.index-fields-0.is) c.requires.formed c.requires.packed refl c.in_ok-joined.joined c.in_ok-joined.ensures

pub part_lengths-requires-in-loop-i-clause-formed : goal.part_lengths-requires-in-loop-i-clause-formed
part_lengths-requires-in-loop-i-clause-formed c =
    offsets.variant_formed c.args.fields.now c.loop-i.i (get_or c.args.fields.now c.loop-i.i c.index-fields-i.result) c.loop-i-test.true (ap (λ x. get_or c.args.fields.now c.loop-i.i x) c.index-fields-i.is)
    c.requires.formed c.requires.packed

pub part_lengths-requires-in-loop-i-clause-short : goal.part_lengths-requires-in-loop-i-clause-short
part_lengths-requires-in-loop-i-clause-short c =
    offsets.variant_short c.args.fields.now c.loop-i.i (get_or c.args.fields.now c.loop-i.i c.index-fields-i.result) c.loop-i-test.true (ap (λ x. get_or c.args.fields.now c.loop-i.i x) c.index-fields-i.is)
    c.requires.formed c.requires.packed c.requires.greatest

pub loop-i-preserved : goal.loop-i-preserved
loop-i-preserved c =
    offsets.variants_next c.args.fields.now c.loop-i.i (get_or c.args.fields.now c.loop-i.i c.index-fields-i.result) c.loop-i-test.true (ap (λ x. get_or c.args.fields.now c.loop-i.i x) c.index-fields-i.is)
    c.requires.formed c.requires.packed c.loop-i.joined c.in_ok-lengths.lengths c.in_ok-joined-2.joined c.loop-i.invariant c.in_ok-lengths.ensures
    (offsets.of_ok c.join.result c.in_ok-joined-2.joined (Joins (Has c.loop-i.joined) (Has c.in_ok-lengths.lengths)) c.join.ensures.members c.in_ok-joined-2.ensures)

pub returns : goal.returns
returns c = offsets.all_variants c.args.fields.now c.loop-i.i c.loop-i.joined (omega (arith, c.loop-i-test.false)) c.loop-i.invariant
