use Rattle.std.proofs.Common.{arith}
use Rattle.dsdl_resolve.proofs.OffsetEnds as offsets
use Rattle.dsdl_resolve.proofs.offsets.ends_behind.Goals as goal

pub loop-i-init : goal.loop-i-init
loop-i-init c = record {
  same = offsets.front_same c.args.fields.now c.args.known.fields c.args.known.set c.requires.greatest c.requires.known;
  up = c.count.ensures.ascending;
}

pub ends_after-requires-clause-formed : goal.ends_after-requires-clause-formed
ends_after-requires-clause-formed c = offsets.alone_formed c.args.fields.now c.loop-i.i c.index-fields-i.result c.loop-i-test.true c.index-fields-i.is c.requires.formed

pub ends_after-requires-clause-small : goal.ends_after-requires-clause-small
ends_after-requires-clause-small c = offsets.alone_small c.args.fields.now c.loop-i.i c.index-fields-i.result c.loop-i-test.true c.index-fields-i.is c.requires.greatest

pub ends_after-requires-clause-short : goal.ends_after-requires-clause-short
ends_after-requires-clause-short c =
    offsets.alone_short c.args.fields.now c.loop-i.i c.index-fields-i.result c.loop-i-test.true c.index-fields-i.is c.requires.greatest c.loop-i.ends c.loop-i.invariant.same

pub loop-i-preserved : goal.loop-i-preserved
loop-i-preserved c = record {
  same = offsets.ends_next c.args.fields.now c.loop-i.i c.index-fields-i.result c.loop-i-test.true c.index-fields-i.is c.loop-i.ends c.in_ok-ends.ends c.loop-i.invariant.same c.in_ok-ends.ensures;
  up = c.count-in-loop-i.ensures.ascending;
}

pub returns : goal.returns
returns c =
    offsets.are_offsets c.args.fields.now c.loop-i.ends c.requires.greatest c.loop-i.invariant.up
    (offsets.all_fields c.args.fields.now c.loop-i.i c.loop-i.ends (omega (arith, c.loop-i-test.false)) c.loop-i.invariant.same)
