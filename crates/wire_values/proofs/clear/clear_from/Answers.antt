use Rattle.std.proofs.Common.{arith, rules}
use Rattle.wire_values.proofs.Buffers.{cleared_all, cleared_more}
use Rattle.wire_values.proofs.clear.clear_from.Goals as goal

pub loop-i-preserved : goal.loop-i-preserved
loop-i-preserved c =
    let inv = c.loop-i.invariant in
    record {
      past = omega (arith, inv.past);
      within = omega (arith, c.loop-i-test.true, inv.size);
      size = search rules;
      out = cleared_more c.args.out.now c.loop-i.out c.args.from c.loop-i.i inv.past (omega (arith, c.loop-i-test.true, inv.size)) inv.out;
    }

pub returns : goal.returns
returns c =
    let inv = c.loop-i.invariant in
    cleared_all c.args.out.now c.loop-i.out c.args.from c.loop-i.i (omega (arith, c.loop-i-test.false, inv.size)) inv.within inv.out
