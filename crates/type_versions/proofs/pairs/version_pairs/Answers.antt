use Rattle.std.proofs.Common.{arith}
use Rattle.type_versions.proofs.Pairing.{pair_more, pairs_all}
use Rattle.type_versions.proofs.pairs.version_pairs.Goals as goal

pub loop-at-preserved : goal.loop-at-preserved
loop-at-preserved c =
    pair_more c.args.sorted.now c.loop-at.at c.index-sorted-at.result c.index-sorted-at-in-loop-at.result (let h = c.loop-at-test.true in let e = c.saturating_sub-at-end.ensures in omega arith) c.index-sorted-at.is c.index-sorted-at-in-loop-at.is c.loop-at.pairs.items c.push_versions.new.pairs.items c.loop-at.invariant c.in_ok-push_versions.ensures

pub returns : goal.returns
returns c =
    pairs_all c.args.sorted.now c.loop-at.at c.loop-at.pairs.items (let h = c.loop-at-test.false in let e = c.saturating_sub-at-end.ensures in omega arith) c.loop-at.invariant
