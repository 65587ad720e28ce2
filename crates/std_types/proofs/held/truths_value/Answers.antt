use Rattle.std.proofs.Common.{◌+◌, false, sym, subst}
use Rattle.dsdl_types.specs.Values.{Truth}
use Rattle.std_types.proofs.Rows.{Written, written_at}
use Rattle.std_types.proofs.held.truths_value.Goals as goal

pub loop-truth-preserved : goal.loop-truth-preserved
loop-truth-preserved c =
    subst (Written Truth c.args.truths.now (c.loop-truth.truth-index + 1)) (sym c.in_ok-push.ensures.items)
    (written_at Truth c.args.truths.now c.loop-truth.truth-index false c.loop-truth.items.items c.truth_value.result c.loop-truth-test.true c.truth_value.ensures c.loop-truth.invariant)
