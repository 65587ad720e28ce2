use Rattle.std.proofs.Common.{get_or}
use Rattle.bit_length.proofs.RunLemmas.{last_bound}
use Rattle.bit_length.proofs.SetLemmas.{no_run, other_run}
use Rattle.bit_length.proofs.run_set.RunSet.cost.Goals as goal

pub parts_of-requires-clause-short : goal.parts_of-requires-clause-short
parts_of-requires-clause-short c =
    let s = c.self.inside.step in
    let others = c.self.inside.others.items in
    let i = c.loop-run.run-index in
    let lt = rw c.deref-run-items.ensures.value at c.loop-run-test.true in
    rw c.deref-run-items.ensures.value (last_bound s (get_or others i no_run) (other_run s others c.self.inside.last i c.self.invariant lt))
