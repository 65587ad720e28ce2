use Rattle.std.proofs.Common.{◌≡◌, ◌≤◌, ◌*◌, ◌^◌, take}
use Rattle.std.specs.Prelude.{sum_by}
use Rattle.node_plan.specs.Bound.{sub_bound}
use Rattle.node_plan.proofs.memory.subs_bound.Given as goal

abbrev pub invariant-loop-sub : goal.invariant-loop-sub
invariant-loop-sub l = record {
  value : l.total ≡ sum_by sub_bound (take l.sub-index l.subs);
  most : l.total ≤ l.sub-index * 2 ^ 23;
}
