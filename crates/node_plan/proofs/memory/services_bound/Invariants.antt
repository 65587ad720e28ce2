use Rattle.std.proofs.Common.{◌≡◌, ◌≤◌, ◌*◌, ◌^◌, take}
use Rattle.std.specs.Prelude.{sum_by}
use Rattle.node_plan.specs.Bound.{service_bound}
use Rattle.node_plan.proofs.memory.services_bound.Given as goal

abbrev pub invariant-loop-service : goal.invariant-loop-service
invariant-loop-service l = record {
  value : l.total ≡ sum_by service_bound (take l.service-index l.services);
  most : l.total ≤ l.service-index * 2 ^ 23;
}
