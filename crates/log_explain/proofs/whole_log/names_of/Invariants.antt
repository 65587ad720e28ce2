use Rattle.std.proofs.Common.{◌≡◌, map, take}
use Rattle.node_plan.specs.declared.plan.BusPlan.{BusPlan}
use Rattle.log_explain.proofs.whole_log.names_of.Given as goal

abbrev pub invariant-loop-bus : goal.invariant-loop-bus
invariant-loop-bus l = l.names ≡ map (λ (bus : BusPlan). bus.name) (take l.bus-index l.bus-items)
