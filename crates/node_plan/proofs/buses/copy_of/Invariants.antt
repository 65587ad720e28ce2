use Rattle.std.proofs.Common.{◌≡◌, take}
use Rattle.node_plan.proofs.buses.copy_of.Given as goal

abbrev pub invariant-loop-bus : goal.invariant-loop-bus
invariant-loop-bus l = l.copied ≡ take l.bus-index l.bus-items
