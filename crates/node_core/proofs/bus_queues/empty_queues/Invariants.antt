use Rattle.std.proofs.Common.{◌≡◌, map, take}
use Rattle.node_core.specs.Buses.{queue_of}
use Rattle.node_core.specs.Steps.{empty_queue}
use Rattle.node_core.proofs.bus_queues.empty_queues.Given as goal

abbrev pub invariant-loop-bus : goal.invariant-loop-bus
invariant-loop-bus l = map queue_of l.buses.items ≡ map (empty_queue l.plan.queue) (take l.bus-index l.bus-items)
