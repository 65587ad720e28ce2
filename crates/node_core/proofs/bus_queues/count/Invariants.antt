use Rattle.std.proofs.Common.{◌≡◌, ◌≤◌, ◌*◌, map, take}
use Rattle.node_core.specs.Buses.{queue_of}
use Rattle.node_core.specs.Queues.{waiting}
use Rattle.node_core.proofs.bus_queues.count.Given as goal

abbrev pub invariant-loop-queue : goal.invariant-loop-queue
invariant-loop-queue l = record {
  total : l.total ≡ waiting (map queue_of (take l.queue-index l.buses));
  few : l.total ≤ l.queue-index * 4096;
}
