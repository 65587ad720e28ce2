use Rattle.std.proofs.Common.{◌≡◌, ◌≤◌, ◌++◌, length, map, take, drop}
use Rattle.node_core.specs.Buses.{queue_of}
use Rattle.node_core.specs.Queues.{fulls_from, push}
use Rattle.node_core.specs.Transfers.{sends_of}
use Rattle.report_lines.specs.declared.line.Line.TheVariants.{Full}
use Rattle.node_core.proofs.bus_queues.push_on_each.Given as goal

abbrev pub invariant-loop-bus : goal.invariant-loop-bus
invariant-loop-bus l = record {
  queues : map queue_of l.buses ≡ map (push (sends_of l.transfer)) (take l.bus (map queue_of l.initial.buses)) ++ drop l.bus (map queue_of l.initial.buses);
  fulls : map Full l.fulls ≡ fulls_from l.moment 0 (sends_of l.transfer) (take l.bus (map queue_of l.initial.buses));
  few : length l.fulls ≤ l.bus;
}
