use Rattle.std.proofs.Common.{◌∙◌, ap, sym, arith}
use Rattle.node_core.specs.Queues.{waiting}
use Rattle.node_core.proofs.Queues.{nothing_waits, a_list_each}
use Rattle.node_core.proofs.bus_queues.BusQueues.new.Goals as goal

pub invariant_of-result : goal.invariant_of-result
invariant_of-result c =
    let made = c.in_ok-empty_queues.ensures in record {
      few = omega (arith, a_list_each _ _ _ made, c.requires.few_buses);
      total = sym (ap waiting made ∙ nothing_waits _ _);
    }
