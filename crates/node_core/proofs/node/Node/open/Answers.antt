use Rattle.std.proofs.Common.{◌∙◌, ap, sym, subst}
use Rattle.register_service.specs.Kept.{AreKept}
use Rattle.rx_table.specs.Ports.{ports_of as ports_in}
use Rattle.rx_table.specs.Table.{HeardBy}
use Rattle.node_core.proofs.Registers.{kept_registers}
use Rattle.node_core.proofs.Tables.{nothing_heard, ports_in-subscribed}
use Rattle.node_core.proofs.node.Node.open.Goals as goal

pub invariant_of-result-clause-in_time : goal.invariant_of-result-clause-in_time
invariant_of-result-clause-in_time c = subst (HeardBy 0) (sym c.in_ok-table.ensures.ports_are) (nothing_heard 0 _)

pub returns-clause-stands : goal.returns-clause-stands
returns-clause-stands c = record {
  timeout = c.in_ok-table.ensures.waits;
  ports_are = ap ports_in c.in_ok-table.ensures.ports_are ∙ ports_in-subscribed _;
  types = c.in_ok-table.ensures.types;
  sessions = c.in_ok-table.ensures.stands;
}

pub open-requires : goal.open-requires
open-requires c = subst AreKept (sym c.as_slice.ensures) (kept_registers c.args.plan c.requires)
