use Rattle.std.proofs.Common.{take}
use Rattle.node_plan.specs.Ports.{ports}
use Rattle.node_core.specs.Tables.{IsTableOf}
use Rattle.node_core.proofs.ports.subscribe_subs.Given as goal

abbrev pub invariant-loop-sub : goal.invariant-loop-sub
invariant-loop-sub l = IsTableOf l.plan.timeout (take l.sub-index (ports l.plan)) l.table
