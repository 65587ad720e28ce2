use Rattle.std.proofs.Common.{◌+◌, length, take}
use Rattle.node_plan.specs.Ports.{ports}
use Rattle.node_core.specs.Tables.{IsTableOf}
use Rattle.node_core.proofs.ports.subscribe_services.Given as goal

abbrev pub invariant-loop-service : goal.invariant-loop-service
invariant-loop-service l = IsTableOf l.plan.timeout (take (length l.plan.subs + l.service-index) (ports l.plan)) l.table
