use Rattle.std.proofs.Common.{◌≡◌, ◌++◌, map, take}
use Rattle.std.specs.List.{flat_map}
use Rattle.node_plan.specs.Ports.{port_of_service}
use Rattle.node_run.specs.BoundText.{port_line}
use Rattle.node_run.proofs.log.bound_text.push_services.Given as goal

abbrev pub invariant-loop-service : goal.invariant-loop-service
invariant-loop-service l = l.text.items ≡ l.fn.text.items ++ flat_map port_line (map port_of_service (take l.service-index l.service-items))
