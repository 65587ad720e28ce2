use Rattle.std.proofs.Common.{◌≡◌, ◌++◌, map, take}
use Rattle.std.specs.List.{flat_map}
use Rattle.node_plan.specs.Ports.{port_of_sub}
use Rattle.node_run.specs.BoundText.{port_line}
use Rattle.node_run.proofs.log.bound_text.push_subs.Given as goal

abbrev pub invariant-loop-sub : goal.invariant-loop-sub
invariant-loop-sub l = l.text.items ≡ l.fn.text.items ++ flat_map port_line (map port_of_sub (take l.sub-index l.sub-items))
