-- The types of the ports of a node that stands for records are those of its plan.
use Rattle.std.proofs.Common.{List, sym}
use Rattle.tail_frame.specs.declared.logged.Record.{Record}
use Rattle.node_plan.specs.Ports.{ports}
use Rattle.node_core.specs.Stands.{Stands}
use Rattle.node_core.specs.Types.{type_on}
use Rattle.node_core.specs.declared.node.Node.{Node}
use Rattle.node_core.proofs.Types.{first_type}
use Rattle.node_run.specs.Tells.{AreTypesOf}

pub types_of : (node : Node) (past : List Record) → Stands node past → AreTypesOf (type_on node.plan) node
types_of node past s key = sym (first_type key.kind key.port node.table.ports.items (ports node.plan) s.ports_are s.types.types)
