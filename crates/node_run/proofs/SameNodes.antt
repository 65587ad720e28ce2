-- The same node, from call to call.
use Rattle.std.proofs.Common.{◌≡◌, ◌∙◌, refl}
use Rattle.node_core.specs.Stands.{StandsAsBefore}
use Rattle.node_core.specs.declared.node.Node.{Node}
use Rattle.node_run.specs.Leaves.{IsSameNode}

-- where nothing was done
pub still : (node : Node) → IsSameNode node node
still node = record { plan = refl; latest = refl; stands = λ past s. s }

-- by two calls, one after the other
pub same_then : {a b c : Node} → IsSameNode a b → IsSameNode b c → IsSameNode a c
same_then x y = record {
  plan = y.plan ∙ x.plan;
  latest = y.latest ∙ x.latest;
  stands = λ past s. y.stands past (x.stands past s);
}

-- by a call that says each of it
pub same_by : {a b : Node} → b.plan ≡ a.plan → b.latest ≡ a.latest → StandsAsBefore a b → IsSameNode a b
same_by p l s = record { plan = p; latest = l; stands = s }
