use Rattle.std.proofs.Common.{◌≡◌, ◌++◌, drop}
use Rattle.line_text.specs.Buffer.{text_of}
use Rattle.node_reach.specs.Monitored.{node_lines}
use Rattle.node_reach.proofs.monitoring.put_nodes.Given as goal

-- the lines so far, with those of the nodes that are left
abbrev pub invariant-loop-node : goal.invariant-loop-node
invariant-loop-node l =
    text_of l.gathered ++ node_lines l.online (drop l.node-index l.nodes) ≡ text_of l.initial.gathered ++ node_lines l.online l.nodes
