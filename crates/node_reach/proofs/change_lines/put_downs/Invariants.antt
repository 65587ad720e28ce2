use Rattle.std.proofs.Common.{◌≡◌, ◌++◌, drop}
use Rattle.line_text.specs.Buffer.{text_of}
use Rattle.net_monitor.specs.Changes.{downs}
use Rattle.node_reach.specs.ChangeLines.{change_lines}
use Rattle.node_reach.proofs.change_lines.put_downs.Given as goal

-- the lines so far, with those of the nodes that are left
abbrev pub invariant-loop-node : goal.invariant-loop-node
invariant-loop-node l =
    text_of l.text ++ change_lines l.moment (downs (drop l.node-index l.nodes)) ≡ text_of l.initial.text ++ change_lines l.moment (downs l.nodes)
