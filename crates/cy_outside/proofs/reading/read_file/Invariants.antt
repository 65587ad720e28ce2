use Rattle.std.proofs.Common.{◌≡◌, ◌≤◌, ◌-◌, ◌+◌, ◌*◌, length}
use Rattle.cy_outside.proofs.Fronts.{IsFront}
use Rattle.cy_outside.proofs.reading.read_file.Given as goal

abbrev pub invariant-pieces : goal.invariant-pieces
invariant-pieces g l = record {
  files : g.T.Tree.files l.tree ≡ g.T.Tree.files l.fn.tree;
  faults : g.T.Tree.faults l.tree ≡ g.T.Tree.faults l.fn.tree;
  calls : 8192 * g.T.Tree.calls l.tree ≤ 8192 * g.T.Tree.calls l.fn.tree + length l.bytes.items;
  most : length l.bytes.items ≤ l.most;
  front : IsFront (g.T.Tree.files l.fn.tree) l.path l.bytes.items;
}

abbrev pub decreases-pieces : goal.decreases-pieces
decreases-pieces g l = l.most - length l.bytes.items
