use Rattle.std.proofs.Common.{sym, ◌∙◌}
use Rattle.dsdl_parse.proofs.LeafWalk.{leaf_leaves}
use Rattle.dsdl_parse.proofs.walk.as_leaf.Goals as goal

pub returns-then-is_leaf-clause-leaf : goal.returns-then-is_leaf-clause-leaf
returns-then-is_leaf-clause-leaf c = leaf_leaves c.args.expr.now (sym c.is_leaf.ensures ∙ c.if-is_leaf.true)
