use Rattle.node_core.proofs.Messages.{placed_within}
use Rattle.node_core.proofs.node.Node.is_untyped.Goals as goal

pub shape_on-requires : goal.shape_on-requires
shape_on-requires c = placed_within c.args.self.now c.args.quick.now c.requires
