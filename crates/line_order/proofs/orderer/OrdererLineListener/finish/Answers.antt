use Rattle.line_order.specs.Held.{held_of}
use Rattle.line_order.specs.Order.{texts}
use Rattle.line_order.proofs.Steps.{last_words}
use Rattle.line_order.proofs.orderer.OrdererLineListener.finish.Goals as goal

pub returns : goal.returns
returns c first past h = (texts (held_of c.args.self.now.held), last_words first c.args.self.now past h, c.in_ok-release_all.ensures h.1.sound)
