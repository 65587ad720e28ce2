use Rattle.line_order.specs.Queue.{queued}
use Rattle.line_order.proofs.Places.{no_late}
use Rattle.line_order.proofs.window.Window.late_is_first.Goals as goal

pub returns-then-is_empty : goal.returns-then-is_empty
returns-then-is_empty c = no_late c.args.self.now.late.entries (queued c.args.self.now.queue) (c.is_empty.ensures.0 c.if-is_empty.true)
