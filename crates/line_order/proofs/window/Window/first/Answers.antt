use Rattle.std.proofs.Common.{◌∙◌, sym}
use Rattle.line_order.specs.Held.{late_of}
use Rattle.line_order.specs.Queue.{queued}
use Rattle.line_order.proofs.Merge.{first_late, first_queued}
use Rattle.line_order.proofs.window.Window.first.Goals as goal

pub returns-then-late_is_first : goal.returns-then-late_is_first
returns-then-late_is_first c sound =
    let w = c.args.self.now in c.first_late.ensures ∙ first_late (late_of w) (queued w.queue) sound.rises (sym c.late_is_first.ensures ∙ c.if-late_is_first.true)

pub returns-else-late_is_first : goal.returns-else-late_is_first
returns-else-late_is_first c sound =
    let w = c.args.self.now in c.first.ensures ∙ first_queued (late_of w) (queued w.queue) sound.rises (sym c.late_is_first.ensures ∙ c.if-late_is_first.false)
