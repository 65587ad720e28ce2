use Rattle.line_order.proofs.Places.{late_moment}
use Rattle.line_order.proofs.window.Window.first_late.Goals as goal

pub returns-in-Some : goal.returns-in-Some
returns-in-Some c = late_moment c.args.self.now.late.entries c.in-Some.place.now c.in-Some.field-0-1.now c.in-Some.ensures.first
