use Rattle.std.proofs.Common.{◌++◌, ◌∷◌, [], refl}
use Rattle.line_order.specs.Order.{entry}
use Rattle.line_order.specs.declared.window.Window.{Window}
use Rattle.line_order.proofs.Windows.{puts_last}
use Rattle.line_order.proofs.window.Window.put_last.Goals as goal

pub returns : goal.returns
returns c sound below =
    let old = c.args.self.now in
    let place = c.args.place in
    let new : Window = record { queue = c.push.new.self; late = old.late; latest = place.moment } in
    puts_last old new (entry place.moment place.number (c.args.line.now ++ 10 ∷ [])) c.requires refl c.in_ok-push.ensures.held refl sound
