use Rattle.std.proofs.Common.{◌≡◌, ◌∙◌, ◌++◌, ◌∷◌, [], ℕ, List, refl, ap}
use Rattle.line_order.specs.Held.{late_of}
use Rattle.line_order.specs.Order.{entry, put}
use Rattle.line_order.specs.Queue.{queued}
use Rattle.line_order.specs.declared.window.Window.{Window}
use Rattle.line_order.proofs.Merge.{below_late}
use Rattle.line_order.proofs.Places.{Held, entries_at, insert_put, place_greater, place_less}
use Rattle.line_order.proofs.Windows.{puts_late}
use Rattle.line_order.proofs.window.Window.put_late.Goals as goal

pub returns-in-Ok : goal.returns-in-Ok
returns-in-Ok c sound below =
    let old = c.args.self.now in
    let place = c.args.place in
    let text = c.extend_from_slice.new.self in
    let new : Window = record { queue = old.queue; late = c.insert.new.self; latest = old.latest } in
    let same : text.items ≡ c.args.line.now = c.in_ok-extend_from_slice.ensures.items ∙ ap (λ (t : List ℕ). t ++ c.args.line.now) c.in_ok-text.ensures.items in
    let late : late_of new ≡ put (entry place.moment place.number (c.args.line.now ++ 10 ∷ [])) (late_of old) =
    ap (λ (ps : List Held). entries_at ps) c.in-Ok.ensures.entries
    ∙ (insert_put _ place_less place_greater place text old.late.entries (below_late place.number (late_of old) (queued old.queue) below)
    ∙ ap (λ (t : List ℕ). put (entry place.moment place.number (t ++ 10 ∷ [])) (late_of old)) same) in
    puts_late old new (entry place.moment place.number (c.args.line.now ++ 10 ∷ [])) c.requires refl refl late sound
