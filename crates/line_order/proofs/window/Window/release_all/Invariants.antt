use Rattle.std.proofs.Common.{◌≡◌, ◌++◌}
use Rattle.line_text.specs.Buffer.{text_of}
use Rattle.line_order.specs.Held.{IsSound, count_of, held_of}
use Rattle.line_order.specs.Order.{texts}
use Rattle.line_order.proofs.window.Window.release_all.Given as goal

abbrev pub invariant-lines : goal.invariant-lines
invariant-lines l = IsSound l.fn.self → (text_of l.gathered ++ texts (held_of l.self) ≡ text_of l.fn.gathered ++ texts (held_of l.fn.self)) × IsSound l.self

abbrev pub decreases-lines : goal.decreases-lines
decreases-lines l = count_of l.self
