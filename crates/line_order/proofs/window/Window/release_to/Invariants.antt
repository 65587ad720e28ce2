use Rattle.line_text.specs.Buffer.{text_of}
use Rattle.line_order.specs.Held.{HasLetGo, IsSound, count_of}
use Rattle.line_order.proofs.window.Window.release_to.Given as goal

abbrev pub invariant-lines : goal.invariant-lines
invariant-lines l = IsSound l.fn.self → HasLetGo l.limit l.fn.self l.self (text_of l.fn.gathered) (text_of l.gathered)

abbrev pub decreases-lines : goal.decreases-lines
decreases-lines l = count_of l.self
