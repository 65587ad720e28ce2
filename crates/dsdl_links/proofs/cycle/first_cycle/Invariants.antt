use Rattle.std.proofs.Common.{ℕ, ◌<◌}
use Rattle.dsdl_links.specs.Order.{Reaches}
use Rattle.dsdl_links.proofs.cycle.first_cycle.Given as goal

-- no file so far reaches itself
abbrev pub invariant-loop-file : goal.invariant-loop-file
invariant-loop-file l = (k : ℕ) → k < l.file → Reaches l.links k k → ⊥
