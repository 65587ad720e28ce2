use Rattle.std.proofs.Common.{◌≡◌, take, drop}
use Rattle.node_plan.specs.Words.{parts_of}
use Rattle.node_plan.proofs.PartsLemmas.{with_front}
use Rattle.node_plan.proofs.words.cut.Given as goal

-- what was passed stands in front of the first part of what is left
abbrev pub invariant-loop-i : goal.invariant-loop-i
invariant-loop-i l = parts_of l.b l.text ≡ with_front (take l.i l.text) (parts_of l.b (drop l.i l.text))
