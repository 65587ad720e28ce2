use Rattle.std.proofs.Common.{◌≡◌, take, drop}
use Rattle.dsdl_names.specs.Parts.{parts_of}
use Rattle.dsdl_names.proofs.PartLemmas.{with_front}
use Rattle.dsdl_names.proofs.parts.cut.Given as goal

-- what was passed stands in front of the first part of what is left
abbrev pub invariant-loop-i : goal.invariant-loop-i
invariant-loop-i l = parts_of l.b l.text ≡ with_front (take l.i l.text) (parts_of l.b (drop l.i l.text))
