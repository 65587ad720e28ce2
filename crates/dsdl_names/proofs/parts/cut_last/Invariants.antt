use Rattle.std.proofs.Common.{◌≡◌, ◌≤◌, None, length, drop}
use Rattle.dsdl_names.specs.Parts.{cut_last}
use Rattle.dsdl_names.proofs.parts.cut_last.Given as goal

-- what was passed has no such byte
abbrev pub invariant-loop-i : goal.invariant-loop-i
invariant-loop-i l = record {
  within : l.i ≤ length l.text;
  none : cut_last l.b (drop l.i l.text) ≡ None;
}

abbrev pub decreases-loop-i : goal.decreases-loop-i
decreases-loop-i l = l.i
