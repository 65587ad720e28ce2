use Rattle.std.proofs.Common.{◌≡◌, drop}
use Rattle.line_order.specs.Form.{behind_spaces}
use Rattle.line_order.proofs.form.behind_spaces.Given as goal

abbrev pub invariant-loop-i : goal.invariant-loop-i
invariant-loop-i l = behind_spaces l.s ≡ behind_spaces (drop l.i l.s)
