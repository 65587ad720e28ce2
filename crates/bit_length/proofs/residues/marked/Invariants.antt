use Rattle.std.proofs.Common.{◌≡◌}
use Rattle.bit_length.specs.Residues.{is_marked}
use Rattle.bit_length.specs.Runs.{numbers_below}
use Rattle.bit_length.proofs.residues.marked.Given as goal

abbrev pub invariant-loop-number : goal.invariant-loop-number
invariant-loop-number l = l.numbers ≡ numbers_below l.number (is_marked l.marks)
