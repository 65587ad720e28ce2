-- How much is counted of the lines of a session.
use Rattle.std.proofs.Common.{◌≤◌, Bool, List, [], ◌∷◌, length, arith}
use Rattle.log_explain.specs.declared.reasons.reason.Reason.{Reason}
use Rattle.log_explain.specs.Counts.{count, delivery_in, gaps, is_gap, last, one_if}
use Rattle.log_explain.specs.declared.line.FrameLine.{FrameLine}

one_most : (b : Bool) → one_if b ≤ 1
one_most Bool.true = omega arith
one_most Bool.false = omega arith

-- no more lines are counted than there are
pub count_few : (test : Reason → Bool) (ls : List FrameLine) → count test ls ≤ length ls
count_few test [] = omega arith
count_few test (line ∷ past) = omega (arith, count_few test past, one_most (test line.reason))

pub gaps_few : (ls : List FrameLine) → gaps ls ≤ length ls
gaps_few [] = omega arith
gaps_few (line ∷ past) = omega (arith, gaps_few past, one_most (is_gap (last past) (delivery_in line)))
