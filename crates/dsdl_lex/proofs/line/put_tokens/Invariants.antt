use Rattle.std.proofs.Common.{length, ◌-◌}
use Rattle.dsdl_lex.proofs.Going.{Going}
use Rattle.dsdl_lex.proofs.line.put_tokens.Given as goal

abbrev pub invariant-loop-at : goal.invariant-loop-at
invariant-loop-at l = Going l.line l.tokens l.at l.clear

abbrev pub decreases-loop-at : goal.decreases-loop-at
decreases-loop-at l = length l.line - l.at
