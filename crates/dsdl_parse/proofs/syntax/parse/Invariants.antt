use Rattle.std.proofs.Common.{length}
use Rattle.dsdl_parse.proofs.Parsed.{Going}
use Rattle.dsdl_parse.proofs.syntax.parse.Given as goal

abbrev pub invariant-loop-line : goal.invariant-loop-line
invariant-loop-line l = Going l.text l.rest l.lines

abbrev pub decreases-loop-line : goal.decreases-loop-line
decreases-loop-line l = length l.rest
