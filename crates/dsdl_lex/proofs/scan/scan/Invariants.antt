use Rattle.dsdl_lex.proofs.Scanned.{Scanned}
use Rattle.dsdl_lex.proofs.scan.scan.Given as goal

abbrev pub invariant-loop-i : goal.invariant-loop-i
invariant-loop-i l = Scanned l.fn.start l.text l.i l.state l.best
