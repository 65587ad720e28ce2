use Rattle.dsdl_parse.proofs.Versions.{DigitsLeft}
use Rattle.dsdl_parse.proofs.reference.version.Given as goal

abbrev pub invariant-loop-b : goal.invariant-loop-b
invariant-loop-b l = DigitsLeft l.digits l.number l.b-index
