use Rattle.cy_ratio.proofs.PowerLemmas.{Raises}
use Rattle.cy_ratio.proofs.ratio.raised.Given as goal

abbrev pub invariant-loop : goal.invariant-loop
invariant-loop l = Raises l.fn.a l.fn.b l.counter l.num l.den
