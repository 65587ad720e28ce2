use Rattle.value_scan.proofs.DigitLemmas.{Wrote}
use Rattle.value_scan.proofs.digits.with_later.Given as goal

-- the digits so far write the number
abbrev pub invariant-loop-index : goal.invariant-loop-index
invariant-loop-index l = Wrote l.bytes l.index l.number
