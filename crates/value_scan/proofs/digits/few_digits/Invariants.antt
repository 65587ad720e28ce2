use Rattle.value_scan.proofs.DigitLemmas.{Few}
use Rattle.value_scan.proofs.digits.few_digits.Given as goal

abbrev pub invariant-loop-index : goal.invariant-loop-index
invariant-loop-index l = Few l.bytes l.index l.len l.number
