use Rattle.std.proofs.Common.{◌≡◌, ◌++◌}
use Rattle.dsdl_resolve.proofs.progress.append.Given as goal

abbrev pub invariant-loop-print : goal.invariant-loop-print
invariant-loop-print l = l.prints ++ l.print-iterator.rest.items ≡ l.initial.prints ++ l.fn.more
