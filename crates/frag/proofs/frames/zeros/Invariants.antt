use Rattle.std.proofs.Common.{◌≡◌, replicate}
use Rattle.frag.proofs.frames.zeros.Given as goal

abbrev pub invariant-loop : goal.invariant-loop
invariant-loop l = l.bytes ≡ replicate l.counter 0
