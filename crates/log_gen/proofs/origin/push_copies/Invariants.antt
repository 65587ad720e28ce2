use Rattle.std.proofs.Common.{◌≡◌, ◌++◌, replicate}
use Rattle.log_gen.proofs.origin.push_copies.Given as goal

abbrev pub invariant-loop : goal.invariant-loop
invariant-loop l = l.pairs ≡ l.initial.pairs ++ replicate l.counter l.pair
