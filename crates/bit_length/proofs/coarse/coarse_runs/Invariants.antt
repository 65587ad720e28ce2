use Rattle.std.proofs.Common.{All}
use Rattle.bit_length.specs.Runs.{IsRun}
use Rattle.bit_length.proofs.coarse.coarse_runs.Given as goal

abbrev pub invariant-loop-run : goal.invariant-loop-run
invariant-loop-run l = All (IsRun l.finer) l.coarse.items
