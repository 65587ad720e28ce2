use Rattle.std.proofs.Common.{All}
use Rattle.bit_length.specs.Runs.{IsRun}
use Rattle.bit_length.proofs.coarse.middle_runs.Given as goal

abbrev pub invariant-loop-middle : goal.invariant-loop-middle
invariant-loop-middle l = All (IsRun l.finer) l.runs.items
