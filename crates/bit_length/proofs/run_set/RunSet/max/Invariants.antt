use Rattle.std.proofs.Common.{◌≤◌, ◌^◌}
use Rattle.bit_length.specs.Lengths.{IsGreatest}
use Rattle.bit_length.specs.Runs.{InSome}
use Rattle.bit_length.proofs.SetLemmas.{front}
use Rattle.bit_length.proofs.run_set.RunSet.max.Given as goal

abbrev pub invariant-loop-run : goal.invariant-loop-run
invariant-loop-run l =
    IsGreatest (InSome l.self-inside.step (front l.self-inside.others.items l.self-inside.last l.run-index)) l.greatest × (l.greatest ≤ 2 ^ 32)
