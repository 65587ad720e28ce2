use Rattle.std.proofs.Common.{ℕ, ◌+◌, ◌-◌, ◌*◌, ◌%◌, ◌≤◌, ◌<◌}
use Rattle.bit_length.specs.Lengths.{Has}
use Rattle.bit_length.specs.Moved.{Moved}
use Rattle.bit_length.proofs.run_set.RunSet.has_run.Given as goal

abbrev pub invariant-loop-class : goal.invariant-loop-class
invariant-loop-class l =
    (q : ℕ) → l.run.first ≤ q → q ≤ l.run.last → (q - l.run.first) % l.period < l.class → Moved l.at (Has l.self) (l.run.residue + l.step * q)
