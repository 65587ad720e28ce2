use Rattle.std.proofs.Common.{ℕ, ◌≡◌, ◌+◌, ◌-◌, ◌*◌, ◌<◌}
use Rattle.bit_length.specs.Lengths.{Has}
use Rattle.bit_length.specs.Moved.{Moved}
use Rattle.bit_length.proofs.run_set.RunSet.has_class.Given as goal

abbrev pub invariant-loop-quotient : goal.invariant-loop-quotient
invariant-loop-quotient l =
    (j : ℕ) × (l.quotient ≡ l.from + l.period * j) × ((i : ℕ) → i < j → Moved l.at (Has l.self) (l.run.residue + l.step * (l.from + l.period * i)))

abbrev pub decreases-loop-quotient : goal.decreases-loop-quotient
decreases-loop-quotient l = l.run.last + 1 - l.quotient
