use Rattle.std.proofs.Common.{ℕ, ◌≡◌, ◌+◌, ◌*◌, ◌%◌, ◌≤◌, ◌<◌}
use Rattle.bit_length.proofs.run.Run.leaves.Given as goal

abbrev pub invariant-loop-quotient : goal.invariant-loop-quotient
invariant-loop-quotient l =
    (q : ℕ) → l.self.first ≤ q → q < l.quotient → (l.self.residue + l.step * q) % l.k ≡ l.r → ⊥
