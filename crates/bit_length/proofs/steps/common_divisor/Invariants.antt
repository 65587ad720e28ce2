use Rattle.std.proofs.Common.{ℕ, ◌+◌, ◌<◌}
use Rattle.std.specs.Int.{◌∣◌}
use Rattle.bit_length.proofs.steps.common_divisor.Given as goal

abbrev pub invariant-loop-y : goal.invariant-loop-y
invariant-loop-y l = record {
  divides : (d : ℕ) → d ∣ l.x → d ∣ l.y → (d ∣ l.a) × (d ∣ l.b);
  positive : 0 < l.b → 0 < l.x + l.y;
}

abbrev pub decreases-loop-y : goal.decreases-loop-y
decreases-loop-y l = l.y
