use Rattle.std.proofs.Common.{◌≡◌, ◌≤◌}
use Rattle.pnp_alloc.specs.Allocation.{greatest}
use Rattle.pnp_alloc.specs.Used.{is_open}
use Rattle.pnp_alloc.proofs.allocator.Allocator.greatest_free.Given as goal

-- nothing above the number is free
abbrev pub invariant-loop-number : goal.invariant-loop-number
invariant-loop-number l = (l.number ≤ l.self.top) × (greatest (is_open l.self.used) 125 ≡ greatest (is_open l.self.used) l.number)

abbrev pub decreases-loop-number : goal.decreases-loop-number
decreases-loop-number l = l.number
