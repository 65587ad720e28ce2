use Rattle.std.proofs.Common.{◌≡◌, drop}
use Rattle.pnp_alloc.specs.Allocation.{node_of}
use Rattle.pnp_alloc.proofs.allocator.Allocator.node_of.Given as goal

-- the owners so far have another unique id
abbrev pub invariant-loop-owner : goal.invariant-loop-owner
invariant-loop-owner l = node_of l.uid l.self.owners ≡ node_of l.uid (drop l.owner-index l.owner-items)
