-- Which events an allocator may hear, and the events that it stands for.
use Rattle.std.specs.Prelude.{◌≡◌, ℕ, ◌≤◌, List, ⊤}
use Rattle.pnp_alloc.specs.declared.event.AllocEvent.{AllocEvent}
use Rattle.pnp_alloc.specs.declared.event.AllocEvent.TheVariants.{Seen, Wanted}
use Rattle.pnp_alloc.specs.declared.allocator.Allocator.{Allocator}
use Rattle.pnp_alloc.specs.Allocation.{is_free, owners}
use Rattle.pnp_alloc.specs.Used.{is_open}

-- a node that is seen has a node-ID
abbrev pub IsFit : AllocEvent → Type 0
IsFit (Seen n) = n ≤ 127
IsFit (Wanted u) = ⊤

-- what an allocator keeps is what these events give: the owners, and which numbers are free
pub record Stands (own : ℕ) (past : List AllocEvent) (a : Allocator) : Type 0 where
  pub owners_are : a.owners ≡ owners own past
  pub free_are : (n : ℕ) → n ≤ 127 → is_open a.used n ≡ is_free own past (owners own past) n
