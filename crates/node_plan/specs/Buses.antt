-- The names of a plan's buses.
use Rattle.std.specs.Prelude.{ℕ, List, [], Option, Some, None, slice_get}
use Rattle.node_plan.specs.declared.plan.BusPlan.{BusPlan}

abbrev pub name_of : Option BusPlan → List ℕ
name_of None = []
name_of (Some bus) = bus.name

-- the name of the bus at a place of the plan
abbrev pub bus_text : List BusPlan → ℕ → List ℕ
bus_text buses bus = name_of (slice_get buses bus)
