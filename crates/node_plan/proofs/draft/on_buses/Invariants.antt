use Rattle.std.proofs.Common.{◌≡◌, map, take}
use Rattle.node_plan.specs.Draft.{on_bus}
use Rattle.node_plan.proofs.draft.on_buses.Given as goal

-- the buses so far were made
abbrev pub invariant-loop-bus : goal.invariant-loop-bus
invariant-loop-bus l = l.made ≡ map (on_bus l.mtu l.rate) (take l.bus-index l.bus-items)
