use Rattle.std.proofs.Common.{◌≡◌, ◌++◌}
use Rattle.std.specs.Prelude.{filter_map, Option}
use Rattle.dsdl_types.specs.declared.definition.Definition.{Definition}
use Rattle.dsdl_resolve.proofs.in_order.filled.Given as goal

abbrev pub invariant-loop-slot : goal.invariant-loop-slot
invariant-loop-slot l = l.definitions ++ filter_map (λ (slot : Option Definition). slot) l.slot-iterator.rest.items ≡ filter_map (λ (slot : Option Definition). slot) l.fn.slots.items
