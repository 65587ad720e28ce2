use Rattle.std.proofs.Common.{◌≡◌, ◌≤◌, List, length, take, drop}
use Rattle.dsdl_resolve.specs.Placing.{AreNumbered, Places}
use Rattle.dsdl_resolve.specs.Valuing.{Done}
use Rattle.dsdl_resolve.proofs.in_order.place.Given as goal

-- the types that were taken are at their places
abbrev pub invariant-loop-definition : goal.invariant-loop-definition
invariant-loop-definition l = record {
  few : length l.left.items ≤ length l.numbers;
  front : l.left.items ≡ take (length l.left.items) l.fn.definitions.items;
  placed : (done : List Done) → AreNumbered done l.numbers l.fn.definitions.items → Places (drop (length l.left.items) done) l.initial.slots.items l.slots.items;
}

abbrev pub decreases-loop-definition : goal.decreases-loop-definition
decreases-loop-definition l = length l.left.items
