use Rattle.std.proofs.Common.{◌≤◌, length}
use Rattle.dsdl_clash.proofs.NameLemmas.{PlacedFrom}
use Rattle.dsdl_clash.proofs.numbers.places_of.Given as goal

abbrev pub invariant-loop-i : goal.invariant-loop-i
invariant-loop-i l = record {
  within : l.i ≤ length l.definitions;
  placed : PlacedFrom l.definitions l.i l.places;
}

abbrev pub decreases-loop-i : goal.decreases-loop-i
decreases-loop-i l = l.i
