use Rattle.std.proofs.Common.{◌≡◌, ◌≤◌, take, map}
use Rattle.dsdl_clash.specs.Names.{IsReached}
use Rattle.dsdl_clash.proofs.OrderLemmas.{number_of}
use Rattle.dsdl_clash.proofs.numbers.numbers_in_order.Given as goal

abbrev pub invariant-loop-i : goal.invariant-loop-i
invariant-loop-i l = record {
  within : l.number ≤ l.i;
  reached : IsReached l.definitions l.number l.i;
  numbers : l.numbers.items ≡ map (number_of l.definitions) (take l.i l.definitions);
}
