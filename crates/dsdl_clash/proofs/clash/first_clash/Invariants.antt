use Rattle.std.proofs.Common.{◌≡◌}
use Rattle.dsdl_clash.specs.Clashes.{first_clash}
use Rattle.dsdl_clash.specs.Kinds.{clash_of}
use Rattle.dsdl_clash.proofs.ClashLemmas.{found_from}
use Rattle.dsdl_clash.proofs.clash.first_clash.Given as goal

abbrev pub invariant-loop-at : goal.invariant-loop-at
invariant-loop-at l = found_from (clash_of l.by) l.definitions l.at ≡ first_clash (clash_of l.by) l.definitions
