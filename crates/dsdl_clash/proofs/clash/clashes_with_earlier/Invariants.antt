use Rattle.std.proofs.Common.{◌≡◌, false, take}
use Rattle.std.specs.List.{HoldsAt}
use Rattle.dsdl_clash.specs.Clashes.{clashes_with}
use Rattle.dsdl_clash.specs.Kinds.{clash_of}
use Rattle.dsdl_clash.proofs.clash.clashes_with_earlier.Given as goal

abbrev pub invariant-loop-earlier : goal.invariant-loop-earlier
invariant-loop-earlier l = HoldsAt (λ d. clashes_with (clash_of l.by) (take l.earlier l.definitions) d ≡ false) l.definitions l.at
