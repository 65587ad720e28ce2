use Rattle.std.proofs.Common.{take}
use Rattle.bit_length.specs.Lengths.{Has, Same}
use Rattle.dsdl_types.specs.Lengths.{EndsAt}
use Rattle.dsdl_types.specs.Views.{flds}
use Rattle.bit_length.specs.Ascending.{Ascend}
use Rattle.dsdl_resolve.proofs.offsets.ends_behind.Given as goal

abbrev pub invariant-loop-i : goal.invariant-loop-i
invariant-loop-i l = record { same : Same (Has l.ends) (EndsAt (flds (take l.i l.fields)) 0); up : Ascend l.ends }
