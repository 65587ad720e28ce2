use Rattle.std.proofs.Common.{take}
use Rattle.bit_length.specs.Lengths.{Has, Same}
use Rattle.dsdl_types.specs.Lengths.{VariantLength}
use Rattle.dsdl_types.specs.Views.{flds}
use Rattle.dsdl_resolve.proofs.offsets.variants_of.Given as goal

abbrev pub invariant-loop-i : goal.invariant-loop-i
invariant-loop-i l = Same (Has l.joined) (VariantLength (flds (take l.i l.fields)))
