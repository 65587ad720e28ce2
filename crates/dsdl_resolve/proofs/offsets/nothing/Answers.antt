use Rattle.std.proofs.Common.{arith, refl, []}
use Rattle.bit_length.specs.Lengths.{Only}
use Rattle.layout.proofs.Sets.{never_long}
use Rattle.dsdl_resolve.proofs.OffsetEnds.{are_offsets}
use Rattle.dsdl_resolve.proofs.OffsetVariants.{of_ok}
use Rattle.dsdl_resolve.proofs.offsets.nothing.Goals as goal

pub short-requires : goal.short-requires
short-requires c = never_long c.of.result (Only 0) c.of.ensures.long (λ n e. omega (arith, e))

pub returns : goal.returns
returns c = (refl, are_offsets [] c.in_ok-set.set (omega arith) c.count.ensures.ascending (of_ok c.of.result c.in_ok-set.set (Only 0) c.of.ensures.members c.in_ok-set.ensures))
