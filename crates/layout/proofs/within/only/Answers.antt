use Rattle.std.proofs.Common.{arith}
use Rattle.bit_length.specs.Lengths.{Only}
use Rattle.layout.proofs.Sets.{never_long}
use Rattle.layout.proofs.within.only.Goals as goal

pub short-requires : goal.short-requires
short-requires c = never_long c.of.result (Only c.args.n) c.of.ensures.long (λ n e. omega (arith, e, c.requires))
