use Rattle.bit_length.specs.Lengths.{Has, Sums}
use Rattle.layout.proofs.Sets.{never_long}
use Rattle.layout.proofs.within.sum.Goals as goal

pub short-requires : goal.short-requires
short-requires c = never_long c.sum.result (Sums (Has c.args.a.now) (Has c.args.b.now)) c.sum.ensures.long c.requires
