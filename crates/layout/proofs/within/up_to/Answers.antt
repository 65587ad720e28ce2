use Rattle.bit_length.specs.Lengths.{Has, UpTo}
use Rattle.layout.proofs.Sets.{never_long}
use Rattle.layout.proofs.within.up_to.Goals as goal

pub short-requires : goal.short-requires
short-requires c = never_long c.up_to.result (UpTo (Has c.args.a.now) c.args.n) c.up_to.ensures.long c.requires
