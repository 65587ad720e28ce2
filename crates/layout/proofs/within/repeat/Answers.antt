use Rattle.bit_length.specs.Lengths.{Has, Repeats}
use Rattle.layout.proofs.Sets.{never_long}
use Rattle.layout.proofs.within.repeat.Goals as goal

pub short-requires : goal.short-requires
short-requires c = never_long c.repeat.result (Repeats (Has c.args.a.now) c.args.n) c.repeat.ensures.long c.requires
