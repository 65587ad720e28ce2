use Rattle.bit_length.specs.Lengths.{Has, Pads}
use Rattle.layout.proofs.Sets.{never_long}
use Rattle.layout.proofs.within.pad.Goals as goal

pub short-requires : goal.short-requires
short-requires c = never_long c.pad.result (Pads (Has c.args.a.now) 8) c.pad.ensures.long c.requires
