use Rattle.bit_length.specs.Lengths.{Delimited}
use Rattle.layout.proofs.Sets.{never_long}
use Rattle.layout.proofs.within.delimited.Goals as goal

pub short-requires : goal.short-requires
short-requires c = never_long c.delimited.result (Delimited c.args.extent) c.delimited.ensures.long c.requires.short
