use Rattle.std.proofs.Common.{subst}
use Rattle.bit_length.specs.Ascending.{Ascend}
use Rattle.bit_length.proofs.MovedLemmas.{moved_ascends}
use Rattle.bit_length.proofs.set.LengthSet.count.Goals as goal

pub returns-clause-ascending : goal.returns-clause-ascending
returns-clause-ascending c =
    subst Ascend c.self.view_is (moved_ascends c.self.inside.shift c.self.inside.runs c.count.ensures.ascending)
