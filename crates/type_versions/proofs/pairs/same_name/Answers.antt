use Rattle.std.proofs.Common.{rules}
use Rattle.std.specs.Cmp.Lexicographic.{texts_ties}
use Rattle.type_versions.proofs.pairs.same_name.Goals as goal

pub returns : goal.returns
returns c = search (rules, texts_ties)
