use Rattle.const_expr.proofs.CompareLemmas.{lengths_within}
use Rattle.const_expr.proofs.compare.lengths_in_lengths.Goals as goal

pub returns : goal.returns
returns c = lengths_within c.args.lengths.now c.args.others.now c.is_within.result c.is_within.ensures
