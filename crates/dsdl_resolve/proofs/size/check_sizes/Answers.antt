use Rattle.dsdl_resolve.proofs.Sizes.{short_texts}
use Rattle.dsdl_resolve.proofs.size.check_sizes.Goals as goal

pub returns-clause-short : goal.returns-clause-short
returns-clause-short c = short_texts c.args.files.now c.loop-i.i c.loop-i-test.false c.loop-i.invariant
