use Rattle.std.proofs.Common.{arith}
use Rattle.bit_length.proofs.RunLemmas.{wide_carried_sums, wide_last}
use Rattle.bit_length.proofs.run.Run.plus_wide.Goals as goal

pub overflow_add-result-4 : goal.overflow_add-result-4
overflow_add-result-4 c =
    let l = wide_last c.args.step c.args.many c.args.self.now c.args.o.now (omega (arith, c.requires.run.0)) c.requires.short in omega (arith, l)

pub returns-clause-sums : goal.returns-clause-sums
returns-clause-sums c =
    wide_carried_sums c.args.step c.args.many c.args.self.now c.args.o.now (omega (arith, c.requires.run.0)) c.requires.positive c.requires.long c.requires.other.1
