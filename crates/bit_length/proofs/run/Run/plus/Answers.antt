use Rattle.std.proofs.Common.{arith}
use Rattle.bit_length.proofs.RunLemmas.{sums_of_runs}
use Rattle.bit_length.proofs.run.Run.plus.Goals as goal
use Rattle.bit_length.proofs.run.Run.plus.Goals.{then-residue-step, else-residue-step}

pub returns-clause-sums : goal.returns-clause-sums
returns-clause-sums c =
    sums_of_runs c.args.step c.args.self.now c.args.o.now c.if-residue-step.carry (elim c.if-residue-step.branch [ then-residue-step w ↦ let e = w.carry-is in rw e (omega arith) | else-residue-step w ↦ let e = w.carry-is in rw e (omega arith) ]) c.requires.run.1 c.requires.other.1
