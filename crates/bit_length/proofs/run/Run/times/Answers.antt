use Rattle.bit_length.proofs.RunLemmas.{times_repeats}
use Rattle.bit_length.proofs.run.Run.times.Goals as goal

pub returns-clause-repeats : goal.returns-clause-repeats
returns-clause-repeats c = times_repeats c.args.step c.args.self.now c.args.n c.requires.run
