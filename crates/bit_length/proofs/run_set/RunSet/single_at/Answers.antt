use Rattle.bit_length.specs.Lengths.{Has, Only}
use Rattle.bit_length.specs.Runs.{InRun}
use Rattle.bit_length.proofs.SetLemmas.{same_join}
use Rattle.bit_length.proofs.run_set.RunSet.single_at.Goals as goal

pub returns-clause-members : goal.returns-clause-members
returns-clause-members c = same_join (InRun c.args.step c.single-2.result) (Only c.in_ok-n.n) (Has c.args.self.now) c.single-2.ensures.member c.in_ok-n.ensures.member
