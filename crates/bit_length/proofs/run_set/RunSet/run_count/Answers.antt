use Rattle.bit_length.proofs.SetLemmas.{some_member}
use Rattle.bit_length.proofs.run_set.RunSet.run_count.Goals as goal

pub returns : goal.returns
returns c =
    some_member c.self.inside.step c.self.inside.others.items c.self.inside.last c.args.self.now c.self.invariant c.self.view_is
