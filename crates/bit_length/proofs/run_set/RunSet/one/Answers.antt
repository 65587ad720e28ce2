use Rattle.bit_length.proofs.SetLemmas.{single_value}
use Rattle.bit_length.proofs.run_set.RunSet.one.Goals as goal

pub returns : goal.returns
returns c = single_value c.args.step c.new.result.items c.args.run c.new.ensures.items c.requires
