use Rattle.rx_table.proofs.Sentences.{bad_crcs_are}
use Rattle.rx_table.proofs.laws.bad_crcs.Goals as goal

pub returns : goal.returns
returns c = bad_crcs_are
