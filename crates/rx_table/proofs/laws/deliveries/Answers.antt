use Rattle.rx_table.proofs.Sentences.{deliveries_are}
use Rattle.rx_table.proofs.laws.deliveries.Goals as goal

pub returns : goal.returns
returns c = deliveries_are
