use Rattle.rx_table.proofs.Admissions.{admitted_lasts}
use Rattle.rx_table.proofs.laws.admitted_lasts.Goals as goal

pub returns : goal.returns
returns c = admitted_lasts
