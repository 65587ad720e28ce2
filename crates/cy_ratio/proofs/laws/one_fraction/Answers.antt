use Rattle.cy_ratio.proofs.OneLemmas.{one_worth, one_order}
use Rattle.cy_ratio.proofs.laws.one_fraction.Goals as goal

pub returns-clause-worth : goal.returns-clause-worth
returns-clause-worth c = one_worth

pub returns-clause-order : goal.returns-clause-order
returns-clause-order c = one_order
