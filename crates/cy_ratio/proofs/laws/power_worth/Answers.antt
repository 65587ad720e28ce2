use Rattle.cy_ratio.proofs.PowerWorth.{power_worth, reciprocal_worth}
use Rattle.cy_ratio.proofs.laws.power_worth.Goals as goal

pub returns-clause-whole : goal.returns-clause-whole
returns-clause-whole c = power_worth

pub returns-clause-reciprocal : goal.returns-clause-reciprocal
returns-clause-reciprocal c = reciprocal_worth
