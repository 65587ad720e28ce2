use Rattle.node_plan.proofs.PortLemmas.{ports_differ, ports_fit}
use Rattle.node_plan.proofs.laws.ports_are_fit.Goals as goal

pub returns-clause-fit : goal.returns-clause-fit
returns-clause-fit c = ports_fit

pub returns-clause-differ : goal.returns-clause-differ
returns-clause-differ c = ports_differ
