use Rattle.node_reach.proofs.responses.Responses.new.Goals as goal

pub returns-clause-hears : goal.returns-clause-hears
returns-clause-hears c = (c.in_ok-subscribe.ensures {u = tt}).hears _ (c.in_ok-ear.ensures {u = tt}).hears
