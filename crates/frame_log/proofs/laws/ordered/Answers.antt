use Rattle.std.proofs.Common.{◌^◌}
use Rattle.frame_log.specs.Log.{start}
use Rattle.frame_log.proofs.OrderLemmas.{ahead-from}
use Rattle.frame_log.proofs.FitLemmas.{fit-from}
use Rattle.frame_log.proofs.laws.ordered.Goals as goal

pub returns-clause-order : goal.returns-clause-order
returns-clause-order c = λ buses bytes. ahead-from buses (2 ^ 28) bytes start

pub returns-clause-fit : goal.returns-clause-fit
returns-clause-fit c = λ buses bytes. fit-from buses (2 ^ 28) bytes start

pub returns-clause-order_from : goal.returns-clause-order_from
returns-clause-order_from c = ahead-from

pub returns-clause-fit_from : goal.returns-clause-fit_from
returns-clause-fit_from c = fit-from
