use Rattle.std.proofs.Common.{◌∙◌, ap}
use Rattle.node_run.specs.Ran.{status_of}
use Rattle.cyphal.proofs.statuses.Order.{ends_as_lines}
use Rattle.cyphal.proofs.jobs.ordered.order_lines.Goals as goal

pub returns-clause-answer : goal.returns-clause-answer
returns-clause-answer g c h =
    let o = c.ordered.ensures.ordered in
    ends_as_lines c.args.window _ _ _ _ o.how c.status_of.result (c.status_of.ensures ∙ ap (λ e. status_of e) o.is) h o.gone
