use Rattle.std.proofs.Common.{◌∙◌, List, refl, sym, subst}
use Rattle.rx_table.specs.Ports.{PortState}
use Rattle.node_core.specs.Came.{IsMetAs}
use Rattle.rx_table.specs.Table.{StandsFor}
use Rattle.node_core.proofs.Steps.{planned, stands_again, hear_lines, hear_bad}
use Rattle.node_core.proofs.Tables.{heard_later}
use Rattle.node_core.proofs.Types.{types_stay}
use Rattle.node_core.proofs.node.Node.hear_at.Goals as goal

pub quick-requires-clause-heard : goal.quick-requires-clause-heard
quick-requires-clause-heard c = heard_later _ _ _ c.requires.latest c.args.self.now.in_time

pub returns-in_err-index-clause-none : goal.returns-in_err-index-clause-none
returns-in_err-index-clause-none c = λ _ log s. record {
  timeout = c.in_err-index.ensures.keeps.timeout ∙ s.timeout;
  ports_are = c.in_err-index.ensures.keeps.ports ∙ s.ports_are;
  types = types_stay _ _ _ c.in_err-index.ensures.keeps.shapes s.types;
  sessions = subst (λ (ps : List PortState). StandsFor c.args.self.now.plan.timeout log ps) (sym (c.in_err-index.ensures.none refl)) s.sessions;
}

pub returns-clause-stands : goal.returns-clause-stands
returns-clause-stands c = λ log s. record {
  timeout = c.in_ok-index.ensures.keeps.timeout ∙ s.timeout;
  ports_are = c.in_ok-index.ensures.keeps.ports ∙ s.ports_are;
  types = types_stay _ _ _ c.in_ok-index.ensures.keeps.shapes s.types;
  sessions = stands_again _ _ _ _ _ _ s.timeout (c.in_ok-index.ensures.stands log) s.sessions;
}

pub returns-clause-lines : goal.returns-clause-lines
returns-clause-lines c = λ log s.
    hear_lines c.outcome_tells.ensures c.args.self.now _ _ log _ c.in_ok-index.ensures.keeps s c.in_ok-index.ensures.told

pub returns-clause-badcrc : goal.returns-clause-badcrc
returns-clause-badcrc c = λ log s.
    hear_bad c.outcome_tells.ensures c.args.self.now _ log _ s c.in_ok-index.ensures.told

pub returns-clause-met : goal.returns-clause-met
unfolding IsMetAs
returns-clause-met c = λ log s.
    planned _ _ _ _ _ log _ _ s.timeout s.ports_are (c.in_ok-index.ensures.told log) s.sessions
