use Rattle.std.proofs.Common.{◌≤◌, ◌∙◌, ap, sym, subst}
use Rattle.rx_table.specs.Ports.{bound}
use Rattle.rx_table.specs.Table.{states, StandsFor}
use Rattle.rx_table.specs.Heard.{frames}
use Rattle.node_core.specs.Shapes.{shape_extent}
use Rattle.node_core.proofs.Tables.{bound_of_ports}
use Rattle.node_core.proofs.node.Node.held.Goals as goal

pub returns-clause-bound : goal.returns-clause-bound
returns-clause-bound c = λ past s.
    let node = c.args.self.now in
    let log = frames node.plan.node past in
    let held = states shape_extent node.table.ports.items in
    let stands : StandsFor node.table.timeout log held = subst (λ t. StandsFor t log held) (sym s.timeout) s.sessions in
    subst (λ n. c.held.result ≤ n) (ap bound s.ports_are ∙ bound_of_ports node.plan) (c.held.ensures.bound log stands)
