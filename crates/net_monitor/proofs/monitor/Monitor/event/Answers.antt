use Rattle.std.proofs.Common.{◌≡◌, Option, Some, None, refl, sym, ap, ◌∙◌, set, get_or}
use Rattle.net_monitor.specs.declared.node_state.NodeState.{NodeState}
use Rattle.net_monitor.specs.declared.renewal.Renewal.{Renewal}
use Rattle.net_monitor.specs.Beats.{Beat}
use Rattle.net_monitor.proofs.Kept.{stands_after, restarts_then, with_restarts}
use Rattle.net_monitor.proofs.Renewed.{renewal_stands}
use Rattle.net_monitor.proofs.monitor.Monitor.event.Goals as goal
use Rattle.net_monitor.proofs.monitor.Monitor.event.Goals.{in-Some, in-None}

pub returns-clause-stands : goal.returns-clause-stands
returns-clause-stands c = λ past k.
    let e : Beat = record { moment = c.args.moment; node = c.args.node; beat = c.args.beat.now } in
    let a = c.args.self.now in
    let restarts : c.match-before.restarts ≡ restarts_then (get_or a.nodes e.node None) e.beat.uptime =
    elim c.match-before.branch [
      | in-Some w ↦ w.restarts-is ∙ w.restarts_after-restarts.ensures ∙ ap (λ (o : Option NodeState). restarts_then o e.beat.uptime) (sym w.in-Some.is ∙ c.state_of-before.ensures)
      | in-None w ↦ w.restarts-is ∙ ap (λ (o : Option NodeState). restarts_then o e.beat.uptime) (sym w.in-None.is ∙ c.state_of-before.ensures)
    ] in
    stands_after past a _ e k c.requires.order a.full c.requires.node (ap (λ r. set a.nodes e.node (Some (with_restarts e r))) restarts) refl

pub returns-clause-renewal : goal.returns-clause-renewal
returns-clause-renewal c = λ past k.
    let e : Beat = record { moment = c.args.moment; node = c.args.node; beat = c.args.beat.now } in
    let a = c.args.self.now in
    let restarts : c.match-before.restarts ≡ restarts_then (get_or a.nodes e.node None) e.beat.uptime =
    elim c.match-before.branch [
      | in-Some w ↦ w.restarts-is ∙ w.restarts_after-restarts.ensures ∙ ap (λ (o : Option NodeState). restarts_then o e.beat.uptime) (sym w.in-Some.is ∙ c.state_of-before.ensures)
      | in-None w ↦ w.restarts-is ∙ ap (λ (o : Option NodeState). restarts_then o e.beat.uptime) (sym w.in-None.is ∙ c.state_of-before.ensures)
    ] in
    let before : c.match-before.before ≡ c.state_of-before.result =
    elim c.match-before.branch [
      | in-Some w ↦ w.before-is ∙ sym w.in-Some.is
      | in-None w ↦ w.before-is
    ] in
    (λ i. let r : Renewal = record { before = before i; state = with_restarts e c.match-before.restarts } in r)
    ∙ (λ i. let r : Renewal = record { before = c.state_of-before.ensures i; state = with_restarts e (restarts i) } in r)
    ∙ renewal_stands past a e k c.requires.node
