use Rattle.std.proofs.Common.{◌≡◌, ◌≤◌, ◌++◌, [], ◌∷◌, length, sym, ap, ◌∙◌, subst, arith, lit<}
use Rattle.net_monitor.specs.Online.{gathered}
use Rattle.net_monitor.specs.Kept.{kept_online}
use Rattle.net_monitor.proofs.Gathered.{gathered_zero, gathered_some, gathered_none, gathered_length}
use Rattle.net_monitor.proofs.Kept.{online_stands}
use Rattle.net_monitor.proofs.monitor.Monitor.online.Goals as goal
use Rattle.net_monitor.proofs.monitor.Monitor.online.Goals.{in-Some, in-None}

pub loop-node-init : goal.loop-node-init
loop-node-init c = c.new-list.ensures ∙ sym (gathered_zero (kept_online c.args.moment c.args.self.now.nodes))

pub push-requires : goal.push-requires
push-requires c =
    let f = kept_online c.args.moment c.args.self.now.nodes in
    let n = c.loop-node.node in
    let few : length c.loop-node.list ≤ n = subst (λ xs. length xs ≤ n) (sym c.loop-node.invariant) (gathered_length f n) in
    (lit< tt, omega arith)

pub loop-node-preserved : goal.loop-node-preserved
loop-node-preserved c =
    let f = kept_online c.args.moment c.args.self.now.nodes in
    let n = c.loop-node.node in
    elim c.match-online_at.branch [
      | in-Some w ↦
          w.list-is ∙ w.push.ensures ∙ ap (λ xs. xs ++ w.in-Some.state ∷ []) c.loop-node.invariant
          ∙ sym (gathered_some f n w.in-Some.state (sym c.online_at.ensures ∙ w.in-Some.is))
      | in-None w ↦ w.list-is ∙ c.loop-node.invariant ∙ sym (gathered_none f n (sym c.online_at.ensures ∙ w.in-None.is))
    ]

pub returns : goal.returns
returns c = λ past k.
    let last : c.loop-node.node ≡ 128 = omega arith in
    c.loop-node.invariant ∙ ap (gathered (kept_online c.args.moment c.args.self.now.nodes)) last ∙ online_stands c.args.moment past c.args.self.now k
