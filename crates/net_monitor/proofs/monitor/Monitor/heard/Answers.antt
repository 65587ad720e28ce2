use Rattle.std.proofs.Common.{◌≡◌, ◌≤◌, ◌++◌, [], ◌∷◌, length, sym, ap, ◌∙◌, subst, arith, lit<}
use Rattle.net_monitor.specs.Online.{gathered}
use Rattle.net_monitor.specs.Kept.{kept_heard, if_heard}
use Rattle.net_monitor.proofs.Gathered.{gathered_zero, gathered_some, gathered_none, gathered_length}
use Rattle.net_monitor.proofs.Kept.{heard_stands, heard_some, heard_none}
use Rattle.net_monitor.proofs.monitor.Monitor.heard.Goals as goal
use Rattle.net_monitor.proofs.monitor.Monitor.heard.Goals.{then-is_some, else-is_some}

pub loop-node-init : goal.loop-node-init
loop-node-init c = c.new-list.ensures ∙ sym (gathered_zero (kept_heard c.args.self.now.nodes))

pub push-requires : goal.push-requires
push-requires c =
    let f = kept_heard c.args.self.now.nodes in
    let n = c.loop-node.node in
    let few : length c.loop-node.list ≤ n = subst (λ xs. length xs ≤ n) (sym c.loop-node.invariant) (gathered_length f n) in
    (lit< tt, omega arith)

pub loop-node-preserved : goal.loop-node-preserved
loop-node-preserved c =
    let f = kept_heard c.args.self.now.nodes in
    let n = c.loop-node.node in
    elim c.if-is_some.branch [
      | then-is_some w ↦
          w.list-is ∙ w.push.ensures ∙ ap (λ xs. xs ++ n ∷ []) c.loop-node.invariant
          ∙ sym (gathered_some f n n (ap (if_heard n) (sym c.state_of.ensures) ∙ heard_some n c.state_of.result (sym c.is_some.ensures ∙ w.if-is_some.true)))
      | else-is_some w ↦
          w.list-is ∙ c.loop-node.invariant
          ∙ sym (gathered_none f n (ap (if_heard n) (sym c.state_of.ensures) ∙ heard_none n c.state_of.result (sym c.is_some.ensures ∙ w.if-is_some.false)))
    ]

pub returns : goal.returns
returns c = λ past k.
    let last : c.loop-node.node ≡ 128 = omega arith in
    c.loop-node.invariant ∙ ap (gathered (kept_heard c.args.self.now.nodes)) last ∙ heard_stands past c.args.self.now k
