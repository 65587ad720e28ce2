use Rattle.std.proofs.Common.{◌≡◌, ◌≤◌, ℕ, ◌++◌, [], ◌∷◌, length, sym, ap, ◌∙◌, subst, arith, lit<, inl, inr}
use Rattle.std.proofs.lemmas.Bool.{cases_lt}
use Rattle.net_monitor.specs.Online.{gathered}
use Rattle.net_monitor.specs.Renewals.{kept_gone, kept_until}
use Rattle.net_monitor.proofs.Gathered.{gathered_zero, gathered_some, gathered_none, gathered_length}
use Rattle.net_monitor.proofs.Leaving.{gone_stands, calm_stands}
use Rattle.net_monitor.proofs.monitor.Monitor.gone.Goals as goal
use Rattle.net_monitor.proofs.monitor.Monitor.gone.Goals.{in-Some, in-None}

pub loop-node-init : goal.loop-node-init
loop-node-init c = record {
  nodes = c.new-nodes.ensures ∙ sym (gathered_zero (kept_gone c.args.before c.args.moment c.args.self.now.nodes));
  calm = λ s h. absurd (omega arith);
}

pub push-requires : goal.push-requires
push-requires c =
    let f = kept_gone c.args.before c.args.moment c.args.self.now.nodes in
    let n = c.loop-node.node in
    let few : length c.loop-node.nodes ≤ n = subst (λ xs. length xs ≤ n) (sym c.loop-node.invariant.nodes) (gathered_length f n) in
    (lit< tt, omega arith)

pub loop-node-preserved : goal.loop-node-preserved
loop-node-preserved c =
    let f = kept_gone c.args.before c.args.moment c.args.self.now.nodes in
    let n = c.loop-node.node in
    let until : ℕ → ℕ = kept_until c.args.moment c.args.self.now.nodes in
    let is : c.until_at.result ≡ until n = c.until_at.ensures in
    record {
      nodes = elim c.match-gone_at.branch [
        | in-Some w ↦
            w.nodes-is ∙ w.push.ensures ∙ ap (λ xs. xs ++ w.in-Some.node ∷ []) c.loop-node.invariant.nodes
            ∙ sym (gathered_some f n w.in-Some.node (sym c.gone_at.ensures ∙ w.in-Some.is))
        | in-None w ↦ w.nodes-is ∙ c.loop-node.invariant.nodes ∙ sym (gathered_none f n (sym c.gone_at.ensures ∙ w.in-None.is))
      ];
      calm = λ s h. elim (cases_lt s n) [
        | inl below ↦ let so_far = c.loop-node.invariant.calm s below in omega (arith, c.min-calm.ensures)
        | inr last ↦ let same : n ≡ s = omega arith in let now : c.until_at.result ≡ until s = is ∙ ap until same in omega (arith, c.min-calm.ensures)
      ];
    }

pub returns-clause-nodes : goal.returns-clause-nodes
returns-clause-nodes c = λ past k.
    let last : c.loop-node.node ≡ 128 = omega arith in
    c.loop-node.invariant.nodes ∙ ap (gathered (kept_gone c.args.before c.args.moment c.args.self.now.nodes)) last
    ∙ gone_stands c.args.before c.args.moment past c.args.self.now k

pub returns-clause-calm : goal.returns-clause-calm
returns-clause-calm c = λ past k.
    calm_stands c.args.moment c.loop-node.calm past c.args.self.now k (λ s low. c.loop-node.invariant.calm s (omega arith))
