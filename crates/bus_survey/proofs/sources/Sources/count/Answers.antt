use Rattle.std.proofs.Common.{◌≡◌, ◌∙◌, ℕ, false, true, slice_index_or, sym, ap, arith}
use Rattle.bus_survey.specs.Sources.{count_below, is_source}
use Rattle.bus_survey.proofs.SourceLemmas.{count_none, count_same, count_low, counts_on}
use Rattle.bus_survey.proofs.sources.Sources.count.Goals as goal
use Rattle.bus_survey.proofs.sources.Sources.count.Goals.{then-self-node, else-self-node}

pub loop-node-init : goal.loop-node-init
loop-node-init c = sym (count_none (λ k. slice_index_or c.args.self.now.heard k false))

pub overflow_add-count : goal.overflow_add-count
overflow_add-count c =
    let low = count_low (λ k. slice_index_or c.args.self.now.heard k false) c.loop-node.node in
    let is : c.loop-node.count ≡ count_below (λ k. slice_index_or c.args.self.now.heard k false) c.loop-node.node = c.loop-node.invariant in
    omega (arith, low, is, c.loop-node-test.true)

pub loop-node-preserved : goal.loop-node-preserved
loop-node-preserved c =
    let f = λ (k : ℕ). slice_index_or c.args.self.now.heard k false in
    let n = c.loop-node.node in
    elim c.if-self-node.branch [
      | then-self-node w ↦ counts_on f n c.loop-node.count _ true c.loop-node.invariant w.if-self-node.true w.count-is
      | else-self-node w ↦ counts_on f n c.loop-node.count _ false c.loop-node.invariant w.if-self-node.false (omega (arith, w.count-is))
    ]

pub returns : goal.returns
returns c = λ past h.
    let f = λ (k : ℕ). slice_index_or c.args.self.now.heard k false in
    let last : c.loop-node.node ≡ 128 = omega arith in
    c.loop-node.invariant ∙ ap (count_below f) last ∙ count_same f (is_source past) 128 h
