use Rattle.std.proofs.Common.{◌∙◌, ap, arith, sym, drop, ◌+◌, rules}
use Rattle.node_plan.specs.Words.{decimal_from, ranged}
use Rattle.node_plan.proofs.NumberLemmas.{decimal_from-more, ranged-min}
use Rattle.node_plan.proofs.words.value_of_digits.Goals as goal

pub loop-b-preserved : goal.loop-b-preserved
loop-b-preserved c = record {
  value = λ low high h. c.loop-b.invariant.value low high h
      ∙ ap (ranged low high) (decimal_from-more c.args.digits.now c.loop-b.b-index c.loop-b.n (omega arith) (omega arith) (omega arith))
      ∙ ranged-min low high 100_000_000_000_000_000_000 h (drop (c.loop-b.b-index + 1) c.args.digits.now) _
      ∙ ap (λ n. ranged low high (decimal_from n (drop (c.loop-b.b-index + 1) c.args.digits.now))) (sym c.min-n.ensures);
  most = search rules;
}
