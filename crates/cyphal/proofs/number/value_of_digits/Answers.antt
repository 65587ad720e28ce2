use Rattle.std.proofs.Common.{◌∙◌, ap, arith, sym, drop, ◌+◌, rules}
use Rattle.dsdl_names.specs.Words.{decimal_from, at_most}
use Rattle.dsdl_names.proofs.NumberLemmas.{decimal_from-more, at_most-min}
use Rattle.cyphal.proofs.number.value_of_digits.Goals as goal

pub loop-b-preserved : goal.loop-b-preserved
loop-b-preserved c = record {
  value = λ most h. c.loop-b.invariant.value most h
      ∙ ap (at_most most) (decimal_from-more c.args.digits.now c.loop-b.b-index c.loop-b.n (omega arith) (omega arith) (omega arith))
      ∙ at_most-min most 10_000_000_000 h (drop (c.loop-b.b-index + 1) c.args.digits.now) _
      ∙ ap (λ n. at_most most (decimal_from n (drop (c.loop-b.b-index + 1) c.args.digits.now))) (sym c.min-n.ensures);
  most = search rules;
}
