use Rattle.std.proofs.Common.{inl, inr, arith, rules}
use Rattle.std.proofs.lemmas.Bool.{cases_lt}
use Rattle.bit_length.specs.Lengths.{Has}
use Rattle.bit_length.specs.Moved.{Moved}
use Rattle.bit_length.proofs.WithinLemmas.{stride_short, classes_step, classes_within}
use Rattle.bit_length.proofs.run_set.RunSet.has_run.Goals as goal

pub has_class-requires-clause-short : goal.has_class-requires-clause-short
has_class-requires-clause-short c =
    stride_short c.args.step c.args.run.now c.max-period.result c.requires (omega arith) (elim (cases_lt 1 c.max-period.result) [
      | inl h ↦ inr (omega arith)
      | inr h ↦ inl h
    ])

pub loop-class-preserved : goal.loop-class-preserved
loop-class-preserved c =
    classes_step (Moved c.args.at (Has c.args.self.now)) c.args.step c.max-period.result c.loop-class.class c.args.run.now (omega arith) c.loop-class.invariant (c.has_class.ensures.0 c.if-not-has_class.false)

pub returns : goal.returns
returns c =
    (λ _. classes_within (Moved c.args.at (Has c.args.self.now)) c.args.step c.max-period.result c.args.run.now (omega arith) (λ q low high lt. c.loop-class.invariant q low high (omega arith)), λ _. search rules)
