use Rattle.std.proofs.Common.{arith, inl, ap, ◌∙◌, max, Some}
use Rattle.std.specs.Int.{div_ceil}
use Rattle.bit_length.proofs.RunLemmas.{next_in_run}
use Rattle.bit_length.proofs.run.Run.next.Goals as goal

pub returns-then-quotient-self : goal.returns-then-quotient-self
returns-then-quotient-self c =
    next_in_run c.args.self.now c.args.step c.args.n (omega (arith, c.requires.0)) (Some c.member.result) c.max-quotient.result (c.max-quotient.ensures ∙ ap (λ t. max t c.args.self.now.first) (c.div_ceil.ensures ∙ ap (λ t. div_ceil t c.args.step) c.saturating_sub.ensures)) c.requires.1 (inl (c.if-quotient-self.true, ap Some c.member.ensures.value))
