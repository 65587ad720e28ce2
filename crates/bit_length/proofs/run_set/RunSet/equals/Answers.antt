use Rattle.std.proofs.Common.{sym, ◌∙◌, subst}
use Rattle.bit_length.specs.Lengths.{Has, IsWithin}
use Rattle.bit_length.proofs.AscendingLemmas.{same_length}
use Rattle.bit_length.proofs.MovedLemmas.{unmoved_within}
use Rattle.bit_length.proofs.run_set.RunSet.equals.Goals as goal

pub returns-then-count : goal.returns-then-count
returns-then-count c =
    let v = c.args.self.now in
    let w = c.args.o.now in
    let within = unmoved_within (Has v) (Has w) in (
      λ e. same_length v w c.count.ensures.ascending c.count-2.ensures.ascending (sym c.count.ensures.count ∙ c.if-count.true ∙ c.count-2.ensures.count) (within.0 (c.is_within.ensures.0 e)),
      λ same. c.is_within.ensures.1 (within.1 (subst (λ l. IsWithin (Has v) (Has l)) same (λ n h. h))),
    )
