use Rattle.std.proofs.Common.{sym, ◌∙◌, subst}
use Rattle.bit_length.specs.Lengths.{Has, IsWithin}
use Rattle.bit_length.proofs.AscendingLemmas.{same_length}
use Rattle.bit_length.proofs.set.LengthSet.equals.Goals as goal

pub returns-then-count : goal.returns-then-count
returns-then-count c = (
  λ e. same_length c.args.self.now c.args.o.now c.count.ensures.ascending c.count-2.ensures.ascending (sym c.count.ensures.count ∙ c.if-count.true ∙ c.count-2.ensures.count) (c.is_within.ensures.0 e),
  λ same. c.is_within.ensures.1 (subst (λ v. IsWithin (Has c.args.self.now) (Has v)) same (λ n h. h)),
)
