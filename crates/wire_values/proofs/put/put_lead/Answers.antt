use Rattle.std.proofs.Common.{◌∙◌, refl, sym, ap}
use Rattle.dsdl_types.specs.Encoding.{lead}
use Rattle.wire_values.proofs.Writings.{puts_nothing}
use Rattle.wire_values.proofs.put.put_lead.Goals as goal

pub returns-else-is_aligned : goal.returns-else-is_aligned
returns-else-is_aligned c =
    puts_nothing c.args.out.now c.args.to.now.place c.args.to.now.place _ (ap (λ d. lead d c.args.to.now.place) (sym c.is_aligned.ensures ∙ c.if-is_aligned.false)) refl
