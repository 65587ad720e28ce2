use Rattle.std.proofs.Common.{◌∙◌}
use Rattle.const_expr.proofs.Wholes.{naturals_keep}
use Rattle.const_expr.proofs.listed.listed_lengths.Goals as goal

pub returns-clause-kept : goal.returns-clause-kept
returns-clause-kept c =
    naturals_keep c.in_ok-naturals.field-0 c.as_slice.result.now c.args.lengths.now
    c.in_ok-naturals.ensures (c.as_slice.ensures ∙ c.in_ok-members.ensures) c.count-count.ensures.ascending
