use Rattle.std.proofs.Common.{◌≡◌, sym, ap, ◌∙◌, subst, rules}
use Rattle.const_expr.specs.Constants.{IsAscending}
use Rattle.const_expr.specs.Shifts.{Fit, wholes}
use Rattle.const_expr.proofs.ShiftLemmas.{moved_none, none_added, numbers_ascend}
use Rattle.const_expr.proofs.shifted.Shifted.of.Goals as goal

pub with_shift-requires-clause-ascend : goal.with_shift-requires-clause-ascend
with_shift-requires-clause-ascend c =
    let same : wholes c.in-Some.numbers.items ≡ c.args.set.now = search rules in
    numbers_ascend c.in-Some.numbers.items (subst IsAscending (sym same) c.requires)

pub with_shift-requires-clause-fit : goal.with_shift-requires-clause-fit
with_shift-requires-clause-fit c =
    let fit : Fit c.in-Some.numbers.items = search rules in
    none_added c.in-Some.numbers.items fit

pub returns-in-Some : goal.returns-in-Some
returns-in-Some c =
    let same : wholes c.in-Some.numbers.items ≡ c.args.set.now = search rules in
    ap wholes (c.with_shift.ensures ∙ moved_none c.in-Some.numbers.items) ∙ same
