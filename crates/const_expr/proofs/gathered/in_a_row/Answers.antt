use Rattle.std.proofs.Common.{◌≡◌, sym, subst, rules}
use Rattle.const_expr.specs.Constants.{IsAscending}
use Rattle.const_expr.proofs.SetChanges.{keys_ascend}
use Rattle.const_expr.proofs.gathered.in_a_row.Goals as goal

pub returns-clause-ascending : goal.returns-clause-ascending
returns-clause-ascending c =
    let all : c.loop-member.members ≡ c.args.set.keys = search rules in
    subst IsAscending (sym all) (keys_ascend c.args.set.keys c.into_iter-member-iterator.ensures.into_iter_gives.4)
