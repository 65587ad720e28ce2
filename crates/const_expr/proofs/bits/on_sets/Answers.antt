use Rattle.std.proofs.Common.{sym, subst}
use Rattle.const_expr.specs.Constants.{IsAscending}
use Rattle.const_expr.proofs.SetChanges.{combined_ascends}
use Rattle.const_expr.proofs.bits.on_sets.Goals as goal

pub some_members-requires : goal.some_members-requires
some_members-requires c = subst IsAscending (sym c.in_ok-set.ensures) (combined_ascends c.args.sign c.args.xs.keys c.args.ys c.requires.left c.requires.right)
