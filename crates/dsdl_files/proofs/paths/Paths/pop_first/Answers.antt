use Rattle.std.proofs.Common.{subst}
use Rattle.dsdl_files.specs.Order.{IsAscending}
use Rattle.dsdl_files.proofs.Texts.{popped}
use Rattle.dsdl_files.proofs.paths.Paths.pop_first.Goals as goal

pub returns-clause-ascending : goal.returns-clause-ascending
returns-clause-ascending c =
    let e = c.pop_first.ensures in
    subst IsAscending c.self.view_is (popped _ _ c.pop_first.result e.removal e.all_above e.unchanged e.ordered)
