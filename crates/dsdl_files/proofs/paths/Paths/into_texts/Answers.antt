use Rattle.std.proofs.Common.{subst}
use Rattle.dsdl_files.specs.Order.{IsAscending}
use Rattle.dsdl_files.proofs.Texts.{sorted_texts}
use Rattle.dsdl_files.proofs.paths.Paths.into_texts.Goals as goal

pub returns-clause-ascending : goal.returns-clause-ascending
returns-clause-ascending c = subst IsAscending c.self.view_is (sorted_texts _ c.len.ensures.ordered)
