use Rattle.std.proofs.Common.{◌≡◌, ◌++◌, length}
use Rattle.dsdl_files.proofs.paths.Paths.into_texts.Given as goal

abbrev pub invariant-loop-path : goal.invariant-loop-path
invariant-loop-path l = l.fn.self ≡ l.texts.items ++ l.self

abbrev pub decreases-loop-path : goal.decreases-loop-path
decreases-loop-path l = length l.self
