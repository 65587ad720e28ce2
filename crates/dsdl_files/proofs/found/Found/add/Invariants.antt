use Rattle.dsdl_files.proofs.Adding.{Added}
use Rattle.dsdl_files.proofs.found.Found.add.Given as goal

abbrev pub invariant-loop-member : goal.invariant-loop-member
invariant-loop-member l = Added l.folder l.member-items l.member-index l.fn.self l.self
