use Rattle.cy_outside.proofs.Listed.{Listed}
use Rattle.cy_outside.proofs.never_tree.members.Given as goal

abbrev pub invariant-loop-file : goal.invariant-loop-file
invariant-loop-file l = Listed l.files l.path l.file-index l.entries
