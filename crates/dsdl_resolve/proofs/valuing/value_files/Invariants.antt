use Rattle.std.proofs.Common.{List}
use Rattle.dsdl_resolve.specs.Progressing.{IsSound}
use Rattle.dsdl_resolve.specs.Reads.{Read, AreRead}
use Rattle.dsdl_resolve.proofs.Rereading.{SoFar}
use Rattle.dsdl_resolve.proofs.valuing.value_files.Given as goal

-- the files so far are valued
abbrev pub invariant-loop-k : goal.invariant-loop-k
invariant-loop-k l = record {
  so_far : (reads : List Read) → AreRead l.files reads → SoFar reads l.order l.k l.progress;
  sound : IsSound l.progress;
}
