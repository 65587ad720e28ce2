use Rattle.std.proofs.Common.{take}
use Rattle.dsdl_resolve.specs.Kept.{AreKept}
use Rattle.dsdl_resolve.specs.Sources.{AreSources}
use Rattle.dsdl_resolve.proofs.sources.sources_of.Given as goal

-- the sources and the statements so far are those of the files that were passed
abbrev pub invariant-loop-i : goal.invariant-loop-i
invariant-loop-i l = record {
  sources : AreSources (take l.i l.files) (take l.i l.names) l.sources;
  kept : AreKept (take l.i l.files) l.kept;
}
