use Rattle.std.proofs.Common.{◌≡◌, length}
use Rattle.dsdl_links.specs.Marks.{KnowsFronts}
use Rattle.dsdl_links.specs.Ready.{AreOpen}
use Rattle.dsdl_links.proofs.ready.ready_at_first.Given as goal

-- the set has those of the files so far that are open
abbrev pub invariant-loop-file : goal.invariant-loop-file
invariant-loop-file l = record {
  ready : AreOpen l.file l.links l.valued l.ready;
  knows : KnowsFronts l.links l.valued l.known;
  count : length l.known ≡ length l.links;
}
