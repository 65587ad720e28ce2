use Rattle.std.proofs.Common.{◌≡◌, length, take}
use Rattle.dsdl_links.specs.Marks.{KnowsFronts}
use Rattle.dsdl_links.specs.Ready.{AddsOpen}
use Rattle.dsdl_links.proofs.ready.add_all_open.Given as goal

-- those of the files so far that are open came into the set
abbrev pub invariant-loop-file : goal.invariant-loop-file
invariant-loop-file l = record {
  added : AddsOpen l.links l.valued (take l.file-index l.files) l.initial.ready l.ready;
  knows : KnowsFronts l.links l.valued l.known;
  count : length l.known ≡ length l.links;
}
