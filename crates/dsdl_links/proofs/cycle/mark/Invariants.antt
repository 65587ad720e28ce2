use Rattle.std.proofs.Common.{◌≡◌, length, take}
use Rattle.dsdl_links.specs.Marks.{Marks}
use Rattle.dsdl_links.proofs.cycle.mark.Given as goal

-- the files so far are marked
abbrev pub invariant-loop-file : goal.invariant-loop-file
invariant-loop-file l = record {
  marks : Marks (take l.file-index l.files) l.initial.marks l.marks l.initial.waiting.items l.waiting.items;
  count : length l.marks ≡ length l.initial.marks;
}
