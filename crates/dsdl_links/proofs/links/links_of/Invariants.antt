use Rattle.std.proofs.Common.{take}
use Rattle.std.specs.List.{AllZip}
use Rattle.dsdl_links.specs.Links.{AreLinksOf}
use Rattle.dsdl_links.proofs.links.links_of.Given as goal

-- the links of the files so far
abbrev pub invariant-loop-i : goal.invariant-loop-i
invariant-loop-i l = AllZip (AreLinksOf l.files) (take l.i l.files) l.links
