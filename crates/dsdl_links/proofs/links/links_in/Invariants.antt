use Rattle.std.proofs.Common.{take}
use Rattle.std.specs.List.{AllZip}
use Rattle.dsdl_links.specs.Links.{Means}
use Rattle.dsdl_links.proofs.links.links_in.Given as goal

-- the mentions so far mean these files
abbrev pub invariant-loop-mention : goal.invariant-loop-mention
invariant-loop-mention l = AllZip (Means l.files) (take l.mention-index l.mention-items) l.links
