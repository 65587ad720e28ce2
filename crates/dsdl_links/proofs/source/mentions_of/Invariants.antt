use Rattle.std.proofs.Common.{◌≡◌, take}
use Rattle.dsdl_links.specs.Mentions.{mentions_from}
use Rattle.dsdl_links.proofs.source.mentions_of.Given as goal

abbrev pub invariant-loop-i : goal.invariant-loop-i
invariant-loop-i l = l.found ≡ mentions_from 1 l.own (take l.i l.lines)
