use Rattle.std.proofs.Common.{◌≡◌, ◌++◌, map, take}
use Rattle.dsdl_links.specs.Mentions.{noted}
use Rattle.dsdl_links.proofs.source.note.Given as goal

-- the references so far are noted
abbrev pub invariant-loop-reference : goal.invariant-loop-reference
invariant-loop-reference l = l.found ≡ l.initial.found ++ noted l.own l.line (map (λ r. r.now) (take l.reference-index l.references))
