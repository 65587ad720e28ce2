use Rattle.std.proofs.Common.{◌≡◌, ◌∷◌, take}
use Rattle.dsdl_names.specs.Parts.{dotted}
use Rattle.dsdl_names.proofs.beside.joined.Given as goal

-- the names so far
abbrev pub invariant-loop-next : goal.invariant-loop-next
invariant-loop-next l = l.name ≡ dotted (l.first ∷ l.second ∷ take l.next-index l.names)
