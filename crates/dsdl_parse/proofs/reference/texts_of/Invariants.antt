use Rattle.std.proofs.Common.{◌≡◌, map, take}
use Rattle.dsdl_parse.proofs.reference.texts_of.Given as goal

-- the texts so far are those of the names that were passed
abbrev pub invariant-loop-name : goal.invariant-loop-name
invariant-loop-name l = l.texts ≡ map (λ x. x.now) (take l.name-index l.names)
