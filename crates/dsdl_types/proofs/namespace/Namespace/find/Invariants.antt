use Rattle.std.proofs.Common.{◌≡◌, drop}
use Rattle.dsdl_types.specs.Finding.{definition_of}
use Rattle.dsdl_types.proofs.namespace.Namespace.find.Given as goal

-- the first definition of the type is among those that are left
abbrev pub invariant-loop-definition : goal.invariant-loop-definition
invariant-loop-definition l = definition_of (drop l.definition-index l.definition-items) l.id ≡ definition_of l.definition-items l.id
