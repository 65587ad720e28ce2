use Rattle.std.proofs.Common.{◌≡◌, take, map}
use Rattle.std.specs.Prelude.{unwrap_or}
use Rattle.dsdl_types.specs.declared.definition.Definition.{Definition}
use Rattle.dsdl_clash.specs.Names.{first_of_name}
use Rattle.dsdl_clash.proofs.numbers.numbers_by_map.Given as goal

abbrev pub invariant-loop-definition : goal.invariant-loop-definition
invariant-loop-definition l = l.numbers.items ≡ map (λ (d : Definition). unwrap_or (first_of_name l.definitions d.id.name) 0) (take l.definition-index l.definitions)
