-- The schema of a message that is found
use Rattle.std.proofs.Common.{◌≡◌, ℕ, List, get_or, Some, subst}
use Rattle.std.specs.Prelude.{slice_get}
use Rattle.std.specs.List.{All}
use Rattle.std.proofs.lemmas.List.Elements.{All-get_or}
use Rattle.std.proofs.lemmas.Option.{get_or_from_slice_get, slice_get_within}
use Rattle.dsdl_types.specs.Definitions.{IsDefinition, IsType, AreTypes}
use Rattle.dsdl_types.specs.declared.definition.Definition.{Definition}
use Rattle.dsdl_types.specs.declared.definition.Parts.TheVariants as parts
use Rattle.dsdl_types.specs.declared.schema.Schema.{Schema}

-- a definition of the namespace that is a message has a schema that keeps the rules of types
pub message_type : (ds : List Definition) (n : ℕ) (d : Definition) (s : Schema) → slice_get ds n ≡ Some d → d.parts ≡ parts.Message s → All IsDefinition ds → IsType s
message_type ds n d s stands p all =
    let here : get_or ds n d ≡ d = get_or_from_slice_get ds n d d stands in
    let kept : IsDefinition d = subst IsDefinition here (All-get_or IsDefinition ds n d (slice_get_within ds n d stands) all) in
    subst AreTypes p kept.rules
