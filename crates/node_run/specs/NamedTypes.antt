-- What a name stands for in a namespace.
use Rattle.std.specs.Prelude.{ℕ, ◌==◌, ◌-◌, List, codes, length, take, Option, Some, None}
use Rattle.std.specs.Prelude.{option_map, Result, Ok, Err, if◌then◌else◌}
use Rattle.std.specs.List.{ends_with}
use Rattle.dsdl_names.specs.Names.{type_id_of}
use Rattle.dsdl_names.specs.declared.TypeId.{TypeId}
use Rattle.dsdl_names.specs.declared.NameError.{NameError}
use Rattle.dsdl_types.specs.Finding.{definition_of}
use Rattle.dsdl_types.specs.Schemas.{Sch}
use Rattle.dsdl_types.specs.Views.{sch}
use Rattle.dsdl_types.specs.declared.definition.Definition.{Definition}
use Rattle.dsdl_types.specs.declared.definition.Parts.{Parts}
use Rattle.dsdl_types.specs.declared.definition.Parts.TheVariants as parts
use Rattle.dsdl_types.specs.declared.namespace.Namespace.{Namespace}
use Rattle.node_run.specs.declared.types.named.NamedParts.{NamedParts}
use Rattle.node_run.specs.declared.types.named.NamedParts.TheVariants as found

-- a text without this end, where it has it
abbrev pub without_end : List ℕ → List ℕ → Option (List ℕ)
without_end end text = if ends_with ◌==◌ text end then Some (take (length text - length end) text) else None

-- the schemas of the type of this name and version
abbrev pub parts_at : Namespace → Result TypeId NameError → Option Parts
parts_at names (Ok id) = option_map (λ (d : Definition). d.parts) (definition_of names.definitions id)
parts_at names (Err error) = None

-- the requests of a service; a half counts as a message, and a message has none
abbrev pub requests_of : Option Parts → Option Parts
requests_of None = None
requests_of (Some (parts.Message s)) = None
requests_of (Some (parts.Service request response)) = Some (parts.Message request)

-- the responses of a service
abbrev pub responses_of : Option Parts → Option Parts
responses_of None = None
responses_of (Some (parts.Message s)) = None
responses_of (Some (parts.Service request response)) = Some (parts.Message response)

-- what a name stands for, by the service whose requests or responses it names
abbrev pub named_by : Namespace → List ℕ → Option (List ℕ) → Option (List ℕ) → Option Parts
named_by names name (Some service) other = requests_of (parts_at names (type_id_of service))
named_by names name None (Some service) = responses_of (parts_at names (type_id_of service))
named_by names name None None = parts_at names (type_id_of name)

-- what a name stands for in a namespace: `a.b.Name.1.0` the type, with `.Request` or `.Response`
-- behind it a half of the service
abbrev pub named : Namespace → List ℕ → Option Parts
named names name = named_by names name (without_end (codes ".Request") name) (without_end (codes ".Response") name)

-- what was found as schemas
abbrev pub parts_of : NamedParts → Parts
parts_of (found.Message s) = parts.Message s.now
parts_of (found.Service request response) = parts.Service request.now response.now

-- the schema of a message, or of a half of a service; a whole service has none
abbrev pub message_of : Option Parts → Option Sch
message_of None = None
message_of (Some (parts.Message s)) = Some (sch s)
message_of (Some (parts.Service request response)) = None

-- the schema of the message that a name stands for
abbrev pub message_named : Namespace → List ℕ → Option Sch
message_named names name = message_of (named names name)
