-- What a definition has of a type that lines speak of: a message, or a half of a service.
use Rattle.std.specs.Prelude.{ℕ, Option, Some, None}
use Rattle.dsdl_types.specs.declared.schema.Schema.{Schema}
use Rattle.dsdl_types.specs.declared.definition.Definition.{Definition}
use Rattle.dsdl_types.specs.declared.definition.Parts.{Parts}
use Rattle.dsdl_types.specs.declared.definition.Parts.TheVariants as parts

-- the schema of a message
abbrev pub message_in : Parts → Option Schema
message_in (parts.Message schema) = Some schema
message_in (parts.Service request response) = None

-- the schema of a service's requests
abbrev pub request_in : Parts → Option Schema
request_in (parts.Message schema) = None
request_in (parts.Service request response) = Some request

-- the schema of a service's responses
abbrev pub response_in : Parts → Option Schema
response_in (parts.Message schema) = None
response_in (parts.Service request response) = Some response

-- the same of a definition that may be absent
abbrev pub in_parts : (Parts → Option Schema) → Option Definition → Option Schema
in_parts half None = None
in_parts half (Some d) = half d.parts

-- the fixed port of a definition that may be absent
abbrev pub port_in : Option Definition → Option ℕ
port_in None = None
port_in (Some d) = d.port
