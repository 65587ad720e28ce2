-- The message type that a word of a plan names.
use Rattle.std.specs.Prelude.{ℕ, List, [], Option, Some, None, Result, Ok, Err}
use Rattle.dsdl_names.specs.Names.{type_id_of}
use Rattle.dsdl_names.specs.declared.TypeId.{TypeId}
use Rattle.dsdl_names.specs.declared.NameError.{NameError}
use Rattle.dsdl_types.specs.Finding.{definition_of}
use Rattle.dsdl_types.specs.declared.definition.Definition.{Definition}
use Rattle.dsdl_types.specs.declared.definition.Parts.{Parts}
use Rattle.dsdl_types.specs.declared.definition.Parts.TheVariants as parts
use Rattle.dsdl_types.specs.declared.namespace.Namespace.{Namespace}
use Rattle.node_plan.specs.declared.plan.SubShape.{SubShape}
use Rattle.node_plan.specs.declared.plan.SubShape.TheVariants as shape

-- the namespace without types
abbrev pub none : Namespace
none = record { definitions = []; prints = [] }

-- a message is read by its schema; a service is no message
abbrev pub message_with : TypeId → Parts → Option SubShape
message_with id (parts.Message s) = Some (shape.Named id s)
message_with id (parts.Service request response) = None

-- the message of a definition, if any
abbrev pub message_in : Option Definition → Option SubShape
message_in None = None
message_in (Some d) = message_with d.id d.parts

-- the message of the full name and version that were read, if any
abbrev pub message_at : Namespace → Result TypeId NameError → Option SubShape
message_at names (Ok id) = message_in (definition_of names.definitions id)
message_at names (Err why) = None

-- What a payload is read as where this word is the type: the message of the namespace with this
-- full name and version, as `uavcan.node.Heartbeat.1.0`. A service, a half of one, and a word
-- that is no type's name are no message.
abbrev pub shape_named : Namespace → List ℕ → Option SubShape
shape_named names word = message_at names (type_id_of word)
