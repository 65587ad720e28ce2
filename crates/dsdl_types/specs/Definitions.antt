-- What a definition of a namespace keeps.
use Rattle.std.specs.Prelude.{◌≡◌, ℕ, ◌+◌, true, length}
use Rattle.std.specs.List.{All}
use Rattle.dsdl_types.specs.Schemas.{Sch, Simple, Fixed, Var, Struct, Union, variants, is_composite}
use Rattle.dsdl_types.specs.Rules.{IsSchema}
use Rattle.dsdl_types.specs.Views.{sch}
use Rattle.dsdl_types.specs.declared.schema.Schema.{Schema}
use Rattle.dsdl_types.specs.declared.definition.Definition.{Definition}
use Rattle.dsdl_types.specs.declared.definition.Parts.{Parts}
use Rattle.dsdl_types.specs.declared.definition.Parts.TheVariants as parts
use Rattle.dsdl_types.specs.declared.namespace.Namespace.{Namespace}

-- a structure or a union that keeps the rules
abbrev pub IsType : Schema → Type 0
IsType s = IsSchema (sch s) × (is_composite (sch s) ≡ true)

-- how many fields of a composite aren't padding
abbrev pub typed_count : Sch → ℕ
typed_count (Simple t) = 0
typed_count (Fixed s n) = 0
typed_count (Var s cap) = 0
typed_count (Struct fs o) = variants fs
typed_count (Union fs o) = variants fs

-- the schemas of a message or a service are such types
abbrev pub AreTypes : Parts → Type 0
AreTypes (parts.Message s) = IsType s
AreTypes (parts.Service request response) = IsType request × IsType response

-- how many fields of them aren't padding
abbrev pub count_in : Parts → ℕ
count_in (parts.Message s) = typed_count (sch s)
count_in (parts.Service request response) = typed_count (sch request) + typed_count (sch response)

-- a definition's schemas are composites that keep the rules, and it has as many texts of types as
-- they have fields that aren't padding
pub record IsDefinition (d : Definition) : Type 0 where
  pub rules : AreTypes d.parts
  pub texts : length d.types ≡ count_in d.parts

-- all definitions of a namespace are such
abbrev pub IsNamespace : Namespace → Type 0
IsNamespace names = All IsDefinition names.definitions
