-- The definition of a type in a namespace.
use Rattle.std.specs.Prelude.{◌≡◌, ◌==◌, ◌&&◌, ◌++◌, ◌≢◌, Bool, List, [], ◌∷◌, Option, Some, None}
use Rattle.std.specs.Prelude.{if◌then◌else◌}
use Rattle.std.specs.List.{All}
use Rattle.std.specs.Str.{bytes_eq}
use Rattle.dsdl_names.specs.declared.TypeId.{TypeId}
use Rattle.dsdl_types.specs.declared.definition.Definition.{Definition}

-- the same full name and version
abbrev pub same_id : TypeId → TypeId → Bool
same_id a b = bytes_eq a.name b.name && ((a.major == b.major) && (a.minor == b.minor))

-- the first definition of a type
abbrev pub definition_of : List Definition → TypeId → Option Definition
definition_of [] id = None
definition_of (d ∷ ds) id = if same_id d.id id then Some d else definition_of ds id

-- It has this full name and version, and none in front of it has.
abbrev pub IsFirst : List Definition → TypeId → Definition → Type 0
IsFirst ds id d = (before : List Definition) × (behind : List Definition) × (ds ≡ before ++ d ∷ behind) × (d.id ≡ id) × All (λ e. e.id ≢ id) before

-- the first definition of a type, or none where no definition is of it
abbrev pub Finds : List Definition → TypeId → Option Definition → Type 0
Finds ds id None = All (λ d. d.id ≢ id) ds
Finds ds id (Some d) = IsFirst ds id d
