-- Where the types of a scope stand.
use Rattle.std.specs.Prelude.{◌≡◌, ℕ, List, map, slice_get, Option, Some}
use Rattle.std.specs.BTreeMap.{BTreeMap, get}
use Rattle.std.specs.List.{position_from}
use Rattle.dsdl_names.specs.Types.{type_order}
use Rattle.dsdl_names.specs.declared.TypeId.{TypeId}
use Rattle.dsdl_types.specs.Finding.{same_id, definition_of}
use Rattle.dsdl_types.specs.declared.definition.Definition.{Definition}
use Rattle.const_expr.specs.declared.scope.Scope.{Scope}
use Rattle.const_expr.specs.declared.scope.TypeConsts.{TypeConsts}

-- the place of a type among some, counted from 0: the first where it stands twice
abbrev pub place_in : List TypeId → TypeId → Option ℕ
place_in ids id = position_from (λ one. same_id one id) 0 ids

-- of each type the place among these is known, and of no other one
abbrev pub ArePlacesOf : List TypeId → BTreeMap TypeId ℕ → Type 0
ArePlacesOf ids places = (id : TypeId) → get type_order places id ≡ place_in ids id

-- the types that the definitions of a scope define, in order
abbrev pub defined : Scope → List TypeId
defined scope = map (λ (d : Definition). d.id) scope.namespace.definitions

-- the types that have an entry of constants, in order
abbrev pub ids_of : List TypeConsts → List TypeId
ids_of ts = map (λ (t : TypeConsts). t.id) ts

-- the place of each type of a scope is known, and its constants stand at the same one
pub record ArePlaces (scope : Scope) (places : BTreeMap TypeId ℕ) : Type 0 where
  pub types : ArePlacesOf (defined scope) places
  pub members : ids_of scope.members ≡ defined scope

-- this is the first definition of the type, and stands at this place
pub record IsFound (scope : Scope) (id : TypeId) (place : ℕ) (d : Definition) : Type 0 where
  pub at : place_in (defined scope) id ≡ Some place
  pub stands : slice_get scope.namespace.definitions place ≡ Some d
  pub first : definition_of scope.namespace.definitions id ≡ Some d
