-- Which versions stand before others.
use Rattle.std.specs.Prelude.{◌≡◌, ◌&&◌, true, false, List}
use Rattle.std.specs.List.{All, Contains}
use Rattle.dsdl_names.specs.declared.TypeId.{TypeId}
use Rattle.dsdl_types.specs.declared.definition.Definition.{Definition}
use Rattle.type_versions.specs.Pairs.{are_versions}

-- a definition of this type is among these
abbrev pub HasType : List Definition → TypeId → Type 0
HasType ds id = (d : Definition) × Contains ds d × (d.id ≡ id)

-- a pair of these two types is among these
abbrev pub HasPair : List (Definition × Definition) → TypeId → TypeId → Type 0
HasPair pairs new old =
    (p : Definition × Definition) × Contains pairs p × (p.0.id ≡ new) × (p.1.id ≡ old)

-- Both are versions of one type, of the same major number, which isn't 0, and no definition is a
-- version between them.
pub record IsVersionBefore (ds : List Definition) (new old : TypeId) : Type 0 where
  pub has_new : HasType ds new
  pub has_old : HasType ds old
  pub versions : are_versions new old ≡ true
  pub none_between : All (λ d. are_versions d.id old && are_versions new d.id ≡ false) ds
