-- The versions of the types of a namespace, each with the one before it.
use Rattle.std.specs.Prelude.{Bool, not, ◌==◌, ◌&&◌, nat_lt, List, [], ◌∷◌, drop, if◌then◌else◌}
use Rattle.std.specs.List.{filter, zip}
use Rattle.std.specs.Str.{bytes_eq}
use Rattle.dsdl_names.specs.declared.TypeId.{TypeId}
use Rattle.dsdl_types.specs.declared.definition.Definition.{Definition}
use Rattle.type_versions.specs.declared.pairs.VersionPair.{VersionPair}

-- Two versions of one type: the full names and the major numbers are the same, and the first has
-- the greater minor number. Versions of major number 0 are none, since they need not be compatible.
abbrev pub are_versions : TypeId → TypeId → Bool
are_versions new old =
    bytes_eq new.name old.name
    && ((new.major == old.major) && (not (new.major == 0) && nat_lt old.minor new.minor))

-- the definitions of a pair are such, the new one first
abbrev pub has_versions : Definition × Definition → Bool
has_versions p = are_versions p.0.id p.1.id

-- a pair, where its definitions are such
abbrev pub pair_among : Definition × Definition → List (Definition × Definition)
pair_among p = if has_versions p then p ∷ [] else []

-- of definitions by name and version, each that has a version before it in front of it, with that
abbrev pub version_pairs : List Definition → List (Definition × Definition)
version_pairs sorted = filter has_versions (zip (drop 1 sorted) sorted)

-- the definitions of a pair, the new one first
abbrev pub pair_of : VersionPair → Definition × Definition
pair_of p = (p.new.now, p.old.now)
