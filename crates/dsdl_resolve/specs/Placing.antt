-- Types at the places of their files' numbers.
use Rattle.std.specs.Prelude.{◌≡◌, ◌<◌, ℕ, List, map, length, Option, None, slice_index_or}
use Rattle.std.specs.Option.{option_or}
use Rattle.dsdl_types.specs.declared.definition.Definition.{Definition}
use Rattle.dsdl_resolve.specs.Valuing.{Done, definition_of, definition_at}

-- the types of valued files, with the numbers of the files
pub record AreNumbered (done : List Done) (ns : List ℕ) (ds : List Definition) : Type 0 where
  pub numbers : ns ≡ map (λ d. d.number) done
  pub types : ds ≡ map definition_of done

-- the types of these files are put at their places, and the other places are as they were
pub record Places (done : List Done) (old new : List (Option Definition)) : Type 0 where
  pub count : length new ≡ length old
  pub each : (n : ℕ) → n < length old
      → slice_index_or new n None ≡ option_or (definition_at done n) (slice_index_or old n None)
