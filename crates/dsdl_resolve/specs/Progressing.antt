-- What stands while files are valued.
use Rattle.std.specs.Prelude.{◌≡◌, ◌++◌, ◌∷◌, ℕ, not, List, [], length, map, filter, All}
use Rattle.const_expr.specs.Member.{AreConstants}
use Rattle.const_expr.specs.declared.scope.NamedConst.{NamedConst}
use Rattle.dsdl_links.specs.declared.source.Source.{Source}
use Rattle.dsdl_types.specs.Definitions.{IsDefinition}
use Rattle.dsdl_types.specs.declared.definition.Definition.{Definition}
use Rattle.dsdl_resolve.specs.Valuing.{Done, is_meant, meant, definition_of, members_of, prints_of}
use Rattle.dsdl_resolve.specs.Places.{AreCountsIn, ArePlacesIn}
use Rattle.dsdl_resolve.specs.declared.counts.Counts.{Counts}
use Rattle.dsdl_resolve.specs.declared.progress.Progress.{Progress}

-- those that no reference means, in the order of valuing
abbrev pub doubled : List Source → List Done → List Done
doubled sources done = filter (λ d. not (is_meant sources d)) done

-- what is kept of the types of these files
pub record HoldsTypes (sources : List Source) (done : List Done) (p : Progress) : Type 0 where
  pub definitions : p.scope.namespace.definitions ≡ map definition_of (meant sources done)
  pub members : p.scope.members ≡ map members_of (meant sources done)
  pub no_prints : p.scope.namespace.prints ≡ []
  pub numbers : p.numbers.items ≡ map (λ d. d.number) (meant sources done)
  pub doubles : p.doubles.items ≡ map definition_of (doubled sources done)
  pub double_numbers : p.double_numbers.items ≡ map (λ d. d.number) (doubled sources done)

-- what is kept of these files
pub record Holds (sources : List Source) (done : List Done) (p : Progress) : Type 0 where
  pub types : HoldsTypes sources done p
  pub prints : p.prints ≡ prints_of done

-- one type more that references mean, and nothing else; its message is so large
pub record WithType (old new : Progress) (number : ℕ) (d : Definition) (constants : List NamedConst)
    (counts : Counts) : Type 0 where
  pub definitions : new.scope.namespace.definitions ≡ old.scope.namespace.definitions ++ d ∷ []
  pub members : new.scope.members ≡ old.scope.members ++ record { id = d.id; constants = constants } ∷ []
  pub no_prints : new.scope.namespace.prints ≡ old.scope.namespace.prints
  pub places : AreCountsIn counts d.parts → ArePlacesIn old.scope old.places
      → ArePlacesIn new.scope new.places
  pub numbers : new.numbers.items ≡ old.numbers.items ++ number ∷ []
  pub doubles : new.doubles.items ≡ old.doubles.items
  pub double_numbers : new.double_numbers.items ≡ old.double_numbers.items
  pub prints : new.prints ≡ old.prints

-- one type more that no reference means, and nothing else
pub record WithDouble (old new : Progress) (number : ℕ) (d : Definition) : Type 0 where
  pub scope : new.scope ≡ old.scope
  pub places : new.places ≡ old.places
  pub numbers : new.numbers.items ≡ old.numbers.items
  pub doubles : new.doubles.items ≡ old.doubles.items ++ d ∷ []
  pub double_numbers : new.double_numbers.items ≡ old.double_numbers.items ++ number ∷ []
  pub prints : new.prints ≡ old.prints

-- all types keep the rules of the language, the members of sets among the constants ascend, and
-- each type has its place
pub record IsSound (p : Progress) : Type 0 where
  pub definitions : All IsDefinition p.scope.namespace.definitions
  pub members : All (λ t. AreConstants t.constants) p.scope.members
  pub doubles : All IsDefinition p.doubles.items
  pub places : ArePlacesIn p.scope p.places

-- each type stands beside the number of its file
pub record AreBeside (p : Progress) : Type 0 where
  pub meant : length p.numbers.items ≡ length p.scope.namespace.definitions
  pub doubled : length p.double_numbers.items ≡ length p.doubles.items
