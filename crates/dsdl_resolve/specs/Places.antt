-- What is known of the types of a scope.
use Rattle.std.specs.Prelude.{◌≡◌}
use Rattle.std.specs.List.{AllZip}
use Rattle.const_expr.specs.Places.{ArePlaces}
use Rattle.const_expr.specs.declared.scope.Scope.{Scope}
use Rattle.dsdl_types.specs.Views.{sch}
use Rattle.dsdl_types.specs.declared.definition.Parts.{Parts}
use Rattle.dsdl_types.specs.declared.definition.Parts.TheVariants as parts
use Rattle.dsdl_types.specs.declared.schema.Schema.{Schema}
use Rattle.dsdl_resolve.specs.Totals.{AreCountsOf}
use Rattle.dsdl_resolve.specs.declared.counts.Counts.{Counts}
use Rattle.dsdl_resolve.specs.declared.finding.Places.{Places}

-- how large the message is that a definition has; of a service nothing is said
abbrev pub AreCountsIn : Counts → Parts → Type 0
AreCountsIn counts (parts.Message s) = AreCountsOf counts (sch s)
AreCountsIn counts (parts.Service request response) = Unit {0}

-- the message of a schema, or a service
abbrev pub IsMessageOf : Schema → Parts → Type 0
IsMessageOf schema (parts.Message s) = s ≡ schema
IsMessageOf schema (parts.Service request response) = Unit {0}

-- the place of each type of a scope is known, and how large the message of each definition is
pub record ArePlacesIn (scope : Scope) (places : Places) : Type 0 where
  pub types : ArePlaces scope places.types
  pub counts : AllZip (λ d counts. AreCountsIn counts d.parts) scope.namespace.definitions places.counts
