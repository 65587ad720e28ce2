-- What a statement adds to its section.
use Rattle.std.specs.Prelude.{◌≡◌, ℕ, suc, ◌^◌, nat_lt, Bool, if◌then◌else◌, ◌++◌, false, true}
use Rattle.std.specs.Prelude.{List, [], ◌∷◌, Option, Some, None, is_some}
use Rattle.std.specs.List.{filter_map}
use Rattle.dsdl_parse.specs.declared.statement.Statement.{Statement}
use Rattle.dsdl_parse.specs.declared.statement.Statement.TheVariants as statement
use Rattle.const_expr.specs.declared.scope.Scope.{Scope}
use Rattle.dsdl_types.specs.Rules.{nesting_of, nodes_of}
use Rattle.dsdl_types.specs.Schemas.{Flds}
use Rattle.dsdl_types.specs.Views.{flds}
use Rattle.dsdl_resolve.specs.declared.addition.Addition.{Addition}
use Rattle.dsdl_resolve.specs.declared.addition.Addition.TheVariants as addition
use Rattle.dsdl_resolve.specs.declared.addition.Judged.{Judged}
use Rattle.dsdl_resolve.specs.declared.addition.StatementError.{StatementError}
use Rattle.dsdl_resolve.specs.declared.addition.StatementError.TheVariants as error
use Rattle.dsdl_resolve.specs.declared.before.Before.{Before}
use Rattle.dsdl_resolve.specs.declared.values.Values.{Values}
use Rattle.dsdl_resolve.specs.declared.why.DsdlWhy.{DsdlWhy}
use Rattle.dsdl_resolve.specs.declared.why.DsdlWhy.TheVariants as why
use Rattle.dsdl_resolve.specs.Judged.{above_limit, refusal_valued}
use Rattle.dsdl_resolve.specs.Place.{Place}
use Rattle.dsdl_resolve.specs.RuleNumbers.{nested_too_deep, too_many_nodes}
use Rattle.dsdl_resolve.specs.Rules.{is_used}
use Rattle.dsdl_resolve.specs.Said.{Said, greatest_in}
use Rattle.dsdl_resolve.specs.Says.{attribute_of}
use Rattle.dsdl_resolve.specs.Standing.{Stands}
use Rattle.dsdl_resolve.specs.Totals.{AreTotals, AreWithin}
use Rattle.dsdl_resolve.specs.Values.{added, with_field, with_padding}

-- what fields are refused for by their numbers: their nesting, their nodes, and then their length
abbrev pub size_refusal : Bool → Flds → Option DsdlWhy
size_refusal union fs =
    if nat_lt 32 (suc (nesting_of fs)) then Some (why.Rule nested_too_deep)
    else if nat_lt (2 ^ 20) (suc (nodes_of fs)) then Some (why.Rule too_many_nodes)
    else above_limit (greatest_in union fs)

-- what a section says with an addition, which has a name
abbrev pub with_addition : Said → List ℕ → Addition → Said
with_addition said name addition.Nothing = said
with_addition said name addition.Union = record said { union = true }
with_addition said name (addition.Extent n) = record said { extent = Some n }
with_addition said name (addition.Field t) = with_field said name (Some t)
with_addition said name (addition.Padding w) = with_padding said (Some w)
with_addition said name (addition.Constant u) = record said { constants = said.constants ++ record { name = name; value = u } ∷ [] }

-- the name of what a statement adds; nothing where it has none
abbrev pub name_of : Option (List ℕ) → List ℕ
name_of None = []
name_of (Some name) = name

-- what is known before a statement at a place, in a section that has said this
pub record IsBefore (before : Before) (p : Place) (said : Said) : Type 0 where
  pub standing : Stands before.standing p.file p.before
  pub names : (name : List ℕ)
      → is_used before.names name ≡ is_used (filter_map attribute_of p.before) name
  pub totals : AreTotals before.totals said.union (flds said.fields)
  pub empty : before.standing.entry ≡ false → said.fields ≡ []

-- a directive has a value where it has an expression
abbrev pub AreValuesOf : Statement → Values → Type 0
AreValuesOf (statement.Directive name x) vs = is_some vs.value ≡ is_some x
AreValuesOf s vs = Unit {0}

-- a statement isn't refused, and this is what it adds
pub record IsJudged (scope : Scope) (p : Place) (said : Said) (vs : Values)
    (j : Judged) : Type 0 where
  pub allowed : refusal_valued scope p said vs ≡ None
  pub adds : with_addition said (name_of (attribute_of p.at)) j.addition ≡ added scope said p.at vs
  pub totals : AreTotals j.totals (added scope said p.at vs).union (flds (added scope said p.at vs).fields)
  pub within : AreWithin j.totals

-- at every place at which such a statement stands behind what is known it isn't refused, and adds
-- this
abbrev pub Judges : Scope → Before → Statement → Values → Judged → Type 0
Judges scope before s vs j = (p : Place) (said : Said) → p.at ≡ s → IsBefore before p said → IsJudged scope p said vs j

-- at every such place it is refused for this
abbrev pub Refuses : Scope → Before → Statement → Values → DsdlWhy → Type 0
Refuses scope before s vs cause = (p : Place) (said : Said) → p.at ≡ s → IsBefore before p said → refusal_valued scope p said vs ≡ Some cause

-- P holds of the cause; of want of memory nothing is said
abbrev pub IsStatementRefusal : (DsdlWhy → Type 0) → StatementError → Type 0
IsStatementRefusal P (error.Refused cause) = P cause
IsStatementRefusal P error.NoMemory = Unit {0}
