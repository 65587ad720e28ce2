-- What is known of a section that isn't at its end.
use Rattle.std.specs.Prelude.{◌≡◌, ℕ, ◌≤◌, ◌∷◌, ◌++◌, ◌&&◌, ◌||◌, nat_lt, true, false, Bool, List}
use Rattle.std.specs.Prelude.{[], length, take, Option, Some, None, Result, Ok, Err, if◌then◌else◌}
use Rattle.std.specs.List.{filter_map, count_by, before_first}
use Rattle.dsdl_parse.specs.declared.statement.Statement.{Statement}
use Rattle.dsdl_types.specs.Views.{flds}
use Rattle.dsdl_types.specs.declared.schema.Field.{Field}
use Rattle.const_expr.specs.Member.{AreConstants}
use Rattle.const_expr.specs.declared.error.ExprError.{ExprError}
use Rattle.const_expr.specs.declared.scope.NamedConst.{NamedConst}
use Rattle.const_expr.specs.declared.scope.Scope.{Scope}
use Rattle.dsdl_resolve.specs.Judged.{cause_of, refusal_at}
use Rattle.dsdl_resolve.specs.Place.{place, last_section, is_union_section}
use Rattle.dsdl_resolve.specs.RuleNumbers.{union_offset_too_early}
use Rattle.dsdl_resolve.specs.Rules.{is_used}
use Rattle.dsdl_resolve.specs.Said.{Said, offsets}
use Rattle.dsdl_resolve.specs.Says.{is_split, is_field, attribute_of, names_offset}
use Rattle.dsdl_resolve.specs.SoundSections.{AreFine, KeepsRules}
use Rattle.dsdl_resolve.specs.Standing.{Stands}
use Rattle.dsdl_resolve.specs.Totals.{AreTotals, AreWithin}
use Rattle.dsdl_resolve.specs.Values.{said_by, scope_at, values}
use Rattle.dsdl_resolve.specs.declared.addition.Addition.{Addition}
use Rattle.dsdl_resolve.specs.declared.addition.Addition.TheVariants as addition
use Rattle.dsdl_resolve.specs.declared.offsets.Offsets.{Offsets}
use Rattle.dsdl_resolve.specs.declared.open_section.OpenSection.{OpenSection}
use Rattle.dsdl_resolve.specs.declared.values.Values.{Values}
use Rattle.dsdl_resolve.specs.declared.why.DsdlWhy.{DsdlWhy}
use Rattle.dsdl_resolve.specs.declared.why.DsdlWhy.TheVariants as why

-- a test of a name, where there is one
abbrev pub on_name : (List ℕ → Bool) → Option (List ℕ) → Bool
on_name test None = false
on_name test (Some name) = test name

-- what a section says, whose constants are these
abbrev pub said_of : OpenSection → List NamedConst → Said
said_of section constants = record { union = section.before.totals.union; fields = section.fields; types = section.types; constants = constants; extent = section.extent }

-- the scope of a file between two of its statements
abbrev pub between : Scope → List NamedConst → Scope
between scope constants = record scope { constants = constants; offset = None }

-- the lengths of a section with its first fields
abbrev pub AreOffsets : Bool → List Field → Option Offsets → Type 0
AreOffsets union fields None = Unit {0}
AreOffsets union fields (Some known) = (known.fields ≤ length fields) × (known.set ≡ offsets union (take known.fields fields))

-- those that are still of use behind an addition
abbrev pub kept_offsets : Addition → Option Offsets → Option Offsets
kept_offsets addition.Nothing known = known
kept_offsets addition.Union known = None
kept_offsets (addition.Extent n) known = known
kept_offsets (addition.Field t) known = known
kept_offsets (addition.Padding w) known = known
kept_offsets (addition.Constant u) known = known

-- what a section keeps, whatever stands in it
pub record IsReady (section : OpenSection) : Type 0 where
  pub within : AreWithin section.before.totals
  pub totals : AreTotals section.before.totals section.before.totals.union (flds section.fields)
  pub fine : AreFine section.before.totals.union section.fields
  pub counted : section.before.totals.variants ≡ section.before.standing.fields
  pub union : section.before.totals.union ≡ true → section.whole.union ≡ true
  pub offsets : AreOffsets section.before.totals.union section.fields section.offsets

-- a section with these constants behind some statements of a file and before the others
pub record IsOpen (section : OpenSection) (constants : List NamedConst) (scope : Scope)
    (front back : List Statement) : Type 0 where
  pub ready : IsReady section
  pub standing : Stands section.before.standing front (last_section front)
  pub names : (name : List ℕ)
      → is_used section.before.names name ≡ is_used (filter_map attribute_of (last_section front)) name
  pub says : said_by scope (last_section front) ≡ said_of section constants
  pub whole_union : section.whole.union ≡ is_union_section (last_section front ++ before_first is_split back)
  pub whole_fields : section.whole.fields ≡ count_by is_field (last_section front ++ before_first is_split back)
  pub keeps : KeepsRules scope front

-- the lengths that `_offset_` means in a statement
abbrev pub offset_for : OpenSection → Bool → Option (List ℕ)
offset_for section true = Some (offsets section.before.totals.union section.fields)
offset_for section false = None

abbrev pub with_offset : Scope → OpenSection → Statement → Scope
with_offset scope section s = record scope { offset = offset_for section (names_offset s) }

-- a union that has fewer than two variants so far, or has further ones
abbrev pub is_early : OpenSection → Bool
is_early section = section.whole.union && (nat_lt section.before.standing.fields 2 || nat_lt section.before.standing.fields section.whole.fields)

-- the cause where expressions are refused
abbrev pub of_values : Result Values ExprError → Option DsdlWhy
of_values (Ok vs) = None
of_values (Err e) = Some (why.Expr (cause_of e))

-- what the expressions of a statement are refused for
abbrev pub value_refusal : Scope → OpenSection → Statement → Option DsdlWhy
value_refusal scope section s =
    if names_offset s && is_early section then Some (why.Rule union_offset_too_early)
    else of_values (values (with_offset scope section s) s)

-- a statement isn't refused at its place and is worth these values, and the section has it
pub record IsTaken (scope : Scope) (front back : List Statement) (s : Statement) (vs : Values)
    (section : OpenSection) (constants : List NamedConst) : Type 0 where
  pub allowed : refusal_at scope (place front s back) ≡ None
  pub worth : values (scope_at scope (said_by scope (last_section front)) s) s ≡ Ok vs
  pub next : IsOpen section constants scope (front ++ s ∷ []) back
  pub kept : AreConstants constants
