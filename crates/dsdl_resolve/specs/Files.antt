-- What is known of a file that isn't at its end.
use Rattle.std.specs.Prelude.{◌≡◌, ℕ, ◌++◌, ◌∷◌, true, false, List, [], Option, Some, None}
use Rattle.std.specs.List.{list_any, before_first}
use Rattle.dsdl_parse.specs.declared.statement.Statement.{Statement}
use Rattle.const_expr.specs.Member.{AreConstants}
use Rattle.const_expr.specs.declared.scope.NamedConst.{NamedConst}
use Rattle.const_expr.specs.declared.scope.Scope.{Scope}
use Rattle.dsdl_resolve.specs.Judged.{composite_of, prints_at, refusal_at}
use Rattle.dsdl_resolve.specs.Opens.{IsOpen}
use Rattle.dsdl_resolve.specs.Place.{place}
use Rattle.dsdl_resolve.specs.Says.{is_split}
use Rattle.dsdl_resolve.specs.Values.{said_by}
use Rattle.dsdl_resolve.specs.declared.file.OpenFile.{OpenFile}
use Rattle.dsdl_resolve.specs.declared.open_section.Half.{Half}
use Rattle.dsdl_resolve.specs.declared.outcome.FileError.{FileError}
use Rattle.dsdl_resolve.specs.declared.outcome.FileError.TheVariants as error
use Rattle.dsdl_resolve.specs.declared.why.DsdlWhy.{DsdlWhy}

-- the first section of a file, where `---` stands behind it
abbrev pub IsRequest : Scope → List Statement → Option Half → Type 0
IsRequest scope front None = list_any is_split front ≡ false
IsRequest scope front (Some half) = (list_any is_split front ≡ true)
    × (half.schema ≡ composite_of (said_by scope (before_first is_split front))) × (half.types ≡ (said_by scope (before_first is_split front)).types)

-- a file whose section has these constants, behind some of its statements and before the others
pub record IsFile (file : OpenFile) (constants : List NamedConst) (scope : Scope)
    (front back : List Statement) : Type 0 where
  pub section : IsOpen file.section constants scope front back
  pub kept : AreConstants constants
  pub request : IsRequest scope front file.request

-- a statement isn't refused, and the file has it and what it prints
pub record IsStepped (old new : OpenFile) (constants : List NamedConst) (scope : Scope)
    (path : List ℕ) (front : List Statement) (s : Statement) (back : List Statement) : Type 0 where
  pub allowed : refusal_at scope (place front s back) ≡ None
  pub file : IsFile new constants scope (front ++ s ∷ []) back
  pub prints : new.prints ≡ old.prints ++ prints_at scope path front s

-- P holds of the line and the cause; of want of memory nothing is said
abbrev pub IsFileRefusal : (ℕ → DsdlWhy → Type 0) → FileError → Type 0
IsFileRefusal P (error.Refused refused) = P refused.line refused.why
IsFileRefusal P error.NoMemory = Unit {0}
