-- What a file defines keeps the rules of schemas.
use Rattle.std.specs.Prelude.{◌≡◌, ℕ, List, Ok}
use Rattle.std.specs.List.{All}
use Rattle.dsdl_files.specs.declared.file.DsdlFile.{DsdlFile}
use Rattle.dsdl_names.specs.declared.FileName.{FileName}
use Rattle.dsdl_parse.specs.Spelling.{WellSpelled}
use Rattle.dsdl_parse.specs.declared.statement.Statement.{Statement}
use Rattle.dsdl_types.specs.Definitions.{IsDefinition, IsNamespace}
use Rattle.dsdl_types.specs.declared.namespace.Namespace.{Namespace}
use Rattle.const_expr.specs.declared.scope.Scope.{Scope}
use Rattle.dsdl_resolve.specs.declared.outcome.Outcome.{Outcome}
use Rattle.dsdl_resolve.specs.Judged.{outcome}
use Rattle.dsdl_resolve.specs.Passes.{Compiled}

-- the definition of a file keeps the rules, where those of the types that it refers to do
abbrev pub DefinitionsKeepRules : Type 0
DefinitionsKeepRules = (scope : Scope) (path : List ℕ) (name : FileName) (lines : List Statement) (done : Outcome) →
    IsNamespace scope.namespace → All WellSpelled lines → outcome scope path name lines ≡ Ok done → IsDefinition done.definition

-- so each definition of a compiled namespace does
abbrev pub NamespacesKeepRules : Type 0
NamespacesKeepRules = (files : List DsdlFile) (names : Namespace) → Compiled files names → IsNamespace names
