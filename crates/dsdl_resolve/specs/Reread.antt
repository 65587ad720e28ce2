-- Files that were read, and what valuing makes of them.
use Rattle.std.specs.Prelude.{◌≡◌, ℕ, List, [], map, None, Ok}
use Rattle.const_expr.specs.declared.scope.Scope.{Scope}
use Rattle.dsdl_files.specs.declared.file.DsdlFile.{DsdlFile}
use Rattle.dsdl_names.specs.declared.FileName.{FileName}
use Rattle.dsdl_parse.specs.Ast.{IsAst}
use Rattle.dsdl_parse.specs.declared.statement.Statement.{Statement}
use Rattle.dsdl_resolve.specs.Progressing.{Holds}
use Rattle.dsdl_resolve.specs.Reads.{Read, AreRead, sources_of}
use Rattle.dsdl_resolve.specs.Valuing.{Done, valued}
use Rattle.dsdl_resolve.specs.declared.progress.Progress.{Progress}

-- each line of a text is one of the grammar
abbrev pub HasStatements : List ℕ → Type 0
HasStatements text = (ss : List Statement) × IsAst text ss

-- files of these names were read
pub record WereRead (files : List DsdlFile) (names : List FileName) : Type 0 where
  pub reads : List Read
  pub are_read : AreRead files reads
  pub named : map (λ r. r.name) reads ≡ names

-- the scope in which a file is valued, with the types of another
abbrev pub scope_in : Scope → Read → Scope
scope_in scope r = record { constants = []; offset = None; namespace = scope.namespace; own = r.name.id.name; members = scope.members }

-- the files are valued in this order, and this is kept of them
pub record IsValuedTo (reads : List Read) (order : List ℕ) (p : Progress) : Type 0 where
  pub done : List Done
  pub valued_all : valued reads order ≡ Ok done
  pub holds : Holds (sources_of reads) done p
