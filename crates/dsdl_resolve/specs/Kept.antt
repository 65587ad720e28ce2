-- The statements of files that are kept from one pass to the next.
use Rattle.std.specs.Prelude.{List, Option, IfSome}
use Rattle.std.specs.List.{AllZip}
use Rattle.dsdl_files.specs.declared.file.DsdlFile.{DsdlFile}
use Rattle.dsdl_parse.specs.Ast.{IsAst}
use Rattle.dsdl_parse.specs.declared.syntax.Ast.{Ast}

-- the statements of a file's text, where they are kept
abbrev pub IsKept : DsdlFile → Option Ast → Type 0
IsKept file kept = IfSome kept (λ ast. IsAst file.text ast.lines)

-- the same of all files, in path order
abbrev pub AreKept : List DsdlFile → List (Option Ast) → Type 0
AreKept files kept = AllZip IsKept files kept
