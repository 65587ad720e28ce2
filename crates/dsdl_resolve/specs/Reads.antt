-- What the passes on names and on syntax leave of the files.
use Rattle.std.specs.Prelude.{◌≡◌, ℕ, List, map, Ok}
use Rattle.std.specs.List.{AllZip}
use Rattle.dsdl_files.specs.declared.file.DsdlFile.{DsdlFile}
use Rattle.dsdl_links.specs.Mentions.{mentions}
use Rattle.dsdl_links.specs.declared.source.Source.{Source}
use Rattle.dsdl_names.specs.Names.{file_name_of}
use Rattle.dsdl_names.specs.declared.FileName.{FileName}
use Rattle.dsdl_parse.specs.Ast.{IsAst}
use Rattle.dsdl_parse.specs.declared.statement.Statement.{Statement}

-- a file with what its path names, and with its statements, one a line
pub record Read : Type 0 where
  pub path : List ℕ
  pub name : FileName
  pub lines : List Statement

-- the file's path is a name, and its lines are these statements
pub record IsRead (file : DsdlFile) (r : Read) : Type 0 where
  pub same : r.path ≡ file.path
  pub named : file_name_of file.path ≡ Ok r.name
  pub text : IsAst file.text r.lines

-- all files, in path order
abbrev pub AreRead : List DsdlFile → List Read → Type 0
AreRead files reads = AllZip IsRead files reads

-- the type that a file defines, and the types that its lines refer to
abbrev pub source_of : Read → Source
source_of r = record { id = r.name.id; mentions = mentions r.name.id.name r.lines }

abbrev pub sources_of : List Read → List Source
sources_of reads = map source_of reads
