-- Files with their names, and what they are read as.
use Rattle.std.specs.Prelude.{◌≡◌, List, map, Ok}
use Rattle.std.specs.List.{AllZip}
use Rattle.dsdl_files.specs.declared.file.DsdlFile.{DsdlFile}
use Rattle.dsdl_links.specs.declared.source.Source.{Source}
use Rattle.dsdl_names.specs.Names.{file_name_of}
use Rattle.dsdl_names.specs.declared.FileName.{FileName}
use Rattle.dsdl_resolve.specs.Reads.{Read, IsRead, AreRead, source_of, sources_of}

-- the path of each file is a name
abbrev pub AreNamed : List DsdlFile → List FileName → Type 0
AreNamed files names = AllZip (λ file name. file_name_of file.path ≡ Ok name) files names

-- what a file of a name defines and refers to
pub record IsSource (file : DsdlFile) (name : FileName) (source : Source) : Type 0 where
  pub read : Read
  pub is_read : IsRead file read
  pub named : read.name ≡ name
  pub is : source ≡ source_of read

-- what files of these names define and refer to
pub record AreSources (files : List DsdlFile) (names : List FileName)
    (sources : List Source) : Type 0 where
  pub reads : List Read
  pub are_read : AreRead files reads
  pub named : map (λ r. r.name) reads ≡ names
  pub are : sources ≡ sources_of reads
