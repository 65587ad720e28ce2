-- The namespace of files that are valued.
use Rattle.std.specs.Prelude.{◌≡◌, List}
use Rattle.dsdl_files.specs.declared.file.DsdlFile.{DsdlFile}
use Rattle.dsdl_types.specs.declared.namespace.Namespace.{Namespace}
use Rattle.dsdl_resolve.specs.Passes.{AreValued, definitions_of}
use Rattle.dsdl_resolve.specs.Valuing.{Done, prints_of}

-- the namespace has the definition of each file and what was printed
pub record IsValuedNamespace (files : List DsdlFile) (names : Namespace) : Type 0 where
  pub done : List Done
  pub valued_all : AreValued files done
  pub types : names.definitions ≡ definitions_of files done
  pub printed : names.prints ≡ prints_of done
