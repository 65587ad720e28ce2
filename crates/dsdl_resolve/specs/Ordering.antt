-- How files are valued.
use Rattle.std.specs.Prelude.{◌≡◌, ℕ, List, map}
use Rattle.dsdl_files.specs.declared.file.DsdlFile.{DsdlFile}
use Rattle.dsdl_links.specs.Links.{AreLinks, first_numbers}
use Rattle.dsdl_links.specs.Order.{IsOrder}
use Rattle.dsdl_names.specs.declared.FileName.{FileName}
use Rattle.dsdl_resolve.specs.Reads.{Read, AreRead, sources_of}
use Rattle.dsdl_resolve.specs.declared.order.FileOrder.{FileOrder}

-- the order in which files of these names are valued, and which of them references mean
pub record IsOrdering (files : List DsdlFile) (names : List FileName) (o : FileOrder) : Type 0 where
  pub reads : List Read
  pub are_read : AreRead files reads
  pub named : map (λ r. r.name) reads ≡ names
  pub links : List (List ℕ)
  pub linked : AreLinks (sources_of reads) links
  pub ordered : IsOrder links o.files
  pub first : o.firsts ≡ first_numbers (sources_of reads)
