-- The passes over the files, and the first refusal of all.
use Rattle.std.specs.Prelude.{◌≡◌, ℕ, List, ◌∷◌, ◌++◌, ◌^◌, map, length, slice_get, Option, Some}
use Rattle.std.specs.Prelude.{None, Ok, Err}
use Rattle.std.specs.List.{All}
use Rattle.dsdl_clash.specs.Clashes.{Clash, first_clash, ports_clash, versions_clash}
use Rattle.dsdl_files.specs.Folders.{first_too_big}
use Rattle.dsdl_files.specs.declared.file.DsdlFile.{DsdlFile}
use Rattle.dsdl_links.specs.Links.{AreLinks, IsUnresolved}
use Rattle.dsdl_links.specs.Order.{IsCycle, IsOrder}
use Rattle.dsdl_links.specs.declared.source.Source.{Source}
use Rattle.dsdl_names.specs.Names.{file_name_of}
use Rattle.dsdl_names.specs.declared.NameError.{NameError}
use Rattle.dsdl_names.specs.declared.TypeId.{TypeId}
use Rattle.dsdl_parse.specs.Ast.{FirstBad}
use Rattle.dsdl_types.specs.declared.definition.Definition.{Definition}
use Rattle.dsdl_types.specs.declared.namespace.Namespace.{Namespace}
use Rattle.dsdl_resolve.specs.Reads.{Read, AreRead, sources_of}
use Rattle.dsdl_resolve.specs.Valuing.{Done, valued, in_path_order, prints_of}
use Rattle.dsdl_resolve.specs.declared.why.DsdlWhy.{DsdlWhy}
use Rattle.dsdl_resolve.specs.declared.why.DsdlWhy.TheVariants as cause

-- the first file that is past the count of 4,096 files, or has more than 2^20 bytes
abbrev pub first_past_limit : List DsdlFile → Option (List ℕ)
first_past_limit files = first_too_big 4096 (2 ^ 20) files

-- there is no such file
abbrev pub AreWithinLimits : List DsdlFile → Type 0
AreWithinLimits files = first_past_limit files ≡ None

-- TooBig: the first file that passes a limit. No line is named.
pub record IsTooBig (files : List DsdlFile) (path : List ℕ) (line : ℕ)
    (why : DsdlWhy) : Type 0 where
  pub first : first_past_limit files ≡ Some path
  pub no_line : line ≡ 0
  pub is : why ≡ cause.TooBig

-- at which line a pass refuses a file, and why
abbrev pub Pass : Type 1
Pass = DsdlFile → ℕ → DsdlWhy → Type 0

-- Names: the path of the file is none. No line is named.
abbrev pub NameRefuses : Pass
NameRefuses file line why = (error : NameError) × (file_name_of file.path ≡ Err error) × (why ≡ cause.Name error) × (line ≡ 0)

-- Syntax: the first line of the file that is none.
abbrev pub SyntaxRefuses : Pass
SyntaxRefuses file line why = FirstBad file.text line × (why ≡ cause.Syntax)

-- a pass refuses nothing of a file
abbrev pub Passes : Pass → DsdlFile → Type 0
Passes refuses file = (line : ℕ) (why : DsdlWhy) → refuses file line why → ⊥

-- The first file that a pass refuses, with its line and the cause.
pub record IsFirst (refuses : Pass) (files : List DsdlFile) (path : List ℕ) (line : ℕ)
    (why : DsdlWhy) : Type 0 where
  pub before : List DsdlFile
  pub file : DsdlFile
  pub behind : List DsdlFile
  pub parts : files ≡ before ++ file ∷ behind
  pub named : path ≡ file.path
  pub refused : refuses file line why
  pub earlier : All (Passes refuses) before

-- the path of the file of this number, counted from 0
abbrev pub path_at : List DsdlFile → ℕ → Option (List ℕ)
path_at files n = slice_get (map (λ file. file.path) files) n

-- the first passes refuse nothing: the files are within the limits, and each has a name and is read
pub record ArePassed (files : List DsdlFile) (reads : List Read) : Type 0 where
  pub within : AreWithinLimits files
  pub read : AreRead files reads

-- Unresolved: the first reference to a type that no file defines, with its line.
pub record IsUnresolvedAt (files : List DsdlFile) (sources : List Source) (path : List ℕ) (line : ℕ)
    (why : DsdlWhy) : Type 0 where
  pub file : ℕ
  pub id : TypeId
  pub first : IsUnresolved sources file line id
  pub named : path_at files file ≡ Some path
  pub is : why ≡ cause.Unresolved id

-- each reference means a file
pub record AreLinked (files : List DsdlFile) (reads : List Read)
    (links : List (List ℕ)) : Type 0 where
  pub passed : ArePassed files reads
  pub linked : AreLinks (sources_of reads) links

-- Cycle: the first file that reaches itself through references. No line is named.
pub record IsCycleAt (files : List DsdlFile) (links : List (List ℕ)) (path : List ℕ) (line : ℕ)
    (why : DsdlWhy) : Type 0 where
  pub file : ℕ
  pub first : IsCycle links file
  pub named : path_at files file ≡ Some path
  pub no_line : line ≡ 0
  pub is : why ≡ cause.Cycle

-- the files have an order in which they are valued
pub record AreOrdered (files : List DsdlFile) (reads : List Read) (order : List ℕ) : Type 0 where
  pub links : List (List ℕ)
  pub linked : AreLinked files reads links
  pub ordered : IsOrder links order

-- Valuing: the first file in that order that is refused, with its line and the cause.
pub record StopsAt (files : List DsdlFile) (reads : List Read) (order : List ℕ) (path : List ℕ)
    (line : ℕ) (why : DsdlWhy) : Type 0 where
  pub file : ℕ
  pub stopped : valued reads order ≡ Err (record { number = file; refused = record { line = line; why = why } })
  pub named : path_at files file ≡ Some path

-- all files are valued
pub record AreValued (files : List DsdlFile) (done : List Done) : Type 0 where
  pub reads : List Read
  pub order : List ℕ
  pub ordered : AreOrdered files reads order
  pub valued_all : valued reads order ≡ Ok done

-- VersionClash, PortClash: the first file in path order that clashes with one before it. No line is
-- named.
pub record ClashesAt (clash : Clash) (because : DsdlWhy) (files : List DsdlFile)
    (ds : List Definition) (path : List ℕ) (line : ℕ) (why : DsdlWhy) : Type 0 where
  pub file : ℕ
  pub first : first_clash clash ds ≡ Some file
  pub named : path_at files file ≡ Some path
  pub no_line : line ≡ 0
  pub is : why ≡ because

-- the definitions of all files, in path order
abbrev pub definitions_of : List DsdlFile → List Done → List Definition
definitions_of files done = in_path_order (length files) done

-- The first refusal: that of a pass, where the passes before it refuse nothing.
pub data FirstRefusal (files : List DsdlFile) (path : List ℕ) (line : ℕ) (why : DsdlWhy) : Type 0 where
  too_big : IsTooBig files path line why → FirstRefusal files path line why
  name : AreWithinLimits files → IsFirst NameRefuses files path line why
      → FirstRefusal files path line why
  syntax : AreWithinLimits files → All (Passes NameRefuses) files
      → IsFirst SyntaxRefuses files path line why → FirstRefusal files path line why
  unresolved : (reads : List Read) → ArePassed files reads
      → IsUnresolvedAt files (sources_of reads) path line why → FirstRefusal files path line why
  cycle : (reads : List Read) (links : List (List ℕ)) → AreLinked files reads links
      → IsCycleAt files links path line why → FirstRefusal files path line why
  valuing : (reads : List Read) (order : List ℕ) → AreOrdered files reads order
      → StopsAt files reads order path line why → FirstRefusal files path line why
  version : (done : List Done) → AreValued files done
      → ClashesAt versions_clash cause.VersionClash files (definitions_of files done) path line why
      → FirstRefusal files path line why
  port : (done : List Done) → AreValued files done
      → first_clash versions_clash (definitions_of files done) ≡ None →
      ClashesAt ports_clash cause.PortClash files (definitions_of files done) path line why → FirstRefusal files path line why

-- No file is refused: the namespace has the definition of each file, in path order, and what
-- `@print` wrote, in the order of valuing.
pub record Compiled (files : List DsdlFile) (names : Namespace) : Type 0 where
  pub done : List Done
  pub valued_all : AreValued files done
  pub versions : first_clash versions_clash names.definitions ≡ None
  pub ports : first_clash ports_clash names.definitions ≡ None
  pub definitions : names.definitions ≡ definitions_of files done
  pub prints : names.prints ≡ prints_of done
