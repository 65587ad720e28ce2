-- The namespace that a root stands for.
use Rattle.std.specs.Prelude.{◌≡◌, ◌⊎◌, ℕ, Bool, true, false, if◌then◌else◌, List, [], codes}
use Rattle.std.specs.Prelude.{Option, IfSome, Result, Ok, Err, ⊤}
use Rattle.std.specs.Str.{bytes_eq}
use Rattle.cy_outside.specs.Files.{Files}
use Rattle.cy_outside.specs.Outside.{Rose}
use Rattle.dsdl_files.specs.Folders.{calls_of_folder, files_of_folder}
use Rattle.dsdl_files.specs.declared.file.DsdlFile.{DsdlFile}
use Rattle.dsdl_files.specs.declared.error.FolderError.{FolderError}
use Rattle.dsdl_files.specs.declared.error.FolderError.TheVariants as folder
use Rattle.dsdl_types.specs.declared.namespace.Namespace.{Namespace}
use Rattle.dsdl_resolve.specs.Passes.{Compiled, FirstRefusal}
use Rattle.dsdl_resolve.specs.declared.error.DsdlError.{DsdlError}
use Rattle.dsdl_resolve.specs.declared.error.DsdlError.TheVariants as dsdl
use Rattle.dsdl_resolve.specs.declared.why.DsdlWhy.{DsdlWhy}
use Rattle.dsdl_resolve.specs.declared.why.DsdlWhy.TheVariants as why
use Rattle.node_run.specs.declared.status.Status.{Status}
use Rattle.node_run.specs.declared.status.Status.TheVariants as status

-- the root that stands for an empty namespace
abbrev pub is_none : List ℕ → Bool
is_none root = bytes_eq root (codes "none")

-- the files of a root that stands for none, or of a folder, where the tree tells its files
abbrev pub AreFiles : Bool → List ℕ → Option Files → List DsdlFile → Type 0
AreFiles true root told files = files ≡ []
AreFiles false root told files = IfSome told (λ tree. files_of_folder tree root ≡ Ok files)

-- the files that a root stands for
abbrev pub AreFilesOf : List ℕ → Option Files → List DsdlFile → Type 0
AreFilesOf root told files = AreFiles (is_none root) root told files

-- the namespace that a root stands for: that of its files
pub record IsLoaded (root : List ℕ) (told : Option Files) (names : Namespace) : Type 0 where
  pub files : List DsdlFile
  pub are : AreFilesOf root told files
  pub compiled : Compiled files names

-- a root is no folder
pub record IsMissing (root : List ℕ) (told : Option Files) (path : List ℕ) : Type 0 where
  pub named : path ≡ root
  pub not_none : is_none root ≡ false
  pub missing : IfSome told (λ tree. files_of_folder tree root ≡ Err folder.NotFolder)

-- reading the folder passes a limit at this place, for which no line is named
pub record IsTooBig (root : List ℕ) (told : Option Files) (path : List ℕ) (line : ℕ)
    (cause : DsdlWhy) : Type 0 where
  pub not_none : is_none root ≡ false
  pub limit : IfSome told (λ tree. files_of_folder tree root ≡ Err (folder.TooBig path))
  pub no_line : line ≡ 0
  pub is : cause ≡ why.TooBig

-- the files of the root are refused, and this is the first refusal
pub record AreRefused (root : List ℕ) (told : Option Files) (path : List ℕ) (line : ℕ)
    (cause : DsdlWhy) : Type 0 where
  pub files : List DsdlFile
  pub are : AreFilesOf root told files
  pub first : FirstRefusal files path line cause

-- why a root has no namespace, by the status
abbrev pub IsNotLoaded : List ℕ → Option Files → Status → Type 0
IsNotLoaded root told (status.NoFile path) = IsMissing root told path
IsNotLoaded root told (status.Dsdl path line cause) = IsTooBig root told path line cause ⊎ AreRefused root told path line cause
IsNotLoaded root told status.ReadFault = ⊤
IsNotLoaded root told status.NoMemory = ⊤
IsNotLoaded root told other = ⊥

-- the status of a folder whose files were not read
abbrev pub not_read : List ℕ → FolderError → Status
not_read root folder.NotFolder = status.NoFile root
not_read root (folder.TooBig path) = status.Dsdl path 0 why.TooBig
not_read root folder.Failed = status.ReadFault
not_read root folder.NoMemory = status.NoMemory

-- the status of files that have no namespace
abbrev pub not_resolved : DsdlError → Status
not_resolved (dsdl.At path line cause) = status.Dsdl path line cause
not_resolved dsdl.NoMemory = status.NoMemory

-- a read fault comes only where the tree's count rose; every other answer leaves the count as it
-- was
abbrev pub HasLoadCause : {T : Type 0} → ℕ → ℕ → Result T Status → Type 0
HasLoadCause old new (Ok answer) = new ≡ old
HasLoadCause old new (Err status.ReadFault) = Rose old new
HasLoadCause old new (Err other) = new ≡ old

-- how many calls of a tree with these files the namespace of a root takes at most: none where it
-- stands for none
abbrev pub calls_of : List ℕ → Files → ℕ
calls_of root files = if is_none root then 0 else calls_of_folder files root
