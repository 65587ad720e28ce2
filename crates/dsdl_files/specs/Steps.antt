-- What each step of reading a folder does.
use Rattle.std.specs.Prelude.{◌≡◌, ◌≢◌, ℕ, ◌<◌, Bool, true, false, not, ◌||◌, ◌&&◌, List, [], ◌∷◌}
use Rattle.std.specs.Prelude.{◌++◌, length, map, filter, take, Option, Some, None, Result, Ok, Err}
use Rattle.std.specs.Prelude.{⊤}
use Rattle.std.specs.List.{list_any, AllPairs}
use Rattle.std.specs.Str.{bytes_eq}
use Rattle.cy_outside.specs.Files.{Files, is_folder, bytes_at, ListsMembers}
use Rattle.cy_outside.specs.declared.tree.Entry.{Entry}
use Rattle.dsdl_files.specs.declared.file.DsdlFile.{DsdlFile}
use Rattle.dsdl_files.specs.declared.error.FolderError.{FolderError}
use Rattle.dsdl_files.specs.declared.error.FolderError.TheVariants.{NotFolder, TooBig, Failed}
use Rattle.dsdl_files.specs.declared.error.FolderError.TheVariants.{NoMemory}
use Rattle.dsdl_files.specs.declared.limits.Limits.{Limits}
use Rattle.dsdl_files.specs.Folders.{is_dsdl, name_below, dsdl_paths, dsdl_file, folders, counted}
use Rattle.dsdl_files.specs.Folders.{first_past, first_too_big}

-- no name stands twice
abbrev pub NamesDiffer : List Entry → Type 0
NamesDiffer = AllPairs (λ (a b : Entry). a.name ≢ b.name)

-- of each name the first entry, in their order
abbrev pub first_of_each : List Entry → List Entry
first_of_each [] = []
first_of_each (entry ∷ rest) = entry ∷ filter (λ (other : Entry). not (bytes_eq entry.name other.name)) (first_of_each rest)

-- what a path lists, where the files are told
abbrev pub ListsFolder : Option Files → List ℕ → Option (List Entry) → Type 0
ListsFolder None path members = ⊤
ListsFolder (Some files) path None = is_folder files path ≡ false
ListsFolder (Some files) path (Some members) = (is_folder files path ≡ true) × ListsMembers files path members

-- a path is that of a folder's member which is a folder
abbrev pub is_subfolder : List ℕ → List ℕ → Entry → Bool
is_subfolder folder path member = member.folder && bytes_eq (folder ++ 47 ∷ member.name) path

-- a path is that of a folder's member which is a file that is compiled
abbrev pub is_dsdl_member : List ℕ → List ℕ → Entry → Bool
is_dsdl_member folder path member = not member.folder && (is_dsdl (folder ++ 47 ∷ member.name) && bytes_eq (folder ++ 47 ∷ member.name) path)

-- the new paths are the old ones and those that some member passes
abbrev pub Adds : (List ℕ → Entry → Bool) → List Entry → List (List ℕ) → List (List ℕ) → Type 0
Adds test members old new = (path : List ℕ) → list_any (bytes_eq path) new ≡ (list_any (test path) members || list_any (bytes_eq path) old)

-- there was no room for a folder's members, or no memory
abbrev pub IsRefused : List ℕ → List ℕ → ℕ → List Entry → FolderError → Type 0
IsRefused root folder room members NotFolder = ⊥
IsRefused root folder room members (TooBig path) = (path ≡ name_below root folder) × (room < length members)
IsRefused root folder room members Failed = ⊥
IsRefused root folder room members NoMemory = ⊤

-- the files below the root that are compiled, within the limit on entries
abbrev pub Finds : Files → List ℕ → ℕ → Result (List (List ℕ)) FolderError → Type 0
Finds files root most (Ok paths) = (is_folder files root ≡ true) × (first_past most (counted files root (folders files root)) ≡ None) × (paths ≡ dsdl_paths files root)
Finds files root most (Err NotFolder) = is_folder files root ≡ false
Finds files root most (Err (TooBig path)) = (is_folder files root ≡ true) × (first_past most (counted files root (folders files root)) ≡ Some path)
Finds files root most (Err Failed) = ⊤
Finds files root most (Err NoMemory) = ⊤

-- the first bytes of the file at a path, where the files are told
abbrev pub ReadsAt : Option Files → List ℕ → ℕ → List ℕ → Type 0
ReadsAt None path most text = ⊤
ReadsAt (Some files) path most text = text ≡ take most (bytes_at files path)

-- the files at these paths, within the limits on files
abbrev pub ReadsAll : Files → List ℕ → Limits → List (List ℕ) → Result (List DsdlFile) FolderError
    → Type 0
ReadsAll files root limits paths (Ok read) = (first_too_big limits.files limits.bytes (map (dsdl_file files root) paths) ≡ None) × (read ≡ map (dsdl_file files root) paths)
ReadsAll files root limits paths (Err NotFolder) = ⊥
ReadsAll files root limits paths (Err (TooBig path)) = first_too_big limits.files limits.bytes (map (dsdl_file files root) paths) ≡ Some path
ReadsAll files root limits paths (Err Failed) = ⊤
ReadsAll files root limits paths (Err NoMemory) = ⊤
