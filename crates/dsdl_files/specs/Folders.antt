-- Which files of a folder are compiled, and when a folder is refused.
use Rattle.std.specs.Prelude.{◌≡◌, ℕ, ◌==◌, ◌+◌, ◌-◌, ◌^◌, min, max, Bool, cond, ◌||◌, ◌&&◌, List}
use Rattle.std.specs.Prelude.{[], ◌∷◌, ◌++◌, length, map, filter, filter_map, flat_map, Option}
use Rattle.std.specs.Prelude.{Some, None, is_some, option_map, unwrap_or, Result, Ok, Err, codes}
use Rattle.std.specs.Prelude.{nat_lt, nat_eq, ⊤}
use Rattle.std.specs.List.{ends_with, sum_by}
use Rattle.std.specs.Str.{bytes_eq}
use Rattle.std.specs.Set.{distinct_count}
use Rattle.std.specs.FinMap as finite
use Rattle.cy_outside.specs.Files.{Files, rest_in, is_folder, member_of, bytes_at, reads_of}
use Rattle.dsdl_files.specs.declared.file.DsdlFile.{DsdlFile}
use Rattle.dsdl_files.specs.declared.error.FolderError.{FolderError}
use Rattle.dsdl_files.specs.declared.error.FolderError.TheVariants.{NotFolder, TooBig, Failed}
use Rattle.dsdl_files.specs.declared.error.FolderError.TheVariants.{NoMemory}
use Rattle.dsdl_files.specs.declared.limits.Limits.{Limits}
use Rattle.dsdl_files.specs.Order.{ascending}

-- a path is that of a file that is compiled
abbrev pub is_dsdl : List ℕ → Bool
is_dsdl path = ends_with nat_eq path (codes ".dsdl")

-- a path stands in a folder, or below one of its folders
abbrev pub is_below : List ℕ → List ℕ → Bool
is_below folder path = is_some (rest_in folder path)

-- a path is a folder's, or below it
abbrev pub is_at_or_below : List ℕ → List ℕ → Bool
is_at_or_below folder path = bytes_eq folder path || is_below folder path

-- a path as it is named below the root, which is `.` itself
abbrev pub name_below : List ℕ → List ℕ → List ℕ
name_below root path = unwrap_or (rest_in root path) (codes ".")

-- the paths of the files below the root that are compiled, in their order
abbrev pub dsdl_paths : Files → List ℕ → List (List ℕ)
dsdl_paths files root = filter (λ path. is_below root path && is_dsdl path) (finite.keys files)

-- the file at a path, named below the root
abbrev pub dsdl_file : Files → List ℕ → List ℕ → DsdlFile
dsdl_file files root path = record { path = name_below root path; text = bytes_at files path }

-- the files below the root that are compiled, in the order of their paths, with their bytes
abbrev pub dsdl_files : Files → List ℕ → List DsdlFile
dsdl_files files root = map (dsdl_file files root) (dsdl_paths files root)

-- the folders in which a path stands: its fronts that `/` follows
abbrev pub folders_of : List ℕ → List (List ℕ)
folders_of [] = []
folders_of (b ∷ path) = cond (b == 47) ([] ∷ []) [] ++ map (λ front. b ∷ front) (folders_of path)

-- all folders, in the order of their paths
abbrev pub all_folders : Files → List (List ℕ)
all_folders files = ascending (flat_map folders_of (finite.keys files))

-- the root and all folders below it, in the order of their paths: the root is the first
abbrev pub folders : Files → List ℕ → List (List ℕ)
folders files root = filter (is_at_or_below root) (all_folders files)

-- how many direct members a folder has: different names of files and folders in it
abbrev pub member_count : Files → List ℕ → ℕ
member_count files folder = distinct_count bytes_eq (filter_map (λ file. option_map (λ member. member.name) (member_of folder file)) (finite.keys files))

-- the name of each of these folders, and how many direct members it has
abbrev pub counted : Files → List ℕ → List (List ℕ) → List (List ℕ × ℕ)
counted files root paths = map (λ folder. (name_below root folder, member_count files folder)) paths

-- the first folder whose members are more than these, together with the members of all before it
abbrev pub first_past : ℕ → List (List ℕ × ℕ) → Option (List ℕ)
first_past most [] = None
first_past most (folder ∷ rest) = cond (nat_lt most folder.1) (Some folder.0) (first_past (most - folder.1) rest)

-- the first file that is past this count or has more bytes than these
abbrev pub first_too_big : ℕ → ℕ → List DsdlFile → Option (List ℕ)
first_too_big count most [] = None
first_too_big count most (file ∷ rest) = cond (count == 0 || nat_lt most (length file.text)) (Some file.path) (first_too_big (count - 1) most rest)

-- refused at this place, and else the answer
abbrev pub refused_or : Option (List ℕ) → Result (List DsdlFile) FolderError
    → Result (List DsdlFile) FolderError
refused_or (Some path) answer = Err (TooBig path)
refused_or None answer = answer

-- the answer where a tree has these files: first the limit on entries counts, then those on files
abbrev pub files_within : Limits → Files → List ℕ → Result (List DsdlFile) FolderError
files_within limits files root = cond (is_folder files root)
    (refused_or (first_past limits.entries (counted files root (folders files root)))
    (refused_or (first_too_big limits.files limits.bytes (dsdl_files files root)) (Ok (dsdl_files files root))))
    (Err NotFolder)

-- the same within the limits on any folder: 65,536 entries, 4,096 files, 2^20 bytes each
abbrev pub files_of_folder : Files → List ℕ → Result (List DsdlFile) FolderError
files_of_folder files root = files_within (record { entries = 65536; files = 4096; bytes = 2 ^ 20 }) files root

-- a result is this answer, or the tree failed or memory ran out
abbrev pub IsAnswer : Result (List DsdlFile) FolderError → Result (List DsdlFile) FolderError
    → Type 0
IsAnswer answer (Ok files) = Ok files ≡ answer
IsAnswer answer (Err NotFolder) = Err NotFolder ≡ answer
IsAnswer answer (Err (TooBig path)) = Err (TooBig path) ≡ answer
IsAnswer answer (Err Failed) = ⊤
IsAnswer answer (Err NoMemory) = ⊤

-- how many reads the files at these paths take, of so many bytes at most
abbrev pub reads_within : ℕ → Files → List (List ℕ) → ℕ
reads_within most files paths = sum_by (λ path. reads_of (min most (length (bytes_at files path)))) paths

-- how many listings a folder takes: of itself, which may be none, and of all folders below it
abbrev pub listings_of : Files → List ℕ → ℕ
listings_of files root = max 1 (length (folders files root))

-- how many calls of a tree with these files the files of a folder take at most
abbrev pub calls_within : Limits → Files → List ℕ → ℕ
calls_within limits files root = listings_of files root + reads_within (limits.bytes + 1) files (dsdl_paths files root)

-- the same within the limits on any folder
abbrev pub calls_of_folder : Files → List ℕ → ℕ
calls_of_folder files root = calls_within (record { entries = 65536; files = 4096; bytes = 2 ^ 20 }) files root
