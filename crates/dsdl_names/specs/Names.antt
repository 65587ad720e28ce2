-- The names of types and of their files, with each refusal where it is the first that holds.
use Rattle.std.specs.Prelude.{ℕ, List, [], ◌∷◌, ◌++◌, ◌==◌, ◌&&◌, length, nat_lt, Option, Some}
use Rattle.std.specs.Prelude.{None, Result, Ok, Err, if◌then◌else◌, codes}
use Rattle.std.specs.List.{list_all, list_any}
use Rattle.std.specs.Str.{bytes_eq}
use Rattle.dsdl_names.specs.Parts.{parts_of, dotted, cut_last}
use Rattle.dsdl_names.specs.Words.{is_name, is_reserved, number_to}
use Rattle.dsdl_names.specs.declared.TypeId.{TypeId}
use Rattle.dsdl_names.specs.declared.FileName.{FileName}
use Rattle.dsdl_names.specs.declared.NameError.{NameError}
use Rattle.dsdl_names.specs.declared.NameError.TheVariants as error

-- a version, which isn't 0.0
abbrev pub version_of : Option ℕ → Option ℕ → Option (ℕ × ℕ)
version_of None minor = None
version_of (Some major) None = None
version_of (Some major) (Some minor) = if (major == 0) && (minor == 0) then None else Some (major, minor)

abbrev pub version_in : List ℕ → List ℕ → Option (ℕ × ℕ)
version_in major minor = version_of (number_to 255 major) (number_to 255 minor)

-- the port that a number is, where a text has one from 0 to 8191
abbrev pub some_port : Option ℕ → Option (Option ℕ)
some_port None = None
some_port (Some port) = Some (Some port)

-- a name that isn't too long
abbrev pub with_name : List ℕ → ℕ × ℕ → Option ℕ → Result FileName NameError
with_name name version port =
    if nat_lt 255 (length name) then Err error.TooLong else Ok (record { id = record { name = name; major = version.0; minor = version.1 }; port = port })

-- the refusals from the version on
abbrev pub with_version : List ℕ → Option (ℕ × ℕ) → Option (Option ℕ) → Result FileName NameError
with_version name None port = Err error.BadVersion
with_version name (Some version) None = Err error.BadPort
with_version name (Some version) (Some port) = with_name name version port

-- all names, with what the texts of a version and of a port are
abbrev pub type_file : List (List ℕ) → Option (ℕ × ℕ) → Option (Option ℕ)
    → Result FileName NameError
type_file names version port =
    if list_all is_name names
    then (if list_any is_reserved names then Err error.Reserved else with_version (dotted names) version port)
    else Err error.BadName

-- the same, where the file's name ends in `end`
abbrev pub ended : List (List ℕ) → Option (ℕ × ℕ) → Option (Option ℕ) → List ℕ
    → Result FileName NameError
ended names version port end = if bytes_eq end (codes "dsdl") then type_file names version port else Err error.BadName

-- `Short.major.minor.dsdl` or `port.Short.major.minor.dsdl`, in folders
abbrev pub file_of : List (List ℕ) → List (List ℕ) → Result FileName NameError
file_of folders (short ∷ major ∷ minor ∷ end ∷ []) = ended (folders ++ short ∷ []) (version_in major minor) (Some None) end
file_of folders (port ∷ short ∷ major ∷ minor ∷ end ∷ []) = ended (folders ++ short ∷ []) (version_in major minor) (some_port (number_to 8191 port)) end
file_of folders other = Err error.BadName

-- the file of a path: folders, and the file's own name behind the last `/`
abbrev pub file_in : Option (List ℕ × List ℕ) → Result FileName NameError
file_in None = Err error.BadName
file_in (Some p) = file_of (parts_of 47 p.0) (parts_of 46 p.1)

abbrev pub file_name_of : List ℕ → Result FileName NameError
file_name_of path = file_in (cut_last 47 path)

-- what a call that reads a type answers where one that reads a file answers this
abbrev pub id_only : Result FileName NameError → Result TypeId NameError
id_only (Ok file) = Ok file.id
id_only (Err why) = Err why

-- names, with the texts of a version
abbrev pub id_of : Option (List ℕ × List ℕ) → List ℕ → List ℕ → Result TypeId NameError
id_of None major minor = Err error.BadName
id_of (Some p) major minor = id_only (type_file (parts_of 46 p.0 ++ p.1 ∷ []) (version_in major minor) (Some None))

-- `namespace.Short.major.minor`: the last two points stand before the parts of the version
abbrev pub id_before : Option (List ℕ × List ℕ) → List ℕ → Result TypeId NameError
id_before None minor = Err error.BadName
id_before (Some p) minor = id_of (cut_last 46 p.0) p.1 minor

abbrev pub id_in : Option (List ℕ × List ℕ) → Result TypeId NameError
id_in None = Err error.BadName
id_in (Some p) = id_before (cut_last 46 p.0) p.1

abbrev pub type_id_of : List ℕ → Result TypeId NameError
type_id_of text = id_in (cut_last 46 text)
