-- What a server of files replies.
use Rattle.std.specs.Prelude.{◌≡◌, ◌⊎◌, ◌-◌, ◌^◌, if◌then◌else◌, ℕ, Bool, true, false, List, []}
use Rattle.std.specs.Prelude.{take, drop, length, min, Option}
use Rattle.std_types.specs.declared.file.InfoReply.{InfoReply}
use Rattle.std_types.specs.declared.file.ReadReply.{ReadReply}
use Rattle.cy_outside.specs.Files.{Files}
use Rattle.file_service.specs.declared.done.ReadDone.{ReadDone}
use Rattle.file_service.specs.declared.done.ListDone.{ListDone}
use Rattle.file_service.specs.declared.place.Place.{Place}
use Rattle.file_service.specs.declared.place.Place.TheVariants.{Invalid, Root, At}
use Rattle.file_service.specs.Names.{HasNames, name_at, names_of}
use Rattle.file_service.specs.Standing.{Standing, File, Folder, Nothing, standing, Stands}

-- the codes of `uavcan.file.Error` that are answered
abbrev pub not_found : ℕ
not_found = 2

abbrev pub io_error : ℕ
io_error = 5

abbrev pub is_directory : ℕ
is_directory = 21

abbrev pub invalid : ℕ
invalid = 22

-- ---- Read

-- no bytes, for a reason
abbrev pub no_bytes : ℕ → ReadReply
no_bytes code = record { error = record { value = code }; «data» = [] }

-- the bytes of a file from an offset on, at most 256: none past its end
abbrev pub read_reply : Standing → ℕ → ReadReply
read_reply (File bytes) offset = record { error = record { value = 0 }; «data» = take 256 (drop offset bytes) }
read_reply Folder offset = no_bytes is_directory
read_reply Nothing offset = no_bytes not_found

-- the reply to a read at a place, by the files and whether the tree failed in it
abbrev pub read_answer : Files → Bool → Place → ℕ → ReadReply
read_answer files failed Invalid offset = no_bytes invalid
read_answer files failed Root offset = read_reply Folder offset
read_answer files failed (At path) offset = if failed then no_bytes io_error else read_reply (standing files path) offset

-- the reply that a call's result and its buffer are
abbrev pub read_of : ReadDone → List ℕ → ReadReply
read_of done buf = record { error = record { value = done.code }; «data» = take done.count buf }

-- the reply to a read at a place, where the files are told or not: that of what stands there, or of
-- a tree that failed
abbrev pub IsRead : Option Files → Place → ℕ → ReadReply → Type 0
IsRead told Invalid offset reply = reply ≡ no_bytes invalid
IsRead told Root offset reply = reply ≡ read_reply Folder offset
IsRead told (At path) offset reply = (reply ≡ no_bytes io_error) ⊎ ((s : Standing) × Stands told path s × (reply ≡ read_reply s offset))

-- ---- GetInfo

-- what is told of a file or a folder, or why nothing is
abbrev pub info : ℕ → ℕ → Bool → Bool → InfoReply
info code size file readable = record {
  error = record { value = code };
  size = size;
  unix_timestamp_of_last_modification = 0;
  is_file_not_directory = file;
  is_link = false;
  is_readable = readable;
  is_writeable = false;
}

-- nothing, for a reason
abbrev pub no_info : ℕ → InfoReply
no_info code = info code 0 false false

-- the size of a file is kept to 40 bits
abbrev pub info_reply : Standing → InfoReply
info_reply (File bytes) = info 0 (min (length bytes) (2 ^ 40 - 1)) true true
info_reply Folder = info 0 0 false true
info_reply Nothing = no_info not_found

-- the reply to a GetInfo of a place, by the files and whether the tree failed in it
abbrev pub info_answer : Files → Bool → Place → InfoReply
info_answer files failed Invalid = no_info invalid
info_answer files failed Root = info_reply Folder
info_answer files failed (At path) = if failed then no_info io_error else info_reply (standing files path)

-- the reply to a GetInfo of a place, where the files are told or not: that of what stands there, or
-- of a tree that failed
abbrev pub IsInfo : Option Files → Place → InfoReply → Type 0
IsInfo told Invalid reply = reply ≡ no_info invalid
IsInfo told Root reply = reply ≡ info_reply Folder
IsInfo told (At path) reply = (reply ≡ no_info io_error) ⊎ ((s : Standing) × Stands told path s × (reply ≡ info_reply s))

-- ---- List

-- no name, and whether the tree failed
abbrev pub no_name : Bool → ListDone
no_name failed = record { name = []; failed = failed }

-- the name with a number
abbrev pub list_reply : List (List ℕ) → ℕ → ListDone
list_reply names index = record { name = name_at names index; failed = false }

-- the answer to a listing of a folder, by the files and whether the tree failed in it
abbrev pub folder_answer : Files → Bool → List ℕ → ℕ → ListDone
folder_answer files failed folder index = if failed then no_name true else list_reply (names_of files folder) index

-- the answer to a listing of a place below a root
abbrev pub list_answer : Files → Bool → List ℕ → Place → ℕ → ListDone
list_answer files failed root Invalid index = no_name false
list_answer files failed root Root index = folder_answer files failed root index
list_answer files failed root (At path) index = folder_answer files failed path index

-- the answer to a listing of a folder, where the files are told or not: the name with a number, or
-- that the tree failed
abbrev pub ListsFolder : Option Files → List ℕ → ℕ → ListDone → Type 0
ListsFolder told folder index done = (done ≡ no_name true)
    ⊎ ((names : List (List ℕ)) × HasNames told folder names × (done ≡ list_reply names index))

-- the same of a place below a root
abbrev pub IsListing : Option Files → List ℕ → Place → ℕ → ListDone → Type 0
IsListing told root Invalid index done = done ≡ no_name false
IsListing told root Root index done = ListsFolder told root index done
IsListing told root (At path) index done = ListsFolder told path index done
