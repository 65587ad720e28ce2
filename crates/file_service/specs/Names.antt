-- The names that a folder lists.
use Rattle.std.specs.Prelude.{◌≡◌, ℕ, Bool, ◌&&◌, List, [], length, nat_le, map as each, Option}
use Rattle.std.specs.Prelude.{Some, None, slice_index_or}
use Rattle.std.specs.List.{list_all, filter, filter_map}
use Rattle.std.specs.Option.{option_map}
use Rattle.std.specs.Ordering.{nat_cmp}
use Rattle.std.specs.declared.cmp.Ordering.{Ordering}
use Rattle.std.specs.Cmp.Lexicographic.{slice_cmp}
use Rattle.std.specs.FinMap as map
use Rattle.cy_outside.specs.Files.{Files, member_of}
use Rattle.cy_outside.specs.declared.tree.Entry.{Entry}
use Rattle.cy_outside.specs.declared.tree.Listing.{Listing}
use Rattle.cy_outside.specs.declared.tree.Listing.TheVariants.{Entries, NotFolder, Absent}
use Rattle.file_service.specs.Paths.{is_printable}

-- the order of names: by their bytes, a front before what it begins
abbrev pub by_bytes : List ℕ → List ℕ → Ordering
by_bytes = slice_cmp nat_cmp

-- a name that is listed: at most 255 bytes 20 to 7E hex
abbrev pub is_listed : List ℕ → Bool
is_listed name = nat_le (length name) 255 && list_all is_printable name

-- a name with nothing beside it
abbrev pub alone : List ℕ → List ℕ × Unit {0}
alone name = (name, tt)

-- these names in their order, each once
abbrev pub ascending : List (List ℕ) → List (List ℕ)
ascending names = map.keys (map.from_entries {R = by_bytes} (each alone names))

-- those of some names that are listed, each once and in their order
abbrev pub listed : List (List ℕ) → List (List ℕ)
listed names = ascending (filter is_listed names)

-- the names that a listing tells: none where there is no folder
abbrev pub found : Listing → List (List ℕ)
found (Entries entries) = each (λ (e : Entry). e.name) entries
found NotFolder = []
found Absent = []

-- the names of the direct members of a folder at or below which some file stands
abbrev pub member_names : Files → List ℕ → List (List ℕ)
member_names files folder = filter_map (λ file. option_map (λ member. member.name) (member_of folder file)) (map.keys files)

-- the names that a folder lists: none where there is no folder
abbrev pub names_of : Files → List ℕ → List (List ℕ)
names_of files folder = listed (member_names files folder)

-- the name with a number, counted from 0, and the empty one past the last
abbrev pub name_at : List (List ℕ) → ℕ → List ℕ
name_at names index = slice_index_or names index []

-- names that a tree has in a folder, where its files are told; else some that can be listed
abbrev pub HasNames : Option Files → List ℕ → List (List ℕ) → Type 0
HasNames None folder names = (some : List (List ℕ)) × (names ≡ listed some)
HasNames (Some files) folder names = names ≡ names_of files folder
