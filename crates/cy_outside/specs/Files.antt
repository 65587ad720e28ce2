-- Files under paths: which paths are folders, and what a tree answers at a path.
use Rattle.std.specs.Prelude.{◌≡◌, ◌≢◌, ◌==◌, ◌∷◌, ◌-◌, ◌+◌, ◌/◌, ℕ, Bool, true, false, cond, List}
use Rattle.std.specs.Prelude.{[], Option, Some, None, length, take, drop, min, is_some, option_map}
use Rattle.std.specs.Prelude.{unwrap_or, ⊤}
use Rattle.std.specs.List.{list_any, before_first, All, AllPairs, Contains}
use Rattle.std.specs.Ordering.{nat_cmp}
use Rattle.std.specs.Cmp.Lexicographic.{slice_cmp}
use Rattle.std.specs.FinMap as map
use Rattle.cy_outside.specs.declared.tree.Entry.{Entry}
use Rattle.cy_outside.specs.declared.tree.Listing.{Listing}
use Rattle.cy_outside.specs.declared.tree.Listing.TheVariants.{Entries, Absent as NoListing}
use Rattle.cy_outside.specs.declared.tree.Listing.TheVariants.{NotFolder}
use Rattle.cy_outside.specs.declared.tree.Got.{Got}
use Rattle.cy_outside.specs.declared.tree.Got.TheVariants.{Bytes, Absent as NoBytes}
use Rattle.cy_outside.specs.declared.tree.Got.TheVariants.{Folder as FolderGot}
use Rattle.cy_outside.specs.declared.tree.Size.{Size}
use Rattle.cy_outside.specs.declared.tree.Size.TheVariants.{File, Folder, Absent}

-- the bytes of the file at each path
abbrev pub Files : Type 0
Files = map.FinMap (slice_cmp nat_cmp) (List ℕ)

-- what stands in a path behind a folder's path and `/`
abbrev pub rest_in : List ℕ → List ℕ → Option (List ℕ)
rest_in [] [] = None
rest_in [] (b ∷ path) = cond (b == 47) (Some path) None
rest_in (a ∷ folder) [] = None
rest_in (a ∷ folder) (b ∷ path) = cond (a == b) (rest_in folder path) None

-- a path is a folder exactly where some file's path begins with it and `/`
abbrev pub is_folder : Files → List ℕ → Bool
is_folder files path = list_any (λ file. is_some (rest_in path file)) (map.keys files)

-- there is a file at the path
abbrev pub is_file : Files → List ℕ → Bool
is_file files path = is_some (map.get files path)

-- some file's path is a folder
abbrev pub has_clash : Files → Bool
has_clash files = list_any (is_folder files) (map.keys files)

-- the first name of a path, and whether another follows
abbrev pub first_name : List ℕ → Entry
first_name path = record { name = before_first (λ b. b == 47) path; folder = list_any (λ b. b == 47) path }

-- the direct member of a folder at which or below which a file stands
abbrev pub member_of : List ℕ → List ℕ → Option Entry
member_of folder file = option_map first_name (rest_in folder file)

-- an entry is a direct member of a folder: some file stands at it or below it
abbrev pub IsMember : Files → List ℕ → Entry → Type 0
IsMember files folder entry = (file : List ℕ) × (is_file files file ≡ true) × (member_of folder file ≡ Some entry)

-- each direct member of a folder once, in any order
pub record ListsMembers (files : Files) (folder : List ℕ) (entries : List Entry) : Type 0 where
  pub once : AllPairs (λ (a b : Entry). a.name ≢ b.name) entries
  pub sound : All (λ (entry : Entry). IsMember files folder entry) entries
  pub complete : (entry : Entry) → IsMember files folder entry → Contains entries entry

-- what a path lists, where the files are told
abbrev pub Lists : Option Files → List ℕ → Listing → Type 0
Lists None path listing = ⊤
Lists (Some files) path (Entries entries) = (is_folder files path ≡ true) × ListsMembers files path entries
Lists (Some files) path NotFolder = (is_folder files path ≡ false) × (is_file files path ≡ true)
Lists (Some files) path NoListing = (is_folder files path ≡ false) × (is_file files path ≡ false)

-- the bytes of a file, and none where there is no file
abbrev pub bytes_at : Files → List ℕ → List ℕ
bytes_at files path = unwrap_or (map.get files path) []

-- what a read from an offset on gives, into a buffer with this room: of a file's bytes, or of none
abbrev pub got_of : Option (List ℕ) → Bool → ℕ → ℕ → Got
got_of (Some bytes) folder offset room = Bytes (min room (length bytes - offset))
got_of None true offset room = FolderGot
got_of None false offset room = NoBytes

-- the same, at a path of these files
abbrev pub got_at : Files → List ℕ → ℕ → ℕ → Got
got_at files path offset room = got_of (map.get files path) (is_folder files path) offset room

-- as many bytes of a file, from an offset on, as it has and the buffer takes
abbrev pub Reads : Option Files → List ℕ → ℕ → List ℕ → Got → Type 0
Reads None path offset buf got = ⊤
Reads (Some files) path offset buf (Bytes n) = (got_at files path offset (length buf) ≡ Bytes n)
    × (take n buf ≡ take n (drop offset (bytes_at files path)))
Reads (Some files) path offset buf FolderGot = got_at files path offset (length buf) ≡ FolderGot
Reads (Some files) path offset buf NoBytes = got_at files path offset (length buf) ≡ NoBytes

-- what stands at a path: a file with these bytes, or none
abbrev pub size_of : Option (List ℕ) → Bool → Size
size_of (Some bytes) folder = File (length bytes)
size_of None true = Folder
size_of None false = Absent

-- the same, at a path of these files
abbrev pub size_at : Files → List ℕ → Size
size_at files path = size_of (map.get files path) (is_folder files path)

-- what a tree says stands at a path, where the files are told
abbrev pub Sizes : Option Files → List ℕ → Size → Type 0
Sizes None path size = ⊤
Sizes (Some files) path size = size ≡ size_at files path

-- the first bytes of a file, where there is one and the files are told
abbrev pub ReadsFront : Option Files → List ℕ → ℕ → Option (List ℕ) → Type 0
ReadsFront None path most file = ⊤
ReadsFront (Some files) path most file = file ≡ option_map (take most) (map.get files path)

-- how many bytes a file's first bytes are: at most as many as it has, where the files are told
abbrev pub front_length : Option Files → List ℕ → ℕ → ℕ
front_length None path most = most
front_length (Some files) path most = min most (length (bytes_at files path))

-- how many reads this many bytes of a file take, in pieces of 8,192, with the one that ends them
abbrev pub reads_of : ℕ → ℕ
reads_of bytes = bytes / 8192 + 1
