-- Laws of files that are served.
use Rattle.std.specs.Prelude.{◌≡◌, ◌≢◌, ◌↔◌, ◌⊎◌, ◌*◌, ◌<◌, ◌≤◌, ◌==◌, ℕ, zero, suc, Bool, true}
use Rattle.std.specs.Prelude.{false, Some, List, [], ◌∷◌, ◌++◌, length, take, codes}
use Rattle.std.specs.List.{All, join_with_byte}
use Rattle.std.specs.declared.cmp.Ordering.TheVariants.{Less}
use Rattle.cy_outside.specs.Files.{Files, is_folder, IsMember}
use Rattle.cy_outside.specs.declared.tree.Entry.{Entry}
use Rattle.std_types.specs.declared.file.InfoReply.{InfoReply}
use Rattle.std_types.specs.declared.file.ReadReply.{ReadReply}
use Rattle.file_service.specs.declared.done.ListDone.{ListDone}
use Rattle.file_service.specs.declared.place.Place.{Place}
use Rattle.file_service.specs.declared.place.Place.TheVariants.{Invalid, Root, At}
use Rattle.file_service.specs.Paths.{place_of}
use Rattle.file_service.specs.Names.{by_bytes, is_listed, listed, member_names, name_at, names_of}
use Rattle.file_service.specs.Standing.{Standing, File}
use Rattle.file_service.specs.Replies.{IsInfo, IsListing, IsRead, info_answer, info_reply, io_error}
use Rattle.file_service.specs.Replies.{list_answer, read_answer, read_reply}

-- a byte of a name in a path: 20 to 7E hex, and no slash
pub record IsNameByte (b : ℕ) : Type 0 where
  pub low : 32 ≤ b
  pub high : b ≤ 126
  pub no_slash : b ≢ 47

-- a name that names a member of a folder
pub record NamesMember (name : List ℕ) : Type 0 where
  pub not_empty : name ≢ []
  pub not_itself : name ≢ codes "."
  pub not_above : name ≢ codes ".."
  pub bytes : All IsNameByte name

-- a path leads from the root to members alone, a slash before each name
pub record IsBelow (root path : List ℕ) : Type 0 where
  pub names : List (List ℕ)
  pub some : names ≢ []
  pub lead : All NamesMember names
  pub joined : path ≡ root ++ 47 ∷ join_with_byte 47 names

-- where paths stand
pub record PlaceLaws (root : List ℕ) : Type 0 where
  -- no path leaves the root
  pub below : (path at : List ℕ) → place_of root path ≡ At at → IsBelow root at
  -- each path below the root is reached, and there is one path to it, but for a slash before it
  pub reached : (names : List (List ℕ)) → names ≢ [] → All NamesMember names
      → place_of root (join_with_byte 47 names) ≡ At (root ++ 47 ∷ join_with_byte 47 names)
  pub itself : (path : List ℕ) → (place_of root path ≡ Root) ↔ ((path ≡ []) ⊎ (path ≡ 47 ∷ []))
  pub slash : (b : ℕ) (path : List ℕ) → b ≢ 47
      → place_of root (47 ∷ b ∷ path) ≡ place_of root (b ∷ path)
  pub two_slashes : (path : List ℕ) → place_of root (47 ∷ 47 ∷ path) ≡ Invalid

-- the pieces of a file that are read at 0, 256, 512 and so on, so many of them, put together
abbrev pub pieces : List ℕ → ℕ → List ℕ
pieces bytes zero = []
pieces bytes (suc n) = pieces bytes n ++ (read_reply (File bytes) (256 * n)).data

-- the replies that are made of what stands at a path
pub record ReadLaws : Type 0 where
  pub front : (bytes : List ℕ) (n : ℕ) → pieces bytes n ≡ take (256 * n) bytes
  pub whole : (bytes : List ℕ) (n : ℕ) → length bytes ≤ 256 * n → pieces bytes n ≡ bytes
  -- a piece is empty exactly where the file has ended
  pub ended : (bytes : List ℕ) (offset : ℕ)
      → ((read_reply (File bytes) offset).data ≡ []) ↔ (length bytes ≤ offset)
  pub short : (s : Standing) (offset : ℕ) → length (read_reply s offset).data ≤ 256
  -- the code of a fault tells a fault
  pub no_fault : (s : Standing) (offset : ℕ) → (read_reply s offset).error.value ≢ io_error
  pub no_fault_told : (s : Standing) → (info_reply s).error.value ≢ io_error

-- a name of a folder that is listed: of at most 255 bytes 20 to 7E hex, and that of a direct member
pub record IsListedName (files : Files) (folder name : List ℕ) : Type 0 where
  pub listed : is_listed name ≡ true
  pub member : Entry
  pub stands : IsMember files folder member
  pub named : member.name ≡ name

-- names that are listed, by their numbers
pub record NameLaws (names : List (List ℕ)) : Type 0 where
  -- each is below those behind it, so none stands twice
  pub rises : (i j : ℕ) → i < j → j < length (listed names)
      → by_bytes (name_at (listed names) i) (name_at (listed names) j) ≡ Less
  -- each has at most 255 bytes 20 to 7E hex
  pub each : (i : ℕ) → i < length (listed names) → is_listed (name_at (listed names) i) ≡ true
  pub past : (i : ℕ) → length (listed names) ≤ i → name_at (listed names) i ≡ []

-- the names that a folder lists: those of its members, and no others
pub record FolderLaws (files : Files) (folder : List ℕ) : Type 0 where
  pub in_order : NameLaws (member_names files folder)
  pub sound : (i : ℕ) → i < length (names_of files folder)
      → IsListedName files folder (name_at (names_of files folder) i)
  pub complete : (name : List ℕ) → IsListedName files folder name
      → (i : ℕ) × (i < length (names_of files folder)) × (name_at (names_of files folder) i ≡ name)
  pub no_folder : is_folder files folder ≡ false → names_of files folder ≡ []

-- over a tree that tells its files, what is answered is what the files and whether the tree failed
-- give
pub record AnswerLaws (files : Files) : Type 0 where
  pub read : (place : Place) (offset : ℕ) (reply : ReadReply)
      → IsRead (Some files) place offset reply
      → reply ≡ read_answer files (reply.error.value == io_error) place offset
  pub info : (place : Place) (reply : InfoReply) → IsInfo (Some files) place reply
      → reply ≡ info_answer files (reply.error.value == io_error) place
  pub list : (root : List ℕ) (place : Place) (index : ℕ) (done : ListDone)
      → IsListing (Some files) root place index done
      → done ≡ list_answer files done.failed root place index
  -- and each of these may be answered
  pub reads : (failed : Bool) (place : Place) (offset : ℕ)
      → IsRead (Some files) place offset (read_answer files failed place offset)
  pub infos : (failed : Bool) (place : Place)
      → IsInfo (Some files) place (info_answer files failed place)
  pub lists : (failed : Bool) (root : List ℕ) (place : Place) (index : ℕ)
      → IsListing (Some files) root place index (list_answer files failed root place index)

pub record FileLaws : Type 0 where
  pub places : (root : List ℕ) → PlaceLaws root
  pub reads : ReadLaws
  pub names : (names : List (List ℕ)) → NameLaws names
  pub folders : (files : Files) (folder : List ℕ) → FolderLaws files folder
  pub answers : (files : Files) → AnswerLaws files
