-- What is answered, where the tree tells its files and where it doesn't.
use Rattle.std.proofs.Common.{◌≡◌, ◌∙◌, inl, inr, ℕ, ◌≤◌, ◌-◌, ◌^◌, Bool, true, false, List, [], ◌++◌, Option, Some, None, refl, sym, ap, length, take, drop, replicate, arith}
use Rattle.std.specs.Prelude.{min, unwrap_or}
use Rattle.std.specs.FinMap as finite
use Rattle.std.proofs.lemmas.Grind.{common_steps}
use Rattle.cy_outside.specs.Files.{Files, is_folder, got_of, Reads, size_of, Sizes, Lists}
use Rattle.cy_outside.specs.declared.tree.Got.{Got}
use Rattle.cy_outside.specs.declared.tree.Got.TheVariants as got
use Rattle.cy_outside.specs.declared.tree.Size.{Size}
use Rattle.cy_outside.specs.declared.tree.Size.TheVariants as size
use Rattle.cy_outside.specs.declared.tree.Listing.{Listing}
use Rattle.cy_outside.specs.declared.tree.Listing.TheVariants as listing
use Rattle.file_service.specs.declared.place.Place.TheVariants.{At}
use Rattle.file_service.specs.Standing.{File, Folder, Nothing, standing_of}
use Rattle.file_service.specs.Names.{found, listed, name_at, HasNames}
use Rattle.file_service.specs.Replies.{no_bytes, read_reply, read_of, IsRead, info, no_info, info_reply, IsInfo, ListsFolder}
use Rattle.file_service.proofs.Pieces.{take_short}
use Rattle.file_service.proofs.Sorted.{none_listed}
use Rattle.file_service.proofs.Members.{listed_members, no_folder}

-- ---- reads

behind_zeros : (offset : ℕ) (piece : List ℕ) → drop offset (replicate offset 0 ++ piece) ≡ piece
behind_zeros offset piece = grind (arith, common_steps)

whole_piece : (room : ℕ) (piece : List ℕ) → length piece ≤ room → piece ≡ take room piece
whole_piece room piece h = grind (arith, common_steps)

behind : (room offset : ℕ) (piece : List ℕ) → length piece ≤ room → piece ≡ take room (drop offset (replicate offset 0 ++ piece))
behind room offset piece h = whole_piece room piece h ∙ ap (take room) (sym (behind_zeros offset piece))

number : Got → ℕ
number (got.Bytes n) = n
number got.Absent = 0
number got.Folder = 0

same_number : (a b : ℕ) → got.Bytes a ≡ got.Bytes b → a ≡ b
unfolding number
same_number a b e = ap number e

rest : (room : ℕ) (bytes : List ℕ) (offset n : ℕ) → min room (length bytes - offset) ≡ n → take n (drop offset bytes) ≡ take room (drop offset bytes)
rest room bytes offset n e = grind (arith, common_steps)

short : (room : ℕ) (buf : List ℕ) (n : ℕ) → n ≤ room → length (take n buf) ≤ room
short room buf n h = omega (arith, h, take_short n buf)

as_far : (bytes buf : List ℕ) (offset n : ℕ) → min 256 (length bytes - offset) ≡ n → take n buf ≡ take n (drop offset bytes) → take n buf ≡ take 256 (drop offset bytes)
as_far bytes buf offset n e t = t ∙ rest 256 bytes offset n e

told_bytes : (o : Option (List ℕ)) (folder : Bool) (offset room n : ℕ) (buf : List ℕ) → room ≡ 256 → got_of o folder offset room ≡ got.Bytes n
    → take n buf ≡ take n (drop offset (unwrap_or o [])) → read_of (record { code = 0; count = n }) buf ≡ read_reply (standing_of o folder) offset
told_bytes (Some bytes) folder offset room n buf r g t =
    ap (λ d. record { error = record { value = 0 }; «data» = d })
    (as_far bytes buf offset n (ap (λ k. min k (length bytes - offset)) (sym r) ∙ same_number (min room (length bytes - offset)) n g) t)
told_bytes None true offset room n buf r g t = absurd (cc)
told_bytes None false offset room n buf r g t = absurd (cc)

pub read_bytes : (told : Option Files) (path buf : List ℕ) (offset n : ℕ) → length buf ≡ 256 → n ≤ 256 → Reads told path offset buf (got.Bytes n)
    → IsRead told (At path) offset (read_of (record { code = 0; count = n }) buf)
read_bytes None path buf offset n b h r =
    inr (File (replicate offset 0 ++ take n buf), tt, ap (λ d. record { error = record { value = 0 }; «data» = d }) (behind 256 offset (take n buf) (short 256 buf n h)))
read_bytes (Some files) path buf offset n b h r =
    inr (standing_of (finite.get files path) (is_folder files path), refl, told_bytes (finite.get files path) (is_folder files path) offset (length buf) n buf b r.0 r.1)

told_folder : (o : Option (List ℕ)) (folder : Bool) (offset room : ℕ) → got_of o folder offset room ≡ got.Folder → Folder ≡ standing_of o folder
told_folder (Some bytes) folder offset room g = absurd (cc)
told_folder None true offset room g = refl
told_folder None false offset room g = absurd (cc)

told_nothing : (o : Option (List ℕ)) (folder : Bool) (offset room : ℕ) → got_of o folder offset room ≡ got.Absent → Nothing ≡ standing_of o folder
told_nothing (Some bytes) folder offset room g = absurd (cc)
told_nothing None true offset room g = absurd (cc)
told_nothing None false offset room g = refl

pub read_folder : (told : Option Files) (path buf : List ℕ) (offset : ℕ) → Reads told path offset buf got.Folder → IsRead told (At path) offset (no_bytes 21)
read_folder None path buf offset r = inr (Folder, tt, refl)
read_folder (Some files) path buf offset r = inr (Folder, told_folder (finite.get files path) (is_folder files path) offset (length buf) r, refl)

pub read_nothing : (told : Option Files) (path buf : List ℕ) (offset : ℕ) → Reads told path offset buf got.Absent → IsRead told (At path) offset (no_bytes 2)
read_nothing None path buf offset r = inr (Nothing, tt, refl)
read_nothing (Some files) path buf offset r = inr (Nothing, told_nothing (finite.get files path) (is_folder files path) offset (length buf) r, refl)

-- ---- what is told of a path

zeros_long : (n : ℕ) → n ≡ length {A = ℕ} (replicate n 0)
zeros_long n = grind (arith, common_steps)

kept : (n : ℕ) → min n (2 ^ 40 - 1) ≡ min (length {A = ℕ} (replicate n 0)) (2 ^ 40 - 1)
kept n = ap (λ k. min k (2 ^ 40 - 1)) (zeros_long n)

bytes_in : Size → ℕ
bytes_in (size.File n) = n
bytes_in size.Folder = 0
bytes_in size.Absent = 0

same_size : (a b : ℕ) → size.File a ≡ size.File b → a ≡ b
unfolding bytes_in
same_size a b e = ap bytes_in e

told_file : (o : Option (List ℕ)) (folder : Bool) (n : ℕ) → size.File n ≡ size_of o folder → info 0 (min n (2 ^ 40 - 1)) true true ≡ info_reply (standing_of o folder)
told_file (Some bytes) folder n e = ap (λ k. info 0 (min k (2 ^ 40 - 1)) true true) (same_size n (length bytes) e)
told_file None true n e = absurd (cc)
told_file None false n e = absurd (cc)

told_size_folder : (o : Option (List ℕ)) (folder : Bool) → size.Folder ≡ size_of o folder → Folder ≡ standing_of o folder
told_size_folder (Some bytes) folder e = absurd (cc)
told_size_folder None true e = refl
told_size_folder None false e = absurd (cc)

told_size_nothing : (o : Option (List ℕ)) (folder : Bool) → size.Absent ≡ size_of o folder → Nothing ≡ standing_of o folder
told_size_nothing (Some bytes) folder e = absurd (cc)
told_size_nothing None true e = absurd (cc)
told_size_nothing None false e = refl

pub info_file : (told : Option Files) (path : List ℕ) (n : ℕ) → Sizes told path (size.File n) → IsInfo told (At path) (info 0 (min n (2 ^ 40 - 1)) true true)
info_file None path n r = inr (File (replicate n 0), tt, ap (λ k. info 0 k true true) (kept n))
info_file (Some files) path n r =
    inr (standing_of (finite.get files path) (is_folder files path), refl, told_file (finite.get files path) (is_folder files path) n r)

pub info_folder : (told : Option Files) (path : List ℕ) → Sizes told path size.Folder → IsInfo told (At path) (info 0 0 false true)
info_folder None path r = inr (Folder, tt, refl)
info_folder (Some files) path r = inr (Folder, told_size_folder (finite.get files path) (is_folder files path) r, refl)

pub info_nothing : (told : Option Files) (path : List ℕ) → Sizes told path size.Absent → IsInfo told (At path) (no_info 2)
info_nothing None path r = inr (Nothing, tt, refl)
info_nothing (Some files) path r = inr (Nothing, told_size_nothing (finite.get files path) (is_folder files path) r, refl)

-- ---- listings

pub told_names : (told : Option Files) (folder : List ℕ) (found_there : Listing) → Lists told folder found_there → HasNames told folder (listed (found found_there))
told_names None folder l lists = (found l, refl)
told_names (Some files) folder (listing.Entries entries) lists = listed_members files folder entries lists.1
told_names (Some files) folder listing.NotFolder lists = none_listed ∙ sym (no_folder files folder lists.0)
told_names (Some files) folder listing.Absent lists = none_listed ∙ sym (no_folder files folder lists.0)

pub folder_lists : (told : Option Files) (folder : List ℕ) (l : Listing) (index : ℕ) → Lists told folder l
    → ListsFolder told folder index (record { name = name_at (listed (found l)) index; failed = false })
folder_lists told folder l index lists = inr (listed (found l), told_names told folder l lists, refl)

-- the tree failed
pub read_failed : (told : Option Files) (path : List ℕ) (offset : ℕ) → IsRead told (At path) offset (no_bytes 5)
read_failed told path offset = inl refl

pub info_failed : (told : Option Files) (path : List ℕ) → IsInfo told (At path) (no_info 5)
info_failed told path = inl refl
