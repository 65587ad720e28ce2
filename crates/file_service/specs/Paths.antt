-- The paths that are asked for, and where they stand below the root.
use Rattle.std.specs.Prelude.{◌==◌, ℕ, Bool, not, ◌&&◌, ◌||◌, if◌then◌else◌, List, [], ◌∷◌, ◌++◌}
use Rattle.std.specs.Prelude.{codes, nat_le}
use Rattle.std.specs.List.{list_all, slice_split}
use Rattle.std.specs.Str.{bytes_eq}
use Rattle.file_service.specs.declared.place.Place.{Place}
use Rattle.file_service.specs.declared.place.Place.TheVariants.{Invalid, Root, At}

-- a byte of a path or a name: 20 to 7E hex
abbrev pub is_printable : ℕ → Bool
is_printable b = nat_le 32 b && nat_le b 126

abbrev pub is_slash : ℕ → Bool
is_slash b = b == 47

-- the names of a path: what stands before, between and behind its slashes
abbrev pub parts_of : List ℕ → List (List ℕ)
parts_of path = slice_split is_slash path

-- a name that names a member: it isn't empty, nor `.`, nor `..`
abbrev pub is_name : List ℕ → Bool
is_name name = not (bytes_eq name [] || (bytes_eq name (codes ".") || bytes_eq name (codes "..")))

-- a path that isn't empty is legal: of printable bytes, and each of its names names a member
abbrev pub is_legal : List ℕ → Bool
is_legal path = list_all is_printable path && list_all is_name (parts_of path)

-- a path without one leading slash
abbrev pub without_slash : List ℕ → List ℕ
without_slash [] = []
without_slash (b ∷ path) = if is_slash b then path else b ∷ path

-- a path that has no leading slash to drop: the empty one is the root itself
abbrev pub place_below : List ℕ → List ℕ → Place
place_below root [] = Root
place_below root (b ∷ path) = if is_legal (b ∷ path) then At (root ++ 47 ∷ b ∷ path) else Invalid

-- where a path stands below a root
abbrev pub place_of : List ℕ → List ℕ → Place
place_of root path = place_below root (without_slash path)
