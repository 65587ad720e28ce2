-- What stands at a path.
use Rattle.std.specs.Prelude.{◌≡◌, ℕ, Bool, true, false, List, Option, Some, None, ⊤}
use Rattle.std.specs.FinMap as map
use Rattle.cy_outside.specs.Files.{Files, is_folder}

-- a file with its bytes, a folder, or neither
pub data Standing : Type 0 where
  File : List ℕ → Standing
  Folder : Standing
  Nothing : Standing

abbrev pub standing_of : Option (List ℕ) → Bool → Standing
standing_of (Some bytes) folder = File bytes
standing_of None true = Folder
standing_of None false = Nothing

-- what stands at a path of these files
abbrev pub standing : Files → List ℕ → Standing
standing files path = standing_of (map.get files path) (is_folder files path)

-- what a tree has at a path, where its files are told; else it may be anything
abbrev pub Stands : Option Files → List ℕ → Standing → Type 0
Stands None path s = ⊤
Stands (Some files) path s = s ≡ standing files path
