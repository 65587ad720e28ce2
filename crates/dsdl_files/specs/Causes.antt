-- When reading a folder fails.
use Rattle.std.specs.Prelude.{◌≡◌, ℕ, Result, Ok, Err, ⊤}
use Rattle.cy_outside.specs.Outside.{Rose}
use Rattle.cy_outside.specs.declared.tree.TreeError.{TreeError}
use Rattle.cy_outside.specs.declared.tree.TreeError.TheVariants as tree
use Rattle.dsdl_files.specs.declared.error.FolderError.{FolderError}
use Rattle.dsdl_files.specs.declared.error.FolderError.TheVariants.{NotFolder, TooBig, Failed}
use Rattle.dsdl_files.specs.declared.error.FolderError.TheVariants.{NoMemory}

-- what a call of the tree failed for
abbrev pub error_of : TreeError → FolderError
error_of tree.Failed = Failed
error_of tree.NoMemory = NoMemory

-- it failed only where the tree's count rose; every other answer leaves the count as it was
abbrev pub HasFolderCause : {T : Type 0} → ℕ → ℕ → Result T FolderError → Type 0
HasFolderCause old new (Ok answer) = new ≡ old
HasFolderCause old new (Err NotFolder) = new ≡ old
HasFolderCause old new (Err (TooBig path)) = new ≡ old
HasFolderCause old new (Err Failed) = Rose old new
HasFolderCause old new (Err NoMemory) = new ≡ old

-- it refuses nothing by itself
abbrev pub RefusesNothing : {T : Type 0} → Result T FolderError → Type 0
RefusesNothing (Ok answer) = ⊤
RefusesNothing (Err NotFolder) = ⊥
RefusesNothing (Err (TooBig path)) = ⊥
RefusesNothing (Err Failed) = ⊤
RefusesNothing (Err NoMemory) = ⊤
