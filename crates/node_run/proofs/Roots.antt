-- How reading a root ends.
use Rattle.std.proofs.Common.{◌≡◌, ◌⊎◌, inl, inr, ℕ, ◌+◌, ◌≤◌, Bool, false, List, Option, Some, None, Err, sym, subst, arith}
use Rattle.std.specs.Prelude.{IfSome, if◌then◌else◌}
use Rattle.cy_outside.specs.Files.{Files}
use Rattle.dsdl_files.specs.Folders.{calls_of_folder}
use Rattle.dsdl_files.specs.Causes.{HasFolderCause}
use Rattle.dsdl_files.specs.declared.error.FolderError.{FolderError}
use Rattle.dsdl_files.specs.declared.error.FolderError.TheVariants as folder
use Rattle.node_run.specs.Loaded.{is_none, calls_of, not_read, HasLoadCause}
use Rattle.node_run.specs.declared.status.Status.{Status}
use Rattle.node_run.specs.declared.status.Status.TheVariants as status

module _ (A B : Type 0) (root : List ℕ) (old new : ℕ) where
  by_error : (error : FolderError) → HasFolderCause {T = A} old new (Err error) → HasLoadCause {T = B} old new (Err (not_read root error))
  by_error folder.NotFolder h = h
  by_error (folder.TooBig path) h = h
  by_error folder.Failed h = h
  by_error folder.NoMemory h = h

  -- the status of a folder whose files were not read has the cause that reading it had
  pub status_cause : (error : FolderError) (stat : Status) → HasFolderCause {T = A} old new (Err error)
      → (stat ≡ not_read root error) ⊎ ((error ≡ folder.NotFolder) × (stat ≡ status.NoMemory)) → HasLoadCause {T = B} old new (Err stat)
  status_cause error stat h (inl e) = subst (λ (s : Status). HasLoadCause {T = B} old new (Err s)) (sym e) (by_error error h)
  status_cause error stat h (inr (e, f)) =
      let same : new ≡ old = subst (λ (x : FolderError). HasFolderCause {T = A} old new (Err x)) e h in
      subst (λ (s : Status). HasLoadCause {T = B} old new (Err s)) (sym f) same

-- the calls of a root, by whether it stands for none
abbrev calls_by : Bool → List ℕ → Files → ℕ
calls_by none root files = if none then 0 else calls_of_folder files root

module _ (root : List ℕ) (old : ℕ) where
  -- nothing is called for a root that stands for none
  pub none_called : (told : Option Files) → IfSome told (λ files. old ≤ old + calls_of root files)
  none_called None = tt
  none_called (Some files) = omega arith

  -- a folder is read for any other
  pub folder_called : (told : Option Files) (new : ℕ) → is_none root ≡ false → IfSome told (λ files. new ≤ old + calls_of_folder files root)
      → IfSome told (λ files. new ≤ old + calls_of root files)
  folder_called told new e = subst (λ none. IfSome told (λ files. new ≤ old + calls_by none root files)) (sym e)
