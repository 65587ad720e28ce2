-- What a command of a root comes to, from what is found of the root's files.
use Rattle.std.proofs.Common.{◌≡◌, ◌∙◌, inl, inr, ℕ, Bool, true, false, ◌||◌, List, [], Option, Some, None, is_some, IfSome, Result, Ok, Err, refl, sym, ap, subst}
use Rattle.cy_outside.specs.Files.{Files}
use Rattle.dsdl_files.specs.Folders.{files_of_folder}
use Rattle.dsdl_files.specs.declared.file.DsdlFile.{DsdlFile}
use Rattle.dsdl_files.specs.declared.error.FolderError.{FolderError}
use Rattle.dsdl_files.specs.declared.error.FolderError.TheVariants as folder_error
use Rattle.dsdl_types.specs.declared.namespace.Namespace.{Namespace}
use Rattle.dsdl_resolve.specs.Laws.{HaveOneAnswer}
use Rattle.dsdl_resolve.specs.Passes.{Compiled, FirstRefusal}
use Rattle.dsdl_resolve.specs.declared.why.DsdlWhy.{DsdlWhy}
use Rattle.dsdl_resolve.specs.declared.why.DsdlWhy.TheVariants as why
use Rattle.node_run.specs.Loaded.{is_none, AreFiles, IsLoaded, IsNotLoaded}
use Rattle.node_run.specs.declared.status.Status.{Status}
use Rattle.node_run.specs.declared.status.Status.TheVariants as status
use Rattle.cyphal.specs.Job.{is_fault}

-- what a command comes to where this was found of a root's files, with what it may come to in their namespace
pub data Comes (root : List ℕ) (rest : Namespace → Status → Type 0) (found : Result (List DsdlFile) FolderError) (stat : Status) : Type 0 where
  loaded : (files : List DsdlFile) (names : Namespace) → found ≡ Ok files → Compiled files names → rest names stat → Comes root rest found stat
  missing : found ≡ Err folder_error.NotFolder → stat ≡ status.NoFile root → Comes root rest found stat
  too_big : (path : List ℕ) → found ≡ Err (folder_error.TooBig path) → stat ≡ status.Dsdl path 0 why.TooBig → Comes root rest found stat
  refused : (files : List DsdlFile) (path : List ℕ) (line : ℕ) (cause : DsdlWhy) → found ≡ Ok files → FirstRefusal files path line cause → stat ≡ status.Dsdl path line cause → Comes root rest found stat

-- what is found of a root's files, where they are told or the root has none
pub record Found (root : List ℕ) (told : Option Files) : Type 0 where
  pub found : Result (List DsdlFile) FolderError
  pub are : (files : List DsdlFile) → AreFiles (is_none root) root told files → found ≡ Ok files
  pub not : (error : FolderError) → is_none root ≡ false → IfSome told (λ tree. files_of_folder tree root ≡ Err error) → found ≡ Err error

none_found : (root : List ℕ) (told : Option Files) → is_none root ≡ true → Found root told
none_found root told e = record {
  found = Ok [];
  are = λ files a. (let same : files ≡ [] = rw e at a in sym (ap Ok same));
  not = λ error f i. (let bad : true ≡ false = sym e ∙ f in absurd cc);
}

tree_found : (root : List ℕ) (told : Option Files) → is_none root ≡ false → is_some told ≡ true → Found root told
tree_found root None e h = absurd cc
tree_found root (Some tree) e h = record { found = files_of_folder tree root; are = λ files a. rw e at a; not = λ error f i. i }

pub found_told : (b : Bool) (root : List ℕ) (told : Option Files) → is_none root ≡ b → (b || is_some told) ≡ true → Found root told
found_told true root told e h = none_found root told e
found_told false root told e h = tree_found root told e h

pub not_loaded : (root : List ℕ) (rest : Namespace → Status → Type 0) (told : Option Files) (f : Found root told) (stat : Status) → is_fault stat ≡ false → IsNotLoaded root told stat → Comes root rest f.found stat
not_loaded root rest told f status.Ok h n = absurd n
not_loaded root rest told f status.Usage h n = absurd n
not_loaded root rest told f (status.Dsdl path line w) h (inl t) = too_big path (f.not (folder_error.TooBig path) t.not_none t.limit) cc
not_loaded root rest told f (status.Dsdl path line w) h (inr r) = refused r.files path line w (f.are r.files r.are) r.first refl
not_loaded root rest told f (status.Plan line w) h n = absurd n
not_loaded root rest told f (status.Log line w) h n = absurd n
not_loaded root rest told f (status.Text line) h n = absurd n
not_loaded root rest told f (status.Unreadable line path w) h n = absurd n
not_loaded root rest told f (status.NotNewer path w) h n = absurd n
not_loaded root rest told f status.LogLong h n = absurd n
not_loaded root rest told f (status.NoFile path) h n = missing (f.not folder_error.NotFolder n.not_none n.missing) cc
not_loaded root rest told f status.ReadFault h n = absurd cc
not_loaded root rest told f status.WriteFault h n = absurd n
not_loaded root rest told f status.NoMemory h n = absurd cc

module _ (law : HaveOneAnswer) where
  same_files : (found : Result (List DsdlFile) FolderError) (a b : List DsdlFile) → found ≡ Ok a → found ≡ Ok b → a ≡ b
  same_files found a b e f = let same : Ok a ≡ Ok b = sym e ∙ f in cc

  apart : (found : Result (List DsdlFile) FolderError) (a b : List DsdlFile) (names : Namespace) (path : List ℕ) (line : ℕ) (cause : DsdlWhy) → found ≡ Ok a → found ≡ Ok b → Compiled a names → FirstRefusal b path line cause → ⊥
  apart found a b names path line cause e f c r = law.not_both a (names, c) (path, line, cause, rw (sym (same_files found a b e f)) at r)

  same_names : (found : Result (List DsdlFile) FolderError) (a b : List DsdlFile) (n m : Namespace) → found ≡ Ok a → found ≡ Ok b → Compiled a n → Compiled b m → n ≡ m
  same_names found a b n m e f c d = law.one_namespace a n m c (rw (sym (same_files found a b e f)) at d)

  -- a root has one namespace
  pub one_names : (root : List ℕ) (told : Option Files) → Found root told → (a b : Namespace) → IsLoaded root told a → IsLoaded root told b → a ≡ b
  one_names root told f a b x y = same_names f.found x.files y.files a b (f.are x.files x.are) (f.are y.files y.are) x.compiled y.compiled

  -- in a namespace it comes to one status
  abbrev pub IsOne : (Namespace → Status → Type 0) → Type 0
  IsOne rest = (names : Namespace) (s t : Status) → rest names s → rest names t → s ≡ t

  pub one : (root : List ℕ) (rest : Namespace → Status → Type 0) → IsOne rest → (found : Result (List DsdlFile) FolderError) (s t : Status) → Comes root rest found s → Comes root rest found t → s ≡ t
  one root rest single found s t (loaded a n e c i) (loaded b m f d j) = single m s t (subst (λ (names : Namespace). rest names s) (same_names found a b n m e f c d) i) j
  one root rest single found s t (loaded a n e c i) (missing f j) = absurd cc
  one root rest single found s t (loaded a n e c i) (too_big p f j) = absurd cc
  one root rest single found s t (loaded a n e c i) (refused b p l w f r j) = absurd (apart found a b n p l w e f c r)
  one root rest single found s t (missing e i) (loaded b m f d j) = absurd cc
  one root rest single found s t (missing e i) (missing f j) = i ∙ sym j
  one root rest single found s t (missing e i) (too_big p f j) = absurd cc
  one root rest single found s t (missing e i) (refused b p l w f r j) = absurd cc
  one root rest single found s t (too_big q e i) (loaded b m f d j) = absurd cc
  one root rest single found s t (too_big q e i) (missing f j) = absurd cc
  one root rest single found s t (too_big q e i) (too_big p f j) = cc
  one root rest single found s t (too_big q e i) (refused b p l w f r j) = absurd cc
  one root rest single found s t (refused a q k v e x i) (loaded b m f d j) = absurd (apart found b a m q k v f e d x)
  one root rest single found s t (refused a q k v e x i) (missing f j) = absurd cc
  one root rest single found s t (refused a q k v e x i) (too_big p f j) = absurd cc
  one root rest single found s t (refused a q k v e x i) (refused b p l w f r j) =
      let same = law.one_refusal a q p k l v w x (rw (sym (same_files found a b e f)) at r) in
      let path : q ≡ p = same.0 in
      let line : k ≡ l = same.1 in
      let cause : v ≡ w = same.2 in cc
