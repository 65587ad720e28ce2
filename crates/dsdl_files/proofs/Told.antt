-- The steps of listing folders, where the tree tells its files and where it doesn't.
use Rattle.std.proofs.Common.{◌≡◌, ◌∙◌, inl, ℕ, ◌+◌, ◌≤◌, true, false, List, [], ◌∷◌, Option, Some, None, Result, Ok, Err, refl, sym, ap, subst, length, arith}
use Rattle.std.specs.Prelude.{IfSome}
use Rattle.cy_outside.specs.declared.tree.Entry.{Entry}
use Rattle.cy_outside.specs.Files.{Files, is_folder, ListsMembers}
use Rattle.dsdl_files.specs.declared.error.FolderError.{FolderError}
use Rattle.dsdl_files.specs.declared.error.FolderError.TheVariants.{NotFolder, TooBig, Failed, NoMemory}
use Rattle.dsdl_files.specs.Order.{IsAscending}
use Rattle.dsdl_files.specs.Folders.{folders, listings_of}
use Rattle.dsdl_files.specs.Steps.{Adds, ListsFolder, IsRefused, Finds, is_subfolder, is_dsdl_member}
use Rattle.dsdl_files.proofs.Members.{In, not_both}
use Rattle.dsdl_files.proofs.Ordered.{Before, head_before}
use Rattle.dsdl_files.proofs.FolderFacts.{in_folder, is_folder_of}
use Rattle.dsdl_files.proofs.Standing.{Stands, ahead, ahead_start, ahead_next, ahead_some, one_more_of, start, refuse, step, none_past, all_found}

-- what stands, where the files are told
abbrev pub ToldStands : Option Files → List ℕ → ℕ → ℕ → List (List ℕ) → List (List ℕ) → Type 0
ToldStands told root most room pending found = IfSome told (λ files. Stands files root most room pending found)

abbrev pub ToldFolder : Option Files → List ℕ → Type 0
ToldFolder told root = IfSome told (λ files. is_folder files root ≡ true)

abbrev pub ToldFinds : Option Files → List ℕ → ℕ → Result (List (List ℕ)) FolderError → Type 0
ToldFinds told root most result = IfSome told (λ files. Finds files root most result)

pub told_folder : (told : Option Files) (root : List ℕ) (members : List Entry) → ListsFolder told root (Some members) → ToldFolder told root
told_folder None root members lists = tt
told_folder (Some files) root members lists = lists.0

pub told_start : (told : Option Files) (root : List ℕ) (most : ℕ) → ToldFolder told root → ToldStands told root most most (root ∷ []) []
told_start None root most f = tt
told_start (Some files) root most f = start files root most f

-- ---- a folder that was taken from those that pend

pub told_step : (told : Option Files) (root h : List ℕ) (most room left : ℕ) (pending new found more : List (List ℕ)) (members : List Entry)
    → ToldStands told root most room (h ∷ pending) found → ((o : List ℕ) → In o pending → Before h o) → ListsFolder told h (Some members)
    → left + length members ≡ room → Adds (is_subfolder h) members pending new → Adds (is_dsdl_member h) members found more
    → ToldStands told root most left new more
told_step None root h most room left pending new found more members s least lists count folders_added files_added = tt
told_step (Some files) root h most room left pending new found more members s least lists count folders_added files_added =
    step files root h most room left pending new found more members s least lists.1 count folders_added files_added

refused_with : (files : Files) (root h : List ℕ) (most room : ℕ) (pending found : List (List ℕ)) (members : List Entry) (error : FolderError)
    → is_folder files root ≡ true → Stands files root most room (h ∷ pending) found → ((o : List ℕ) → In o pending → Before h o) → ListsMembers files h members
    → IsRefused root h room members error → Finds files root most (Err error)
refused_with files root h most room pending found members NotFolder f s least lists r = absurd r
refused_with files root h most room pending found members (TooBig path) f s least lists r =
    (f, refuse files root h most room pending found members s least lists r.1 ∙ ap Some (sym r.0))
refused_with files root h most room pending found members Failed f s least lists r = tt
refused_with files root h most room pending found members NoMemory f s least lists r = tt

pub told_refused : (told : Option Files) (root h : List ℕ) (most room : ℕ) (pending found : List (List ℕ)) (members : List Entry) (error : FolderError)
    → ToldFolder told root → ToldStands told root most room (h ∷ pending) found → ((o : List ℕ) → In o pending → Before h o) → ListsFolder told h (Some members)
    → IsRefused root h room members error → ToldFinds told root most (Err error)
told_refused None root h most room pending found members error f s least lists r = tt
told_refused (Some files) root h most room pending found members error f s least lists r =
    refused_with files root h most room pending found members error f s least lists.1 r

-- a folder that pends is one of the tree
pub told_gone : {P : Type 0} (files : Files) (root h : List ℕ) (most room : ℕ) (pending found : List (List ℕ)) → Stands files root most room (h ∷ pending) found
    → is_folder files h ≡ false → P
told_gone files root h most room pending found s e = not_both (is_folder files h) (is_folder_of files h (in_folder files h (s.all h (inl refl)))) e

pub told_absent : (told : Option Files) (root h : List ℕ) (most room : ℕ) (pending found : List (List ℕ))
    → ToldStands told root most room (h ∷ pending) found → ListsFolder told h None → ToldStands told root most room pending found
told_absent None root h most room pending found s lists = tt
told_absent (Some files) root h most room pending found s lists = told_gone files root h most room pending found s lists

-- ---- when nothing pends

pub told_found : (told : Option Files) (root : List ℕ) (most room : ℕ) (found : List (List ℕ)) → ToldFolder told root → ToldStands told root most room [] found
    → IsAscending found → ToldFinds told root most (Ok found)
told_found None root most room found f s sorted = tt
told_found (Some files) root most room found f s sorted = (f, none_past files root most room found s, all_found files root most room found s sorted)

-- ---- how often the tree was called

-- with the listings that are still to come at most as often as it has folders, where the files are told
abbrev pub ToldCalls : Option Files → List ℕ → List (List ℕ) → ℕ → ℕ → Type 0
ToldCalls told root pending calls old = IfSome told (λ files. calls + length (ahead files pending) ≤ old + length (folders files root))

pub calls_start : (told : Option Files) (root : List ℕ) (old : ℕ) → ToldCalls told root (root ∷ []) old old
calls_start None root old = tt
calls_start (Some files) root old =
    let e : length (ahead files (root ∷ [])) ≡ length (folders files root) = ap length (ahead_start files root) in
    omega (arith, e)

pub calls_step : (told : Option Files) (root h : List ℕ) (most room : ℕ) (pending new found : List (List ℕ)) (members : List Entry) (calls next old : ℕ)
    → ToldStands told root most room (h ∷ pending) found → ((o : List ℕ) → In o pending → Before h o) → ListsFolder told h (Some members)
    → Adds (is_subfolder h) members pending new → ToldCalls told root (h ∷ pending) calls old → next ≤ calls + 1 → ToldCalls told root new next old
calls_step None root h most room pending new found members calls next old s least lists adds c l = tt
calls_step (Some files) root h most room pending new found members calls next old s least lists adds c l =
    let e : length (ahead files (h ∷ pending)) ≡ length (ahead files new) + 1 =
    ap length (ahead_next files h pending new members (s.all h (inl refl)) least lists.1 adds) ∙ one_more_of h (ahead files new) in
    omega (arith, c, l, e)

pub calls_absent : (told : Option Files) (root h : List ℕ) (most room : ℕ) (pending found : List (List ℕ)) (next old : ℕ)
    → ToldStands told root most room (h ∷ pending) found → ListsFolder told h None → ToldCalls told root pending next old
calls_absent None root h most room pending found next old s lists = tt
calls_absent (Some files) root h most room pending found next old s lists = told_gone files root h most room pending found s lists

-- a listing after which no other comes
pub calls_last : (told : Option Files) (root h : List ℕ) (most room : ℕ) (pending found : List (List ℕ)) (calls next old : ℕ)
    → ToldStands told root most room (h ∷ pending) found → ((o : List ℕ) → In o pending → Before h o)
    → ToldCalls told root (h ∷ pending) calls old → next ≤ calls + 1 → IfSome told (λ files. next ≤ old + listings_of files root)
calls_last None root h most room pending found calls next old s least c l = tt
calls_last (Some files) root h most room pending found calls next old s least c l =
    let e : 1 ≤ length (ahead files (h ∷ pending)) = ahead_some files h pending (s.all h (inl refl)) least in
    omega (arith, c, l, e)

pub calls_none : (told : Option Files) (root : List ℕ) (pending : List (List ℕ)) (calls old : ℕ) → ToldCalls told root pending calls old
    → IfSome told (λ files. calls ≤ old + listings_of files root)
calls_none None root pending calls old c = tt
calls_none (Some files) root pending calls old c = omega (arith, c)

-- the first listing, where no other comes
pub calls_first : (told : Option Files) (root : List ℕ) (calls old : ℕ) → calls ≤ old + 1 → IfSome told (λ files. calls ≤ old + listings_of files root)
calls_first None root calls old l = tt
calls_first (Some files) root calls old l = omega (arith, l)

-- the first of a list in order comes before the others
pub least_first : (h : List ℕ) (pending all : List (List ℕ)) → all ≡ h ∷ pending → IsAscending all → (o : List ℕ) → In o pending → Before h o
least_first h pending all e sorted o i = head_before h pending o (subst IsAscending e sorted) i
