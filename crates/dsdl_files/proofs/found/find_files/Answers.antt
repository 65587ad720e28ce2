use Rattle.std.proofs.Common.{◌≡◌, ◌∙◌, inl, inr, ℕ, List, ◌∷◌, [], true, Some, Ok, refl, sym, subst, string_bytes}
use Rattle.std.proofs.lemmas.Result.{err_from_is_err_and}
use Rattle.dsdl_files.specs.declared.found.Found.{Found}
use Rattle.dsdl_files.specs.Steps.{Adds, IsRefused, ListsFolder, is_subfolder, is_dsdl_member}
use Rattle.std.specs.List.{All}
use Rattle.dsdl_files.specs.Order.{IsAscending}
use Rattle.dsdl_files.specs.Folders.{is_below, is_at_or_below}
use Rattle.dsdl_files.proofs.Members.{In}
use Rattle.dsdl_files.proofs.Below.{at}
use Rattle.dsdl_files.proofs.Named.{all_below}
use Rattle.dsdl_files.proofs.Standing.{folders_within, files_below}
use Rattle.dsdl_files.proofs.Told.{ToldFinds, ToldStands, told_folder, told_start, told_step, told_refused, told_absent, told_found, least_first, ToldCalls, calls_start, calls_step, calls_absent, calls_last}
use Rattle.dsdl_files.proofs.found.find_files.Goals as goal
use Rattle.dsdl_files.proofs.found.find_files.Goals.{in-Some-2+in_ok-take-2, in_default-2}

pub returns-in_err-take-clause-found : goal.returns-in_err-take-clause-found
returns-in_err-take-clause-found g c =
    let told = g.T.Tree.files c.args.tree.now in
    let root = c.args.root.now in
    let most = c.args.entries in
    let lists : ListsFolder told root (Some c.in-Some.members) = subst (ListsFolder told root) c.in-Some.is c.in_ok-members.ensures.lists in
    let folder = told_folder told root c.in-Some.members lists in
    let p = err_from_is_err_and c.from_residual-in_err-take.result c.from_residual-in_err-take.ensures.1 in
    rw (p.1, p.2)
    (told_refused told root root most most [] [] c.in-Some.members c.in_err-take.field-0.0 folder (told_start told root most folder) (λ o i. absurd i) lists c.in_err-take.ensures.refused)

pub loop-folder-init : goal.loop-folder-init
loop-folder-init g c =
    let told = g.T.Tree.files c.args.tree.now in
    let root = c.args.root.now in
    let most = c.args.entries in
    let lists : ListsFolder told root (Some c.in-Some.members) = subst (ListsFolder told root) c.in-Some.is c.in_ok-members.ensures.lists in
    let folder = told_folder told root c.in-Some.members lists in
    let e = c.in_ok-take.ensures in
    let folders_added : Adds (is_subfolder root) c.in-Some.members [] c.take.new.self.folders =
    subst (λ ps. Adds (is_subfolder root) c.in-Some.members ps c.take.new.self.folders) c.new.ensures e.folders in
    let files_added : Adds (is_dsdl_member root) c.in-Some.members [] c.take.new.self.files =
    subst (λ ps. Adds (is_dsdl_member root) c.in-Some.members ps c.take.new.self.files) c.new-2.ensures e.files in
    record {
      told = c.in_ok-members.ensures.files;
      faults = c.in_ok-members.ensures.cause;
      calls = calls_step told root root most most [] _ [] c.in-Some.members _ _ _ (told_start told root most folder) (λ o i. absurd i) lists folders_added
          (calls_start told root _) c.in_ok-members.ensures.calls;
      within = folders_within root root [] _ c.in-Some.members (at root root refl) (λ p i. absurd i) folders_added;
      below = files_below root root [] _ c.in-Some.members (at root root refl) (λ p i. absurd i) files_added;
      root = folder;
      stands = told_step told root root most most _ [] _ [] _ c.in-Some.members (told_start told root most folder) (λ o i. absurd i) lists e.room folders_added files_added;
    }

pub returns-in_err-take-2-clause-found : goal.returns-in_err-take-2-clause-found
returns-in_err-take-2-clause-found g c =
    let told = g.T.Tree.files c.args.tree.now in
    let root = c.args.root.now in
    let most = c.args.entries in
    let found = c.loop-folder.found in
    let pending = c.pop_first.new.self in
    let h = string_bytes c.in-Some-pop_first.folder in
    let members = c.in-Some-2.members in
    let first : found.folders ≡ h ∷ pending = c.in-Some-pop_first.ensures.first in
    let stands : ToldStands told root most found.room (h ∷ pending) found.files =
    subst (λ ps. ToldStands told root most found.room ps found.files) first c.loop-folder.invariant.stands in
    let lists : ListsFolder told h (Some members) =
    subst (λ p. ListsFolder told p (Some members)) c.deref.ensures
    (subst (λ t. ListsFolder t c.deref.result.now (Some members)) c.loop-folder.invariant.told
    (subst (ListsFolder (g.T.Tree.files c.loop-folder.tree) c.deref.result.now) c.in-Some-2.is c.in_ok-members-2.ensures.lists)) in
    let p = err_from_is_err_and c.from_residual-in_err-take-2.result c.from_residual-in_err-take-2.ensures.1 in
    rw (p.1, p.2)
    (told_refused told root h most found.room pending found.files members c.in_err-take-2.field-0.0 c.loop-folder.invariant.root stands
    (least_first h pending found.folders first c.pop_first.ensures.ascending) lists
    (subst (λ f. IsRefused root f found.room members c.in_err-take-2.field-0.0) c.deref-in-Some-2.ensures c.in_err-take-2.ensures.refused))

pub returns-in_err-members-2-clause-calls : goal.returns-in_err-members-2-clause-calls
returns-in_err-members-2-clause-calls g c =
    let told = g.T.Tree.files c.args.tree.now in
    let root = c.args.root.now in
    let found = c.loop-folder.found in
    let pending = c.pop_first.new.self in
    let h = string_bytes c.in-Some-pop_first.folder in
    let first : found.folders ≡ h ∷ pending = c.in-Some-pop_first.ensures.first in
    calls_last told root h c.args.entries found.room pending found.files _ _ _
    (subst (λ ps. ToldStands told root c.args.entries found.room ps found.files) first c.loop-folder.invariant.stands)
    (least_first h pending found.folders first c.pop_first.ensures.ascending)
    (subst (λ ps. ToldCalls told root ps (g.T.Tree.calls c.loop-folder.tree) (g.T.Tree.calls c.args.tree.now)) first c.loop-folder.invariant.calls)
    c.in_err-members-2.ensures.calls

pub returns-in_err-take-2-clause-calls : goal.returns-in_err-take-2-clause-calls
returns-in_err-take-2-clause-calls g c =
    let told = g.T.Tree.files c.args.tree.now in
    let root = c.args.root.now in
    let found = c.loop-folder.found in
    let pending = c.pop_first.new.self in
    let h = string_bytes c.in-Some-pop_first.folder in
    let first : found.folders ≡ h ∷ pending = c.in-Some-pop_first.ensures.first in
    calls_last told root h c.args.entries found.room pending found.files _ _ _
    (subst (λ ps. ToldStands told root c.args.entries found.room ps found.files) first c.loop-folder.invariant.stands)
    (least_first h pending found.folders first c.pop_first.ensures.ascending)
    (subst (λ ps. ToldCalls told root ps (g.T.Tree.calls c.loop-folder.tree) (g.T.Tree.calls c.args.tree.now)) first c.loop-folder.invariant.calls)
    c.in_ok-members-2.ensures.calls

pub loop-folder-preserved : goal.loop-folder-preserved
loop-folder-preserved g c =
    let told = g.T.Tree.files c.args.tree.now in
    let root = c.args.root.now in
    let most = c.args.entries in
    let found = c.loop-folder.found in
    let pending = c.pop_first.new.self in
    let h = string_bytes c.in-Some-pop_first.folder in
    let first : found.folders ≡ h ∷ pending = c.in-Some-pop_first.ensures.first in
    let before : ToldStands told root most found.room (h ∷ pending) found.files =
    subst (λ ps. ToldStands told root most found.room ps found.files) first c.loop-folder.invariant.stands in
    let lists : ListsFolder told h c.in_ok-members-2.field-0 =
    subst (λ p. ListsFolder told p c.in_ok-members-2.field-0) c.deref.ensures
    (subst (λ t. ListsFolder t c.deref.result.now c.in_ok-members-2.field-0) c.loop-folder.invariant.told c.in_ok-members-2.ensures.lists) in
    let before_within : (p : List ℕ) → In p (h ∷ pending) → is_at_or_below root p ≡ true =
    subst (λ ps. (p : List ℕ) → In p ps → is_at_or_below root p ≡ true) first c.loop-folder.invariant.within in
    let after_within : (p : List ℕ) → In p c.match-branch-5.found.folders → is_at_or_below root p ≡ true =
    elim c.match-branch-5.branch as (λ _. (p : List ℕ) → In p c.match-branch-5.found.folders → is_at_or_below root p ≡ true) [
      | in-Some-2+in_ok-take-2 w ↦
          subst (λ (f : Found). (p : List ℕ) → In p f.folders → is_at_or_below root p ≡ true) (sym w.found-is)
          (folders_within root h pending w.take-in-Some-2.new.self.folders w.in-Some-2.members (before_within h (inl refl)) (λ p i. before_within p (inr i))
          (subst (λ f. Adds (is_subfolder f) w.in-Some-2.members pending w.take-in-Some-2.new.self.folders) w.deref-in-Some-2.ensures w.in_ok-take-2.ensures.folders))
      | in_default-2 w ↦ subst (λ (f : Found). (p : List ℕ) → In p f.folders → is_at_or_below root p ≡ true) (sym w.found-is) (λ p i. before_within p (inr i))
    ] in
    let after_below : (p : List ℕ) → In p c.match-branch-5.found.files → is_below root p ≡ true =
    elim c.match-branch-5.branch as (λ _. (p : List ℕ) → In p c.match-branch-5.found.files → is_below root p ≡ true) [
      | in-Some-2+in_ok-take-2 w ↦
          subst (λ (f : Found). (p : List ℕ) → In p f.files → is_below root p ≡ true) (sym w.found-is)
          (files_below root h found.files w.take-in-Some-2.new.self.files w.in-Some-2.members (before_within h (inl refl)) c.loop-folder.invariant.below
          (subst (λ f. Adds (is_dsdl_member f) w.in-Some-2.members found.files w.take-in-Some-2.new.self.files) w.deref-in-Some-2.ensures w.in_ok-take-2.ensures.files))
      | in_default-2 w ↦ subst (λ (f : Found). (p : List ℕ) → In p f.files → is_below root p ≡ true) (sym w.found-is) c.loop-folder.invariant.below
    ] in
    let after : ToldStands told root most c.match-branch-5.found.room c.match-branch-5.found.folders c.match-branch-5.found.files =
    elim c.match-branch-5.branch as (λ _. ToldStands told root most c.match-branch-5.found.room c.match-branch-5.found.folders c.match-branch-5.found.files) [
      | in-Some-2+in_ok-take-2 w ↦
          let members = w.in-Some-2.members in
          let e = w.in_ok-take-2.ensures in
          let new = w.take-in-Some-2.new.self in
          subst (λ (f : Found). ToldStands told root most f.room f.folders f.files) (sym w.found-is)
          (told_step told root h most found.room new.room pending new.folders found.files new.files members before
          (least_first h pending found.folders first c.pop_first.ensures.ascending) (subst (ListsFolder told h) w.in-Some-2.is lists) e.room
          (subst (λ f. Adds (is_subfolder f) members pending new.folders) w.deref-in-Some-2.ensures e.folders)
          (subst (λ f. Adds (is_dsdl_member f) members found.files new.files) w.deref-in-Some-2.ensures e.files))
      | in_default-2 w ↦
          subst (λ (f : Found). ToldStands told root most f.room f.folders f.files) (sym w.found-is)
          (told_absent told root h most found.room pending found.files before (subst (ListsFolder told h) w.in_default-2.is lists))
    ] in
    let calls_before : ToldCalls told root (h ∷ pending) (g.T.Tree.calls c.loop-folder.tree) (g.T.Tree.calls c.args.tree.now) =
    subst (λ ps. ToldCalls told root ps (g.T.Tree.calls c.loop-folder.tree) (g.T.Tree.calls c.args.tree.now)) first c.loop-folder.invariant.calls in
    let calls_after : ToldCalls told root c.match-branch-5.found.folders (g.T.Tree.calls c.list_folder-in-Some-pop_first.new.tree) (g.T.Tree.calls c.args.tree.now) =
    elim c.match-branch-5.branch as (λ _. ToldCalls told root c.match-branch-5.found.folders (g.T.Tree.calls c.list_folder-in-Some-pop_first.new.tree) (g.T.Tree.calls c.args.tree.now)) [
      | in-Some-2+in_ok-take-2 w ↦
          let members = w.in-Some-2.members in
          let new = w.take-in-Some-2.new.self in
          subst (λ (f : Found). ToldCalls told root f.folders (g.T.Tree.calls c.list_folder-in-Some-pop_first.new.tree) (g.T.Tree.calls c.args.tree.now)) (sym w.found-is)
          (calls_step told root h most found.room pending new.folders found.files members _ _ _ before
          (least_first h pending found.folders first c.pop_first.ensures.ascending) (subst (ListsFolder told h) w.in-Some-2.is lists)
          (subst (λ f. Adds (is_subfolder f) members pending new.folders) w.deref-in-Some-2.ensures w.in_ok-take-2.ensures.folders)
          calls_before c.in_ok-members-2.ensures.calls)
      | in_default-2 w ↦
          subst (λ (f : Found). ToldCalls told root f.folders (g.T.Tree.calls c.list_folder-in-Some-pop_first.new.tree) (g.T.Tree.calls c.args.tree.now)) (sym w.found-is)
          (calls_absent told root h most found.room pending found.files _ _ before (subst (ListsFolder told h) w.in_default-2.is lists))
    ] in
    record {
      told = c.in_ok-members-2.ensures.files ∙ c.loop-folder.invariant.told;
      faults = c.in_ok-members-2.ensures.cause ∙ c.loop-folder.invariant.faults;
      calls = calls_after;
      within = after_within;
      below = after_below;
      root = c.loop-folder.invariant.root;
      stands = after;
    }

pub returns-clause-ascending : goal.returns-clause-ascending
returns-clause-ascending g c = subst IsAscending (sym c.in_ok-into_texts.ensures.texts) c.in_ok-into_texts.ensures.ascending

pub returns-clause-below : goal.returns-clause-below
returns-clause-below g c =
    subst (All (λ p. is_below c.args.root.now p ≡ true)) (sym c.in_ok-into_texts.ensures.texts)
    (all_below c.args.root.now c.loop-folder.found.files c.loop-folder.invariant.below)

pub returns-clause-found : goal.returns-clause-found
returns-clause-found g c =
    let told = g.T.Tree.files c.args.tree.now in
    let root = c.args.root.now in
    let most = c.args.entries in
    let found = c.loop-folder.found in
    let texts = c.in_ok-into_texts.ensures.texts in
    let stands : ToldStands told root most found.room [] found.files =
    subst (λ ps. ToldStands told root most found.room ps found.files) c.in_default-pop_first.ensures.first c.loop-folder.invariant.stands in
    subst (λ ps. ToldFinds told root most (Ok ps)) (sym texts)
    (told_found told root most found.room found.files c.loop-folder.invariant.root stands c.in_ok-into_texts.ensures.ascending)
