-- The paths of members that were added so far.
use Rattle.std.proofs.Common.{◌≡◌, ◌∙◌, ℕ, ◌<◌, ◌≤◌, ◌+◌, Bool, true, false, ◌||◌, ◌&&◌, not, List, ◌∷◌, ◌++◌, refl, sym, ap, length, get_or, take, arith}
use Rattle.std.proofs.lemmas.Grind.{common_steps}
use Rattle.std.proofs.lemmas.List.Folds.{list_any_more}
use Rattle.std.specs.List.{list_any}
use Rattle.std.specs.Str.{bytes_eq}
use Rattle.cy_outside.specs.declared.tree.Entry.{Entry}
use Rattle.dsdl_files.specs.declared.found.Found.{Found}
use Rattle.dsdl_files.specs.Folders.{is_dsdl}
use Rattle.dsdl_files.specs.Steps.{Adds, is_subfolder, is_dsdl_member}

pub adds_none : (test : List ℕ → Entry → Bool) (members : List Entry) (old : List (List ℕ)) → Adds test (take 0 members) old old
adds_none test members old = λ p. refl

or_first : (a b o : Bool) → (b || (a || o)) ≡ ((a || b) || o)
or_first true true o = refl
or_first true false o = refl
or_first false b o = refl

or_none : (a o : Bool) → (a || o) ≡ ((a || false) || o)
or_none true o = refl
or_none false o = refl

-- one more member, whose path is added
pub adds_more : (test : List ℕ → Entry → Bool) (members : List Entry) (i : ℕ) (m : Entry) (old now new : List (List ℕ)) (path : List ℕ)
    → i < length members → m ≡ get_or members i m → Adds test (take i members) old now
    → ((p : List ℕ) → list_any (bytes_eq p) new ≡ (bytes_eq path p || list_any (bytes_eq p) now)) → ((p : List ℕ) → test p m ≡ bytes_eq path p)
    → Adds test (take (i + 1) members) old new
adds_more test members i m old now new path l is before added tested = λ p.
    added p ∙ ap (λ b. bytes_eq path p || b) (before p) ∙ or_first (list_any (test p) (take i members)) (bytes_eq path p) (list_any (bytes_eq p) old)
    ∙ ap (λ b. (list_any (test p) (take i members) || b) || list_any (bytes_eq p) old) (sym (tested p) ∙ ap (test p) is)
    ∙ ap (λ b. b || list_any (bytes_eq p) old) (sym (list_any_more (test p) members i m l))

-- one more member, whose path isn't
pub adds_same : (test : List ℕ → Entry → Bool) (members : List Entry) (i : ℕ) (m : Entry) (old now : List (List ℕ))
    → i < length members → m ≡ get_or members i m → Adds test (take i members) old now → ((p : List ℕ) → test p m ≡ false)
    → Adds test (take (i + 1) members) old now
adds_same test members i m old now l is before fails = λ p.
    before p ∙ or_none (list_any (test p) (take i members)) (list_any (bytes_eq p) old)
    ∙ ap (λ b. (list_any (test p) (take i members) || b) || list_any (bytes_eq p) old) (sym (fails p) ∙ ap (test p) is)
    ∙ ap (λ b. b || list_any (bytes_eq p) old) (sym (list_any_more (test p) members i m l))

pub all_members : (members : List Entry) (i : ℕ) → length members ≡ i → take i members ≡ members
all_members members i e = grind (arith, common_steps)

-- the tests of a member
pub subfolder : (folder path : List ℕ) (m : Entry) → m.folder ≡ true → path ≡ folder ++ 47 ∷ m.name → (p : List ℕ) → is_subfolder folder p m ≡ bytes_eq path p
subfolder folder path m f e = λ p. ap (λ b. b && bytes_eq (folder ++ 47 ∷ m.name) p) f ∙ ap (λ q. bytes_eq q p) (sym e)

pub no_subfolder : (folder : List ℕ) (m : Entry) → m.folder ≡ false → (p : List ℕ) → is_subfolder folder p m ≡ false
no_subfolder folder m f = λ p. ap (λ b. b && bytes_eq (folder ++ 47 ∷ m.name) p) f

pub dsdl_member : (folder path : List ℕ) (m : Entry) → m.folder ≡ false → path ≡ folder ++ 47 ∷ m.name → is_dsdl path ≡ true → (p : List ℕ) → is_dsdl_member folder p m ≡ bytes_eq path p
dsdl_member folder path m f e d = λ p.
    ap (λ b. not b && (is_dsdl (folder ++ 47 ∷ m.name) && bytes_eq (folder ++ 47 ∷ m.name) p)) f
    ∙ ap (λ q. is_dsdl q && bytes_eq q p) (sym e) ∙ ap (λ b. b && bytes_eq path p) d

pub other_member : (folder path : List ℕ) (m : Entry) → m.folder ≡ false → path ≡ folder ++ 47 ∷ m.name → is_dsdl path ≡ false → (p : List ℕ) → is_dsdl_member folder p m ≡ false
other_member folder path m f e d = λ p.
    ap (λ b. not b && (is_dsdl (folder ++ 47 ∷ m.name) && bytes_eq (folder ++ 47 ∷ m.name) p)) f
    ∙ ap (λ q. is_dsdl q && bytes_eq q p) (sym e) ∙ ap (λ b. b && bytes_eq path p) d

pub folder_member : (folder : List ℕ) (m : Entry) → m.folder ≡ true → (p : List ℕ) → is_dsdl_member folder p m ≡ false
folder_member folder m f = λ p. ap (λ b. not b && (is_dsdl (folder ++ 47 ∷ m.name) && bytes_eq (folder ++ 47 ∷ m.name) p)) f

-- what was found, once the first members of a folder were added
pub record Added (folder : List ℕ) (members : List Entry) (i : ℕ) (old now : Found) : Type 0 where
  pub room : now.room ≡ old.room
  pub folders : Adds (is_subfolder folder) (take i members) old.folders now.folders
  pub files : Adds (is_dsdl_member folder) (take i members) old.files now.files
  pub len : length now.folders ≤ length old.folders + i
