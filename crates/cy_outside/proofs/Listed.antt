-- The members of a folder that were listed so far.
use Rattle.std.proofs.Common.{◌≡◌, ◌≢◌, ◌∙◌, inl, inr, ℕ, ◌<◌, ◌+◌, ◌==◌, true, false, T, List, [], ◌∷◌, ◌++◌, Option, Some, None, refl, sym, ap, subst, take, length, get_or, append_assoc, arith}
use Rattle.std.proofs.lemmas.Grind.{common_steps}
use Rattle.std.proofs.lemmas.List.{get_or_default}
use Rattle.std.proofs.lemmas.List.Elements.{All-more, All-push, All-nil, All-weaker, All-contains, Contains-append_left, Contains-push}
use Rattle.std.proofs.lemmas.List.Quantifiers.{all_pairs_push}
use Rattle.std.specs.Prelude.{is_some, option_map}
use Rattle.std.specs.List.{list_any, before_first, All, AllPairs, Any, Contains}
use Rattle.cy_outside.specs.declared.file.File.{File}
use Rattle.cy_outside.specs.declared.tree.Entry.{Entry}
use Rattle.cy_outside.specs.Files.{Files, rest_in, is_file, is_folder, has_clash, first_name, member_of, IsMember, ListsMembers}
use Rattle.cy_outside.specs.Memory.{files_of}
use Rattle.cy_outside.proofs.Below.{same_some, not_none, rest_in-below, below-rest_in, name_alone, name_and_more}
use Rattle.cy_outside.proofs.Stored.{not_any_key, is_file_at, file_from, true_or_false}

-- a file's path is no folder
not_inside : (files : Files) (p q t : List ℕ) → has_clash files ≡ false → is_file files p ≡ true → is_file files q ≡ true → rest_in p q ≡ Some t → ⊥
not_inside files p q t apart fp fq e =
    subst T (sym (ap is_some e) ∙ not_any_key (λ file. is_some (rest_in p file)) files q fq (not_any_key (is_folder files) files p fp apart)) tt

-- a path of one name, and one of more behind the same name
clash : (files : Files) (folder p q r s : List ℕ) → has_clash files ≡ false → is_file files p ≡ true → is_file files q ≡ true
    → rest_in folder p ≡ Some r → rest_in folder q ≡ Some s → before_first (λ b. b == 47) r ≡ before_first (λ b. b == 47) s
    → list_any (λ b. b == 47) r ≡ false → list_any (λ b. b == 47) s ≡ true → ⊥
clash files folder p q r s apart fp fq ep eq names alone more =
    let rest = name_and_more s more in
    let longer : s ≡ r ++ 47 ∷ rest.0 = rest.1 ∙ ap (λ n. n ++ 47 ∷ rest.0) (sym names ∙ name_alone r alone) in
    let below : q ≡ p ++ 47 ∷ rest.0 = below-rest_in folder q s eq ∙ ap (λ x. folder ++ 47 ∷ x) longer
    ∙ sym (append_assoc folder (47 ∷ r) (47 ∷ rest.0)) ∙ ap (λ x. x ++ 47 ∷ rest.0) (sym (below-rest_in folder p r ep)) in
    not_inside files p q rest.0 apart fp fq (ap (rest_in p) below ∙ rest_in-below p rest.0)

same_kind : (files : Files) (folder p q r s : List ℕ) → has_clash files ≡ false → is_file files p ≡ true → is_file files q ≡ true
    → rest_in folder p ≡ Some r → rest_in folder q ≡ Some s → before_first (λ b. b == 47) r ≡ before_first (λ b. b == 47) s
    → list_any (λ b. b == 47) r ≡ list_any (λ b. b == 47) s
same_kind files folder p q r s apart fp fq ep eq names =
    elim (true_or_false (list_any (λ b. b == 47) r)) as (λ _. list_any (λ b. b == 47) r ≡ list_any (λ b. b == 47) s) [
      | inl more ↦ elim (true_or_false (list_any (λ b. b == 47) s)) as (λ _. list_any (λ b. b == 47) r ≡ list_any (λ b. b == 47) s) [
        | inl more' ↦ more ∙ sym more'
        | inr alone' ↦ absurd (clash files folder q p s r apart fq fp eq ep (sym names) alone' more)
      ]
      | inr alone ↦ elim (true_or_false (list_any (λ b. b == 47) s)) as (λ _. list_any (λ b. b == 47) r ≡ list_any (λ b. b == 47) s) [
        | inl more' ↦ absurd (clash files folder p q r s apart fp fq ep eq names alone more')
        | inr alone' ↦ alone ∙ sym alone'
      ]
    ]

mapped : {X Y : Type 0} (f : X → Y) (o : Option X) (y : Y) → option_map f o ≡ Some y → (x : X) × (o ≡ Some x) × (f x ≡ y)
mapped f None y e = absurd (not_none y e)
mapped f (Some x) y e = (x, refl, same_some (f x) y e)

same_entry : (a b : Entry) → a.name ≡ b.name → a.folder ≡ b.folder → a ≡ b
same_entry a b n f = λ i. record { name = n i; folder = f i }

-- two members of one name are one
only_member : (files : Files) (folder : List ℕ) (a b : Entry) → has_clash files ≡ false → IsMember files folder a → IsMember files folder b
    → a.name ≡ b.name → a ≡ b
only_member files folder a b apart ma mb names =
    let r = mapped first_name (rest_in folder ma.0) a ma.2 in
    let s = mapped first_name (rest_in folder mb.0) b mb.2 in
    same_entry a b names
    (ap (λ (e : Entry). e.folder) (sym r.2)
    ∙ same_kind files folder ma.0 mb.0 r.0 s.0 apart ma.1 mb.1 r.1 s.1 (ap (λ (e : Entry). e.name) r.2 ∙ names ∙ ap (λ (e : Entry). e.name) (sym s.2))
    ∙ ap (λ (e : Entry). e.folder) s.2)

-- the entries list the member at which, or below which, a file stands
abbrev pub IsListed : List ℕ → List Entry → File → Type 0
IsListed folder entries f = (entry : Entry) → member_of folder f.path ≡ Some entry → Contains entries entry

-- the entries list the members at which the first i files stand
pub record Listed (files : List File) (folder : List ℕ) (i : ℕ) (entries : List Entry) : Type 0 where
  pub once : AllPairs (λ (a b : Entry). a.name ≢ b.name) entries
  pub sound : All (λ (entry : Entry). IsMember (files_of files) folder entry) entries
  pub complete : All (IsListed folder entries) (take i files)

pub listed_none : (files : List File) (folder : List ℕ) → Listed files folder 0 []
listed_none files folder = record {
  once = λ i j d l m. absurd (omega (arith, m));
  sound = All-nil (λ (entry : Entry). IsMember (files_of files) folder entry);
  complete = All-nil (IsListed folder []);
}

pub listed_outside : (files : List File) (folder : List ℕ) (i : ℕ) (f : File) (entries : List Entry) → i < length files → f ≡ get_or files i f
    → rest_in folder f.path ≡ None → Listed files folder i entries → Listed files folder (i + 1) entries
listed_outside files folder i f entries l e none d = record {
  once = d.once;
  sound = d.sound;
  complete = All-more (IsListed folder entries) files i f l d.complete
      (λ entry m. absurd (not_none entry (sym (ap (option_map first_name) none) ∙ ap (λ (g : File). member_of folder g.path) e ∙ m)));
}

is_member : (files : List File) (folder : List ℕ) (i : ℕ) (f : File) (entry : Entry) → i < length files → f ≡ get_or files i f
    → member_of folder f.path ≡ Some entry → IsMember (files_of files) folder entry
is_member files folder i f entry l e m =
    (f.path, subst (λ (g : File). is_file (files_of files) g.path ≡ true) (sym e) (is_file_at files i f l), m)

pub listed_again : (files : List File) (folder : List ℕ) (i : ℕ) (f : File) (rest : List ℕ) (entries : List Entry) → has_clash (files_of files) ≡ false
    → i < length files → f ≡ get_or files i f → rest_in folder f.path ≡ Some rest
    → Any (λ (entry : Entry). entry.name ≡ (first_name rest).name) entries → Listed files folder i entries → Listed files folder (i + 1) entries
listed_again files folder i f rest entries apart l e below again d =
    let known = again.1 in
    let is_known : IsMember (files_of files) folder known =
    subst (λ (x : Entry). IsMember (files_of files) folder x) again.3 (d.sound again.0 known again.2) in
    let listed : IsListed folder entries f = λ entry m.
    let first : first_name rest ≡ entry = same_some _ _ (sym (ap (option_map first_name) below) ∙ m) in
    let same : known ≡ entry = only_member (files_of files) folder known entry apart is_known (is_member files folder i f entry l e m)
    (again.4 ∙ ap (λ (x : Entry). x.name) first) in
    subst (λ (x : Entry). Contains entries x) same (again.0, again.2, again.3) in
    record {
      once = d.once;
      sound = d.sound;
      complete = All-more (IsListed folder entries) files i f l d.complete (subst (IsListed folder entries) e listed);
    }

pub listed_more : (files : List File) (folder : List ℕ) (i : ℕ) (f : File) (rest : List ℕ) (entries : List Entry) (new : Entry) → i < length files → f ≡ get_or files i f
    → rest_in folder f.path ≡ Some rest → new ≡ first_name rest → (Any (λ (entry : Entry). entry.name ≡ new.name) entries → ⊥)
    → Listed files folder i entries → Listed files folder (i + 1) (entries ++ new ∷ [])
listed_more files folder i f rest entries new l e below first unknown d =
    let there : member_of folder f.path ≡ Some new = ap (option_map first_name) below ∙ ap Some (sym first) in
    let listed : IsListed folder (entries ++ new ∷ []) f = λ entry m.
    subst (λ (x : Entry). Contains (entries ++ new ∷ []) x) (same_some new entry (sym there ∙ m)) (Contains-push entries new) in
    record {
      once = all_pairs_push (λ (a b : Entry). a.name ≢ b.name) entries new d.once (λ k x m h. unknown (k, get_or entries k x, m, get_or_default entries k (get_or entries k x) x m, h));
      sound = All-push (λ (entry : Entry). IsMember (files_of files) folder entry) entries new d.sound (is_member files folder i f new l e there);
      complete = All-more (IsListed folder (entries ++ new ∷ [])) files i f l
          (All-weaker (IsListed folder entries) (IsListed folder (entries ++ new ∷ []))
          (λ g all entry m. Contains-append_left entries (new ∷ []) entry (all entry m)) (take i files) d.complete)
          (subst (IsListed folder (entries ++ new ∷ [])) e listed);
    }

take_all : (files : List File) → take (length files) files ≡ files
take_all files = grind (arith, common_steps)

pub lists_members : (files : List File) (folder : List ℕ) (entries : List Entry) → Listed files folder (length files) entries
    → ListsMembers (files_of files) folder entries
lists_members files folder entries d = record {
  once = d.once;
  sound = d.sound;
  complete = λ entry m.
      let found = file_from files m.0 m.1 in
      let every : All (IsListed folder entries) files = subst (All (IsListed folder entries)) (take_all files) d.complete in
      All-contains (IsListed folder entries) files found.1 every (found.0, found.2, found.3) entry (ap (member_of folder) (sym found.4) ∙ m.2);
}
