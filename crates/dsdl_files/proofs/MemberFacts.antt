-- The direct members of a folder: what stands at them and below them.
use Rattle.std.proofs.Common.{◌≡◌, ◌≢◌, ◌∙◌, ◌⊎◌, inl, inr, ℕ, ◌==◌, ◌<◌, ◌≤◌, Bool, true, false, List, [], ◌∷◌, ◌++◌, Option, Some, None, refl, sym, ap, subst, map, take, length, get_or, append_assoc, arith}
use Rattle.std.proofs.lemmas.Bool.{eqb-true, eq-eqb, cases_lt}
use Rattle.std.proofs.lemmas.Grind.{common_steps}
use Rattle.std.proofs.lemmas.List.Elements.{All-contains}
use Rattle.std.proofs.lemmas.List.Folds.{list_any_none, list_any_at}
use Rattle.std.proofs.lemmas.List.Sums.{fails_before_first, passes_at_first, split_at_first, prefix_len-le-length}
use Rattle.std.proofs.lemmas.Map.Keys.{IsDistinct-from_apart}
use Rattle.std.proofs.lemmas.Map.Made.{length-from_keys}
use Rattle.std.specs.Prelude.{option_map, not}
use Rattle.std.specs.Cmp.{both_ways}
use Rattle.std.specs.Cmp.Lexicographic.{nat_list_eq_equiv}
use Rattle.std.specs.List.{list_any, position_or_len, before_first, after_first, filter_map, IsDistinct, AllPairs}
use Rattle.std.specs.Str.{bytes_eq}
use Rattle.std.specs.FinMap.{keys}
use Rattle.cy_outside.specs.declared.tree.Entry.{Entry}
use Rattle.cy_outside.specs.Files.{Files, rest_in, first_name, member_of, IsMember, ListsMembers}
use Rattle.dsdl_files.specs.Folders.{member_count}
use Rattle.dsdl_files.proofs.Members.{In, same_some, not_none, in_any, true_or_false, not_both, same_path, or_right, path_any, any_path, in_append_right, in_map, map_in, in_filter_map, filter_map_in, contains_in, in_contains}
use Rattle.dsdl_files.proofs.Below.{Under, rest_in-below, below-rest_in, under_under}
use Rattle.dsdl_files.proofs.FolderFacts.{FileIn, file_in, in_file}

abbrev is_slash : ℕ → Bool
is_slash b = b == 47

-- ---- the first name of a path

no_slash : (path : List ℕ) → position_or_len is_slash path ≡ length path → list_any is_slash path ≡ false
no_slash path e = list_any_none is_slash path (λ k d l. fails_before_first is_slash path k d (omega (arith, l, e)))

take_all : (path : List ℕ) (n : ℕ) → length path ≤ n → take n path ≡ path
take_all path n h = grind (arith, common_steps)

name_alone : (path : List ℕ) → list_any is_slash path ≡ false → before_first is_slash path ≡ path
name_alone path none = elim (cases_lt (position_or_len is_slash path) (length path)) as (λ _. before_first is_slash path ≡ path) [
  | inl l ↦ not_both (list_any is_slash path) (list_any_at is_slash path _ 0 l (passes_at_first is_slash path 0 l)) none
  | inr g ↦ take_all path _ g
]

name_and_more : (path : List ℕ) → list_any is_slash path ≡ true → (rest : List ℕ) × (path ≡ before_first is_slash path ++ 47 ∷ rest)
name_and_more path some = elim (cases_lt (position_or_len is_slash path) (length path)) [
  | inl l ↦ (
    after_first is_slash path,
    split_at_first is_slash path 0 l
        ∙ ap (λ c. before_first is_slash path ++ c ∷ after_first is_slash path) (eqb-true _ 47 (passes_at_first is_slash path 0 l)),
  )
  | inr g ↦ not_both (list_any is_slash path) some (no_slash path (omega (arith, g, prefix_len-le-length (λ b. not (is_slash b)) path)))
]

front_read : (path : List ℕ) (n k d : ℕ) → k < length (take n path) → get_or (take n path) k d ≡ get_or path k d
front_read path n k d l = grind (arith, common_steps)

front_place : (path : List ℕ) (n k : ℕ) → k < length (take n path) → k < n
front_place path n k l = grind (arith, common_steps)

clear_name : (path : List ℕ) → list_any is_slash (before_first is_slash path) ≡ false
clear_name path =
    let n = position_or_len is_slash path in
    list_any_none is_slash (take n path) (λ k d l. ap is_slash (front_read path n k d l) ∙ fails_before_first is_slash path k d (front_place path n k l))

-- a path in which a name without a slash comes first is that name, or stands below it
split_front : (name path rest more : List ℕ) → list_any is_slash name ≡ false → path ++ 47 ∷ rest ≡ name ++ 47 ∷ more → (path ≡ name) ⊎ Under name path
split_front [] [] rest more clear e = inl refl
split_front [] (c ∷ path) rest more clear e = let h : c ≡ 47 = cc in inr (record { rest = path; is = ap (λ a. a ∷ path) h })
split_front (a ∷ name) [] rest more clear e = let h : a ≡ 47 = cc in not_both (list_any is_slash (a ∷ name)) (in_any is_slash (a ∷ name) a (inl refl) (eq-eqb a 47 h)) clear
split_front (a ∷ name) (c ∷ path) rest more clear e =
    let h : c ≡ a = cc in
    let t : path ++ 47 ∷ rest ≡ name ++ 47 ∷ more = cc in
    let clear' : list_any is_slash name ≡ false = elim (true_or_false (list_any is_slash name)) [
      | inl s ↦ not_both (list_any is_slash (a ∷ name)) (or_right (is_slash a) (list_any is_slash name) s) clear
      | inr n ↦ n
    ] in
    elim (split_front name path rest more clear' t) [
      | inl s ↦ inl (λ i. h i ∷ s i)
      | inr u ↦ inr (record { rest = u.rest; is = λ i. h i ∷ u.is i })
    ]

-- ---- a member, and a file at it or below it

pub record Member (files : Files) (folder : List ℕ) (member : Entry) : Type 0 where
  pub file : List ℕ
  pub key : In file (keys files)
  pub rest : List ℕ
  pub is : file ≡ folder ++ 47 ∷ rest
  pub name : first_name rest ≡ member

mapped : {X Y : Type 0} (f : X → Y) (o : Option X) (y : Y) → option_map f o ≡ Some y → (x : X) × (o ≡ Some x) × (f x ≡ y)
mapped f None y e = not_none y e
mapped f (Some x) y e = (x, refl, same_some (f x) y e)

pub member : (files : Files) (folder : List ℕ) (m : Entry) → IsMember files folder m → Member files folder m
member files folder m is =
    let r = mapped first_name (rest_in folder is.0) m is.2 in
    record { file = is.0; key = file_in files is.0 is.1; rest = r.0; is = below-rest_in folder is.0 r.0 r.1; name = r.2 }

-- the member over a file in a folder
pub over : (files : Files) (folder file : List ℕ) → In file (keys files) → (u : Under folder file) → IsMember files folder (first_name u.rest)
over files folder file i u = (file, in_file files file i, ap (option_map first_name) (ap (rest_in folder) u.is ∙ rest_in-below folder u.rest))

inside : (folder name rest : List ℕ) → folder ++ 47 ∷ (name ++ 47 ∷ rest) ≡ (folder ++ 47 ∷ name) ++ 47 ∷ rest
inside folder name rest = sym (append_assoc folder (47 ∷ name) (47 ∷ rest))

-- below a member that is a folder a file stands
pub in_subfolder : (files : Files) (folder : List ℕ) (m : Entry) → Member files folder m → m.folder ≡ true → FileIn files (folder ++ 47 ∷ m.name)
in_subfolder files folder m member f =
    let more = name_and_more member.rest (ap (λ (e : Entry). e.folder) member.name ∙ f) in
    record {
      file = member.file;
      key = member.key;
      under = record {
        rest = more.0;
        is = member.is ∙ ap (λ r. folder ++ 47 ∷ r) (more.1 ∙ ap (λ (e : Entry). e.name ++ 47 ∷ more.0) member.name) ∙ inside folder m.name more.0;
      };
    }

-- at a member that is no folder there is a file
pub at_file : (files : Files) (folder : List ℕ) (m : Entry) → Member files folder m → m.folder ≡ false → In (folder ++ 47 ∷ m.name) (keys files)
at_file files folder m member f =
    let alone = name_alone member.rest (ap (λ (e : Entry). e.folder) member.name ∙ f) in
    subst (λ p. In p (keys files)) (member.is ∙ ap (λ r. folder ++ 47 ∷ r) (sym alone ∙ ap (λ (e : Entry). e.name) member.name)) member.key

-- a file in a folder stands at its member, or below it
pub file_over : (folder file : List ℕ) (u : Under folder file)
    → (((first_name u.rest).folder ≡ true) × Under (folder ++ 47 ∷ (first_name u.rest).name) file)
    ⊎ (((first_name u.rest).folder ≡ false) × (file ≡ folder ++ 47 ∷ (first_name u.rest).name))
file_over folder file u = elim (true_or_false (list_any is_slash u.rest)) [
  | inl s ↦
      let more = name_and_more u.rest s in
      inl (s, record { rest = more.0; is = u.is ∙ ap (λ r. folder ++ 47 ∷ r) more.1 ∙ inside folder (before_first is_slash u.rest) more.0 })
  | inr n ↦ inr (n, u.is ∙ ap (λ r. folder ++ 47 ∷ r) (sym (name_alone u.rest n)))
]

-- a folder below another stands at or below a member of it that is a folder
pub record FolderOver (files : Files) (folder path : List ℕ) : Type 0 where
  pub entry : Entry
  pub member : IsMember files folder entry
  pub kind : entry.folder ≡ true
  pub under : (path ≡ folder ++ 47 ∷ entry.name) ⊎ Under (folder ++ 47 ∷ entry.name) path

under_member : (folder path name rest : List ℕ) → path ≡ folder ++ 47 ∷ rest → (rest ≡ name) ⊎ Under name rest → (path ≡ folder ++ 47 ∷ name) ⊎ Under (folder ++ 47 ∷ name) path
under_member folder path name rest e s = elim s [
  | inl h ↦ inl (e ∙ ap (λ r. folder ++ 47 ∷ r) h)
  | inr u ↦ inr (record { rest = u.rest; is = e ∙ ap (λ r. folder ++ 47 ∷ r) u.is ∙ inside folder name u.rest })
]

pub folder_over : (files : Files) (folder path : List ℕ) → FileIn files path → Under folder path → FolderOver files folder path
folder_over files folder path f u =
    let whole : Under folder f.file = under_under folder path f.file u f.under in
    let some : list_any is_slash whole.rest ≡ true = in_any is_slash whole.rest 47 (in_append_right u.rest (47 ∷ f.under.rest) 47 (inl refl)) refl in
    let more = name_and_more whole.rest some in
    record {
      entry = first_name whole.rest;
      member = over files folder f.file f.key whole;
      kind = some;
      under = under_member folder path (before_first is_slash whole.rest) u.rest u.is
          (split_front (before_first is_slash whole.rest) u.rest f.under.rest more.0 (clear_name whole.rest) more.1);
    }

-- ---- how many there are

get_or-name : (members : List Entry) (i : ℕ) (d : Entry) → get_or (map (λ (m : Entry). m.name) members) i d.name ≡ (get_or members i d).name
get_or-name members i d = grind (arith, common_steps)

length_names : (members : List Entry) → length (map (λ (m : Entry). m.name) members) ≡ length members
length_names members = grind (arith, common_steps)

other_path : (p q : List ℕ) → p ≢ q → bytes_eq p q ≡ false
other_path p q n = elim (true_or_false (bytes_eq p q)) [ inl e ↦ absurd (n (same_path p q e)) | inr e ↦ e ]

distinct : (members : List Entry) → AllPairs (λ (a b : Entry). a.name ≢ b.name) members → IsDistinct bytes_eq (map (λ (m : Entry). m.name) members)
distinct members once = IsDistinct-from_apart bytes_eq (map (λ (m : Entry). m.name) members) (λ i j d l m.
    let e : Entry = record { name = d; folder = false } in
    other_path (get_or (map (λ (m : Entry). m.name) members) i d) (get_or (map (λ (m : Entry). m.name) members) j d)
    (λ same. once i j e l (omega (arith, m, length_names members)) (sym (get_or-name members i e) ∙ same ∙ get_or-name members j e)))

pub count_of : (files : Files) (folder : List ℕ) (members : List Entry) → ListsMembers files folder members → length members ≡ member_count files folder
count_of files folder members lists =
    let names = map (λ (m : Entry). m.name) members in
    let all = filter_map (λ file. option_map (λ (m : Entry). m.name) (member_of folder file)) (keys files) in
    sym (length_names members)
    ∙ length-from_keys nat_list_eq_equiv names all (distinct members lists.once)
    (λ q. both_ways (list_any (bytes_eq q) names) (list_any (bytes_eq q) all)
    (λ t.
    let r = map_in (λ (m : Entry). m.name) members q (any_path q names t) in
    let is : IsMember files folder r.0 = All-contains (λ (m : Entry). IsMember files folder m) members r.0 lists.sound (in_contains members r.0 r.1) in
    path_any q all (in_filter_map (λ file. option_map (λ (m : Entry). m.name) (member_of folder file)) (keys files) is.0 q (file_in files is.0 is.1)
    (ap (option_map (λ (m : Entry). m.name)) is.2 ∙ ap Some (sym r.2))))
    (λ t.
    let r = filter_map_in (λ file. option_map (λ (m : Entry). m.name) (member_of folder file)) (keys files) q (any_path q all t) in
    let s = mapped (λ (m : Entry). m.name) (member_of folder r.0) q r.2 in
    path_any q names (subst (λ n. In n names) s.2
    (in_map (λ (m : Entry). m.name) members s.0 (contains_in members s.0 (lists.complete s.0 (r.0, in_file files r.0 r.1, s.1)))))))
