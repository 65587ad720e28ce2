-- Which paths are those of files and of folders.
use Rattle.std.proofs.Common.{◌≡◌, ◌∙◌, inl, inr, ℕ, ◌==◌, Bool, true, false, cond, List, [], ◌∷◌, ◌++◌, refl, sym, ap, subst, map}
use Rattle.std.proofs.lemmas.Bool.{eqb-true, eq-eqb}
use Rattle.std.proofs.lemmas.Map.Text.{is_eq-slice_cmp}
use Rattle.std.specs.Prelude.{is_some}
use Rattle.std.specs.Ordering.{eq_by_cmp}
use Rattle.std.specs.Cmp.Lexicographic.{nat_list_cmp_total}
use Rattle.std.specs.List.{list_any, flat_map}
use Rattle.std.specs.FinMap.{keys, from_entries, entries, entries_sorted, contains_key-keys, get-from_entries}
use Rattle.std.specs.FinMap.Entries.{is_some-find}
use Rattle.cy_outside.specs.Files.{Files, rest_in, is_folder, is_file}
use Rattle.dsdl_files.specs.Order.{by_bytes, IsAscending, alone, ascending}
use Rattle.dsdl_files.specs.Folders.{folders_of, all_folders}
use Rattle.dsdl_files.proofs.Members.{In, any_in, in_any, same_path, path_itself, in_append, in_append_right, in_map, map_in, in_flat_map, flat_map_in}
use Rattle.dsdl_files.proofs.Ordered.{sorted_keys}
use Rattle.dsdl_files.proofs.Below.{Under, under, below}

-- ---- the keys of a map

pub key_in : (p : List ℕ) (ps : List (List ℕ)) → list_any (eq_by_cmp by_bytes p) ps ≡ true → In p ps
key_in p ps e =
    let r = any_in (eq_by_cmp by_bytes p) ps e in
    subst (λ q. In q ps) (sym (same_path p r.0 (sym (is_eq-slice_cmp p r.0) ∙ r.2))) r.1

pub in_key : (p : List ℕ) (ps : List (List ℕ)) → In p ps → list_any (eq_by_cmp by_bytes p) ps ≡ true
in_key p ps i = in_any (eq_by_cmp by_bytes p) ps p i (is_eq-slice_cmp p p ∙ path_itself p p refl)

firsts : (ps : List (List ℕ)) → map (λ (e : List ℕ × Unit {0}). e.0) (map alone ps) ≡ ps
firsts [] = refl
firsts (p ∷ ps) = λ i. p ∷ firsts ps i

any_ascending : (p : List ℕ) (ps : List (List ℕ)) → list_any (eq_by_cmp by_bytes p) (ascending ps) ≡ list_any (eq_by_cmp by_bytes p) ps
any_ascending p ps =
    sym (contains_key-keys (from_entries {R = by_bytes} (map alone ps)) p)
    ∙ ap is_some (get-from_entries nat_list_cmp_total (map alone ps) p)
    ∙ is_some-find by_bytes p (map alone ps)
    ∙ ap (list_any (eq_by_cmp by_bytes p)) (firsts ps)

pub in_ascending : (p : List ℕ) (ps : List (List ℕ)) → In p ps → In p (ascending ps)
in_ascending p ps i = key_in p (ascending ps) (any_ascending p ps ∙ in_key p ps i)

pub ascending_in : (p : List ℕ) (ps : List (List ℕ)) → In p (ascending ps) → In p ps
ascending_in p ps i = key_in p ps (sym (any_ascending p ps) ∙ in_key p (ascending ps) i)

pub keys_ascend : {X : Type 0} (es : List (List ℕ × X)) → IsAscending (keys (from_entries {R = by_bytes} es))
keys_ascend es = sorted_keys (entries (from_entries {R = by_bytes} es)) (entries_sorted (from_entries {R = by_bytes} es))

pub files_ascend : (files : Files) → IsAscending (keys files)
files_ascend files = sorted_keys (entries files) (entries_sorted files)

pub file_in : (files : Files) (p : List ℕ) → is_file files p ≡ true → In p (keys files)
file_in files p e = key_in p (keys files) (sym (contains_key-keys files p) ∙ e)

pub in_file : (files : Files) (p : List ℕ) → In p (keys files) → is_file files p ≡ true
in_file files p i = contains_key-keys files p ∙ in_key p (keys files) i

-- ---- the folders in which a path stands

at_slash : (b : ℕ) (rest : List (List ℕ)) → b ≡ 47 → In [] (cond (b == 47) ([] ∷ []) [] ++ rest)
at_slash b rest e = subst (λ t. In [] (cond t ([] ∷ []) [] ++ rest)) (sym (eq-eqb b 47 e)) (inl refl)

slash_at : (t : Bool) (p : List ℕ) → In p (cond t ([] ∷ []) []) → (p ≡ []) × (t ≡ true)
slash_at true p i = elim i [ inl e ↦ (e, refl) | inr n ↦ absurd n ]
slash_at false p i = absurd i

front_of : (p rest : List ℕ) → In p (folders_of (p ++ 47 ∷ rest))
front_of [] rest = at_slash 47 (map (λ front. 47 ∷ front) (folders_of rest)) refl
front_of (a ∷ p) rest =
    in_append_right (cond (a == 47) ([] ∷ []) []) (map (λ front. a ∷ front) (folders_of (p ++ 47 ∷ rest))) (a ∷ p)
    (in_map (λ front. a ∷ front) (folders_of (p ++ 47 ∷ rest)) p (front_of p rest))

pub front_in : (p file : List ℕ) → Under p file → In p (folders_of file)
front_in p file u = subst (λ f. In p (folders_of f)) (sym u.is) (front_of p u.rest)

pub in_front : (p file : List ℕ) → In p (folders_of file) → Under p file
in_front p [] i = absurd i
in_front p (b ∷ file) i = elim (in_append (cond (b == 47) ([] ∷ []) []) (map (λ front. b ∷ front) (folders_of file)) p i) [
  | inl h ↦
      let s = slash_at (b == 47) p h in
      record { rest = file; is = ap (λ a. a ∷ file) (eqb-true b 47 s.1) ∙ ap (λ q. q ++ 47 ∷ file) (sym s.0) }
  | inr t ↦
      let s = map_in (λ front. b ∷ front) (folders_of file) p t in
      let u = in_front s.0 file s.1 in
      record { rest = u.rest; is = ap (λ f. b ∷ f) u.is ∙ ap (λ q. q ++ 47 ∷ u.rest) (sym s.2) }
]

-- ---- a folder is one in which some file stands

pub folder_in : (files : Files) (p : List ℕ) → is_folder files p ≡ true → In p (all_folders files)
folder_in files p e =
    let r = any_in (λ file. is_some (rest_in p file)) (keys files) e in
    in_ascending p (flat_map folders_of (keys files)) (in_flat_map folders_of (keys files) r.0 p r.1 (front_in p r.0 (under p r.0 r.2)))

-- a file that stands in a folder
pub record FileIn (files : Files) (p : List ℕ) : Type 0 where
  pub file : List ℕ
  pub key : In file (keys files)
  pub under : Under p file

pub in_folder : (files : Files) (p : List ℕ) → In p (all_folders files) → FileIn files p
in_folder files p i =
    let r = flat_map_in folders_of (keys files) p (ascending_in p (flat_map folders_of (keys files)) i) in
    record { file = r.0; key = r.1; under = in_front p r.0 r.2 }

pub is_folder_of : (files : Files) (p : List ℕ) → FileIn files p → is_folder files p ≡ true
is_folder_of files p f = in_any (λ file. is_some (rest_in p file)) (keys files) f.file f.key (below p f.file f.under)
