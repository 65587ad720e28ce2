-- A list of files as a map of them.
use Rattle.std.proofs.Common.{◌≡◌, ◌≢◌, ◌∙◌, ◌⊎◌, inl, inr, ℕ, ◌<◌, Bool, true, false, cond, ◌||◌, T, List, [], ◌∷◌, Some, refl, sym, ap, subst, map, length, get_or, drop, drop-cons, add-one, nat_eq, ◌+◌}
use Rattle.std.proofs.lemmas.List.{nil_from_length}
use Rattle.std.proofs.lemmas.List.Folds.{Any-from_list_any, list_any_at}
use Rattle.std.specs.declared.cmp.Ordering.{Ordering}
use Rattle.std.specs.declared.cmp.Ordering.TheVariants.{Less, Equal, Greater}
use Rattle.std.specs.Ordering.{nat_cmp, eq_by_cmp, is_eq}
use Rattle.std.specs.Cmp.Lexicographic.{slice_cmp, nat_list_cmp_total, texts_ties, pointwise}
use Rattle.std.proofs.lemmas.Cmp.{tied_itself}
use Rattle.std.specs.List.{list_any, Any}
use Rattle.std.specs.FinMap.{put, find, entries, keys, entries-insert, empty, len-empty, len-entries, contains_key-keys, slice_cmp-IsAntisymmetric, nat_cmp-IsAntisymmetric}
use Rattle.std.specs.FinMap.Entries.{by_order}
use Rattle.cy_outside.specs.declared.file.File.{File}
use Rattle.cy_outside.specs.Files.{Files, is_file}
use Rattle.cy_outside.specs.Memory.{files_of}

-- the order of paths
abbrev pub by_bytes : List ℕ → List ℕ → Ordering
by_bytes = slice_cmp nat_cmp

equal : (o : Ordering) → is_eq o ≡ true → o ≡ Equal
equal Less e = absurd (subst T (sym e) tt)
equal Equal e = refl
equal Greater e = absurd (subst T (sym e) tt)

-- only equal paths tie
pub same_path : (p q : List ℕ) → eq_by_cmp by_bytes p q ≡ true → p ≡ q
same_path p q e = slice_cmp-IsAntisymmetric nat_cmp-IsAntisymmetric p q (equal _ e)

pub path_itself : (p q : List ℕ) → p ≡ q → eq_by_cmp by_bytes p q ≡ true
path_itself p q e = subst (λ x. eq_by_cmp by_bytes p x ≡ true) e (ap is_eq (tied_itself nat_list_cmp_total p))

pub true_or_false : (b : Bool) → (b ≡ true) ⊎ (b ≡ false)
true_or_false true = inl refl
true_or_false false = inr refl

pub other_path : (p q : List ℕ) → p ≢ q → eq_by_cmp by_bytes p q ≡ false
other_path p q n = elim (true_or_false (eq_by_cmp by_bytes p q)) as (λ _. eq_by_cmp by_bytes p q ≡ false) [ inl e ↦ absurd (n (same_path p q e)) | inr e ↦ e ]

or_twice : (a b : Bool) → (a || b) ≡ (a || (a || b))
or_twice true b = refl
or_twice false b = refl

or_swap : (a b c : Bool) → (a || (b || c)) ≡ (b || (a || c))
or_swap true true c = refl
or_swap true false c = refl
or_swap false true c = refl
or_swap false false c = refl

-- a test of the keys, after an entry was put
list_any_put : (p : List ℕ → Bool) (k v : List ℕ) (es : List (List ℕ × List ℕ))
    → list_any p (map (λ e. e.0) (put by_bytes k v es)) ≡ (p k || list_any p (map (λ e. e.0) es))
list_any_put p k v [] = refl
list_any_put p k v (e ∷ es) =
    elim (by_bytes k e.0) as (λ o. by_bytes k e.0 ≡ o → list_any p (map (λ f. f.0) (by_order o ((k, v) ∷ e ∷ es) ((e.0, v) ∷ es) (e ∷ put by_bytes k v es)))
    ≡ (p k || (p e.0 || list_any p (map (λ f. f.0) es)))) [
      | Less ↦ λ h. refl
      | Equal ↦ λ h. or_twice (p e.0) (list_any p (map (λ f. f.0) es))
          ∙ ap (λ x. p x || (p e.0 || list_any p (map (λ f. f.0) es))) (sym (slice_cmp-IsAntisymmetric nat_cmp-IsAntisymmetric k e.0 h))
      | Greater ↦ λ h. ap (λ b. p e.0 || b) (list_any_put p k v es) ∙ or_swap (p e.0) (p k) (list_any p (map (λ f. f.0) es))
    ] refl

no_entries : entries (empty {X = List ℕ} {R = by_bytes}) ≡ []
no_entries = nil_from_length _ (sym (len-entries _) ∙ len-empty by_bytes (List ℕ))

-- a test of the paths of a map is one of the list's
pub list_any_files : (p : List ℕ → Bool) (files : List File) → list_any p (keys (files_of files)) ≡ list_any (λ (f : File). p f.path) files
list_any_files p [] = ap (λ es. list_any p (map (λ e. e.0) es)) no_entries
list_any_files p (f ∷ files) =
    ap (λ es. list_any p (map (λ e. e.0) es)) (entries-insert nat_list_cmp_total (files_of files) f.path f.bytes)
    ∙ list_any_put p f.path f.bytes (entries (files_of files))
    ∙ ap (λ b. p f.path || b) (list_any_files p files)

-- there is a file at the path of each of the list
pub is_file_at : (files : List File) (i : ℕ) (f : File) → i < length files → is_file (files_of files) (get_or files i f).path ≡ true
is_file_at files i f l =
    contains_key-keys (files_of files) (get_or files i f).path
    ∙ list_any_files (eq_by_cmp by_bytes (get_or files i f).path) files
    ∙ list_any_at (λ (g : File). eq_by_cmp by_bytes (get_or files i f).path g.path) files i f l (path_itself (get_or files i f).path (get_or files i f).path refl)

-- each file of the map is one of the list
pub file_from : (files : List File) (path : List ℕ) → is_file (files_of files) path ≡ true → Any (λ (f : File). path ≡ f.path) files
file_from files path e =
    let found = Any-from_list_any (λ (f : File). eq_by_cmp by_bytes path f.path) files
    (sym (list_any_files (eq_by_cmp by_bytes path) files) ∙ sym (contains_key-keys (files_of files) path) ∙ e) in
    (found.0, found.1, found.2, found.3, same_path path found.1.path found.4)

-- what no path of a map passes, none of its files does
pub not_any_key : (p : List ℕ → Bool) (files : Files) (path : List ℕ) → is_file files path ≡ true → list_any p (keys files) ≡ false → p path ≡ false
not_any_key p files path e none =
    let found = Any-from_list_any (eq_by_cmp by_bytes path) (keys files) (sym (contains_key-keys files path) ∙ e) in
    elim (true_or_false (p path)) as (λ _. p path ≡ false) [
      | inl passes ↦ absurd (subst T (sym (list_any_at p (keys files) found.0 found.1 found.2
          (ap p (found.3 ∙ sym (same_path path found.1 found.4)) ∙ passes)) ∙ none) tt)
      | inr fails ↦ fails
    ]

-- a search that goes on at the next file
pub find_next : (files : List File) (i : ℕ) (f : File) (path : List ℕ) → i < length files → f ≡ get_or files i f
    → find by_bytes path (map (λ (g : File). (g.path, g.bytes)) (drop i files))
    ≡ cond (eq_by_cmp by_bytes path f.path) (Some f.bytes) (find by_bytes path (map (λ (g : File). (g.path, g.bytes)) (drop (i + 1) files)))
find_next files i f path l e =
    ap (λ fs. find by_bytes path (map (λ (g : File). (g.path, g.bytes)) fs)) (drop-cons files i f l
    ∙ ap (λ k. get_or files i f ∷ drop k files) (sym (add-one i)) ∙ ap (λ g. g ∷ drop (i + 1) files) (sym e))

-- the texts that `==` does not tell apart
pub same_text : (p q : List ℕ) → pointwise nat_eq p q ≡ true → p ≡ q
same_text p q e = same_path p q (sym (texts_ties p q) ∙ e)

pub text_itself : (p q : List ℕ) → p ≡ q → pointwise nat_eq p q ≡ true
text_itself p q e = texts_ties p q ∙ path_itself p q e
