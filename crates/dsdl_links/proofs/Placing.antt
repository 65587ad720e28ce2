-- Finding the files of types
use Rattle.std.proofs.Common.{◌≡◌, ℕ, zero, suc, ◌<◌, ◌≤◌, ◌+◌, ◌-◌, ◌==◌, Bool, true, false, ◌&&◌, List, [], ◌∷◌, ◌++◌, length, get_or, drop, take, Option, Some, None, cond, refl, sym, ap, ◌∙◌, subst, arith, All, inl, inr}
use Rattle.std.specs.Prelude.{is_none}
use Rattle.std.specs.BTreeMap.{BTreeMap, get, Updates}
use Rattle.std.specs.List.{AllZip, find, position_from}
use Rattle.std.specs.Ordering.{ordering_then, is_eq, nat_cmp}
use Rattle.std.specs.declared.cmp.Ordering.{Ordering}
use Rattle.std.specs.declared.cmp.Ordering.TheVariants.{Less, Equal, Greater}
use Rattle.std.specs.Cmp.Lexicographic.{slice_cmp}
use Rattle.std.specs.Cmp.{unsigned_ties}
use Rattle.std.proofs.lemmas.Map.Text.{is_eq-slice_cmp}
use Rattle.std.proofs.lemmas.Bool.{false≢true}
use Rattle.std.proofs.lemmas.List.{drop_more, drop_all, length-append, get_or_at}
use Rattle.std.proofs.lemmas.List.Elements.{All-from_get_or}
use Rattle.dsdl_names.specs.declared.TypeId.{TypeId}
use Rattle.dsdl_names.specs.Types.{type_order}
use Rattle.dsdl_links.specs.declared.source.Mention.{Mention}
use Rattle.dsdl_links.specs.declared.source.Source.{Source}
use Rattle.dsdl_links.specs.declared.error.LinkError.{LinkError}
use Rattle.dsdl_links.specs.declared.error.LinkError.TheVariants as link
use Rattle.dsdl_links.specs.Answers.{IsLinkError}
use Rattle.dsdl_links.specs.Places.{LinksAt, IsMissingAt}
use Rattle.dsdl_links.specs.Links.{defines, file_of, Means, AreLinksOf, AreLinks, is_missing, missing_in, IsUnresolved}
use Rattle.dsdl_links.specs.Order.{is_among, links_at, AreWithin}

-- ---- the map
both_equal : (o p : Ordering) → is_eq (ordering_then o p) ≡ (is_eq o && is_eq p)
both_equal Less p = refl
both_equal Equal p = refl
both_equal Greater p = refl

ties : (file : Source) (id : TypeId) → is_eq (type_order file.id id) ≡ defines id file
ties file id =
    both_equal (slice_cmp nat_cmp file.id.name id.name) (ordering_then (nat_cmp file.id.major id.major) (nat_cmp file.id.minor id.minor))
    ∙ ap (λ b. b && is_eq (ordering_then (nat_cmp file.id.major id.major) (nat_cmp file.id.minor id.minor))) (is_eq-slice_cmp file.id.name id.name)
    ∙ ap (λ b. Rattle.std.specs.Str.bytes_eq file.id.name id.name && b)
    (both_equal (nat_cmp file.id.major id.major) (nat_cmp file.id.minor id.minor)
    ∙ ap (λ b. b && is_eq (nat_cmp file.id.minor id.minor)) (sym (unsigned_ties file.id.major id.major))
    ∙ ap (λ b. (file.id.major == id.major) && b) (sym (unsigned_ties file.id.minor id.minor)))

-- the map has the files from i on
pub PlacedFrom : List Source → ℕ → BTreeMap TypeId ℕ → Type 0
PlacedFrom files i places = (id : TypeId) → get type_order places id ≡ position_from (defines id) i (drop i files)

pub place_more : (files : List Source) (i : ℕ) (file : Source) (places more : BTreeMap TypeId ℕ) → PlacedFrom files (i + 1) places → i < length files → file ≡ get_or files i file →
    Updates type_order places more file.id (Some i) → PlacedFrom files i more
unfolding PlacedFrom
place_more files i file places more placed lt is u id =
    let front : drop i files ≡ file ∷ drop (i + 1) files = drop_more files i file lt ∙ ap (λ f. f ∷ drop (i + 1) files) (sym is) in
    u.0 id ∙ ap (λ b. cond b (Some i) (get type_order places id)) (ties file id) ∙ ap (λ o. cond (defines id file) (Some i) o) (placed id) ∙ ap (position_from (defines id) i) (sym front)

pub place_none : (files : List Source) (i : ℕ) (places : BTreeMap TypeId ℕ) → places.entries ≡ [] → length files ≤ i → PlacedFrom files i places
unfolding PlacedFrom
place_none files i places none le id = ap (Rattle.std.specs.Map.lookup (λ k. is_eq (type_order id k))) none ∙ ap (position_from (defines id) i) (sym (drop_all i files le))

pub placed_all : (files : List Source) (places : BTreeMap TypeId ℕ) → PlacedFrom files 0 places → (id : TypeId) → get type_order places id ≡ file_of files id
unfolding PlacedFrom
placed_all files places h = h

-- ---- the links of a file
pub zip_push : {A B : Type 0} (R : A → B → Type 0) (xs : List A) (ys : List B) (x : A) (y : B) → AllZip R xs ys → R x y → AllZip R (xs ++ x ∷ []) (ys ++ y ∷ [])
zip_push R [] [] x y h r = (r, tt)
zip_push R [] (b ∷ ys) x y h r = absurd h
zip_push R (a ∷ xs) [] x y h r = absurd h
zip_push R (a ∷ xs) (b ∷ ys) x y h r = (h.0, zip_push R xs ys x y h.1 r)

none_is : (o : Option ℕ) (j : ℕ) → o ≡ Some j → is_none o ≡ false
none_is o j h = ap is_none h

no_missing : (files : List Source) (ms : List Mention) (links : List ℕ) → AllZip (Means files) ms links → find (is_missing files) ms ≡ None
no_missing files [] [] h = refl
no_missing files [] (j ∷ links) h = absurd h
no_missing files (m ∷ ms) [] h = absurd h
no_missing files (m ∷ ms) (j ∷ links) h = ap (λ b. cond b (Some m) (find (is_missing files) ms)) (none_is (file_of files m.id) j h.0) ∙ no_missing files ms links h.1

find_first : (files : List Source) (front back : List Mention) (m : Mention) (links : List ℕ) → AllZip (Means files) front links → file_of files m.id ≡ None → find (is_missing files) (front ++ m ∷ back) ≡ Some m
find_first files [] back m [] h e = ap (λ o. cond (is_none o) (Some m) (find (is_missing files) back)) e
find_first files [] back m (j ∷ links) h e = absurd h
find_first files (n ∷ front) back m [] h e = absurd h
find_first files (n ∷ front) back m (j ∷ links) h e = ap (λ b. cond b (Some n) (find (is_missing files) (front ++ m ∷ back))) (none_is (file_of files n.id) j h.0) ∙ find_first files front back m links h.1 e

at_split : {A : Type 0} (xs : List A) (i : ℕ) (x : A) → i < length xs → x ≡ get_or xs i x → xs ≡ take i xs ++ x ∷ drop (i + 1) xs
at_split xs i x lt is = sym (Rattle.std.proofs.lemmas.List.take-append-drop i xs) ∙ ap (λ l. take i xs ++ l) (drop_more xs i x lt ∙ ap (λ y. y ∷ drop (i + 1) xs) (sym is))

pub first_missing : (files : List Source) (ms : List Mention) (i : ℕ) (m : Mention) (links : List ℕ) → AllZip (Means files) (take i ms) links → i < length ms → m ≡ get_or ms i m → file_of files m.id ≡ None →
    find (is_missing files) ms ≡ Some m
first_missing files ms i m links h lt is e = ap (find (is_missing files)) (at_split ms i m lt is) ∙ find_first files (take i ms) (drop (i + 1) ms) m links h e

-- ---- the links of all files
pub all_found : (files fs : List Source) (links : List (List ℕ)) → AllZip (AreLinksOf files) fs links → All (λ f. missing_in files f ≡ None) fs
all_found files [] links h = λ k d lt. absurd (omega arith)
all_found files (f ∷ fs) [] h = absurd h
all_found files (f ∷ fs) (l ∷ links) h = Rattle.std.proofs.lemmas.List.Elements.All-cons (λ f. missing_in files f ≡ None) f fs (no_missing files f.mentions l h.0) (all_found files fs links h.1)

pub unresolved : (files : List Source) (i : ℕ) (links : List (List ℕ)) (f : Source) (line : ℕ) (id : TypeId) → AllZip (AreLinksOf files) (take i files) links → i < length files → f ≡ get_or files i f →
    missing_in files f ≡ Some (record { line = line; id = id }) → IsUnresolved files i line id
unresolved files i links f line id h lt is m = record {
  before = take i files;
  at = f;
  behind = drop (i + 1) files;
  parts = at_split files i f lt is;
  place = sym (Rattle.std.proofs.lemmas.List.length-take-le i files (omega arith));
  missing = m;
  earlier = all_found files (take i files) links h;
}

position_within : (p : Source → Bool) (i : ℕ) (fs : List Source) (j : ℕ) → position_from p i fs ≡ Some j → j < i + length fs
position_within p i [] j h = absurd (cc)
position_within p i (f ∷ fs) j h = at (p f) refl (position_within p (i + 1) fs j)
  where
    at : (b : Bool) → p f ≡ b → (position_from p (i + 1) fs ≡ Some j → j < (i + 1) + length fs) → j < i + length (f ∷ fs)
    at true e behind = let s : Some i ≡ Some j = ap (λ b. cond b (Some i) (position_from p (i + 1) fs)) (sym e) ∙ h in let same : i ≡ j = cc in omega arith
    at false e behind = let lt = behind (ap (λ b. cond b (Some i) (position_from p (i + 1) fs)) (sym e) ∙ h) in omega arith

means_within : (files : List Source) (ms : List Mention) (links : List ℕ) → AllZip (Means files) ms links → (j : ℕ) → is_among links j ≡ true → j < length files
means_within files [] [] h j a = absurd (false≢true a)
means_within files [] (l ∷ links) h j a = absurd h
means_within files (m ∷ ms) [] h j a = absurd h
means_within files (m ∷ ms) (l ∷ links) h j a = elim (Rattle.std.proofs.lemmas.Bool.or_cases (j == l) (is_among links j) a) [
  | inl e ↦ subst (λ n. n < length files) (sym (Rattle.std.proofs.lemmas.Bool.eqb-true j l e)) (let lt : l < 0 + length files = position_within (defines m.id) 0 files l h.0 in omega arith)
  | inr e ↦ means_within files ms links h.1 j e
]

all_within : (files fs : List Source) (links : List (List ℕ)) → AllZip (AreLinksOf files) fs links → (i j : ℕ) → is_among (links_at links i) j ≡ true → j < length files
all_within files [] [] h i j a = absurd (false≢true (Rattle.std.proofs.Common.sym refl ∙ a))
all_within files [] (l ∷ links) h i j a = absurd h
all_within files (f ∷ fs) [] h i j a = absurd h
all_within files (f ∷ fs) (l ∷ links) h zero j a = means_within files f.mentions l h.0 j a
all_within files (f ∷ fs) (l ∷ links) h (suc i) j a = all_within files fs links h.1 i j a

same_length : (files fs : List Source) (links : List (List ℕ)) → AllZip (AreLinksOf files) fs links → length links ≡ length fs
same_length files [] [] h = refl
same_length files [] (l ∷ links) h = absurd h
same_length files (f ∷ fs) [] h = absurd h
same_length files (f ∷ fs) (l ∷ links) h = ap (λ n. suc n) (same_length files fs links h.1)

pub links_within : (files : List Source) (links : List (List ℕ)) → AreLinks files links → AreWithin links
links_within files links h i j a = subst (λ n. j < n) (sym (same_length files files links h)) (all_within files files links h i j a)

some_file : (files : List Source) → 0 < length files → Source
some_file [] lt = absurd (omega arith)
some_file (f ∷ fs) lt = f

-- what the links of a file fail for is what all fail for
pub link_error : (files : List Source) (i : ℕ) (links : List (List ℕ)) (e : LinkError) → AllZip (AreLinksOf files) (take i files) links → i < length files → IsMissingAt files i e → IsLinkError files e
link_error files i links (link.Unresolved place line id) h lt m =
    let d = some_file files (omega arith) in
    subst (λ n. IsUnresolved files n line id) (sym m.0)
    (unresolved files i links (get_or files i d) line id h lt (Rattle.std.proofs.lemmas.List.get_or_default files i d (get_or files i d) lt) (m.1 d))
link_error files i links link.NoMemory h lt m = tt

pub links_more : (files : List Source) (i : ℕ) (links : List (List ℕ)) (ls : List ℕ) → AllZip (AreLinksOf files) (take i files) links → i < length files → LinksAt files i ls →
    AllZip (AreLinksOf files) (take (i + 1) files) (links ++ ls ∷ [])
links_more files i links ls h lt l =
    let d = some_file files (omega arith) in
    subst (λ fs. AllZip (AreLinksOf files) fs (links ++ ls ∷ [])) (sym (Rattle.std.proofs.lemmas.List.take_more files i d lt))
    (zip_push (AreLinksOf files) (take i files) links (get_or files i d) ls h (l d))

pub links_all : (files : List Source) (i : ℕ) (links : List (List ℕ)) → AllZip (AreLinksOf files) (take i files) links → length files ≤ i → AreLinks files links
links_all files i links h le = subst (λ fs. AllZip (AreLinksOf files) fs links) (Rattle.std.proofs.lemmas.List.take_all i files le) h
