-- The names of a folder's members.
use Rattle.std.proofs.Common.{◌≡◌, ◌∙◌, inl, inr, ℕ, ◌<◌, ◌≤◌, Bool, true, false, ◌&&◌, ◌||◌, List, [], ◌∷◌, Option, Some, None, refl, sym, ap, subst, length, get_or, map, arith}
use Rattle.std.specs.Prelude.{◌^◌, nat_le, is_some, option_map}
use Rattle.std.specs.List.{list_all, list_any, filter, filter_map, cons_option}
use Rattle.std.specs.Ordering.{eq_by_cmp}
use Rattle.std.specs.FinMap as finite
use Rattle.std.proofs.lemmas.Bool.{true≢false, cases_lt}
use Rattle.std.proofs.lemmas.Grind.{common_steps}
use Rattle.std.proofs.lemmas.List.{get_or_default, get_or_past}
use Rattle.std.proofs.lemmas.List.Folds.{Any-from_list_any, list_any_at}
use Rattle.std.proofs.lemmas.List.Elements.{All-contains, All-nil}
use Rattle.cy_outside.specs.Files.{Files, rest_in, is_folder, is_file, first_name, member_of, IsMember, ListsMembers}
use Rattle.cy_outside.specs.declared.tree.Entry.{Entry}
use Rattle.file_service.specs.Names.{by_bytes, is_listed, listed, member_names, names_of, name_at}
use Rattle.std_types.specs.Held.{HoldsBytes}
use Rattle.file_service.specs.Paths.{is_printable}
use Rattle.file_service.specs.Laws.{IsListedName, FolderLaws, NameLaws}
use Rattle.file_service.proofs.Places.{not_both, and_left, and_right, and_both, all_of, printable_bounds}
use Rattle.file_service.proofs.Sorted.{Has, same_name, name_itself, same_ascending, has_filtered, has_listed, ascending_rises, no_names}

same_bool : (a b : Bool) → (a ≡ true → b ≡ true) → (b ≡ true → a ≡ true) → a ≡ b
same_bool true b f g = sym (f refl)
same_bool false true f g = g refl
same_bool false false f g = refl

-- ---- tests of the paths of files

key_passes : (p : List ℕ → Bool) (files : Files) (file : List ℕ) → is_file files file ≡ true → p file ≡ true → list_any p (finite.keys files) ≡ true
key_passes p files file e t =
    let found = Any-from_list_any (eq_by_cmp by_bytes file) (finite.keys files) (sym (finite.contains_key-keys files file) ∙ e) in
    list_any_at p (finite.keys files) found.0 found.1 found.2 (ap p (found.3 ∙ sym (same_name file found.1 found.4)) ∙ t)

-- a file whose path passes a test
record Passes (p : List ℕ → Bool) (files : Files) : Type 0 where
  file : List ℕ
  stands : is_file files file ≡ true
  test : p file ≡ true

passing_key : (p : List ℕ → Bool) (files : Files) → list_any p (finite.keys files) ≡ true → Passes p files
passing_key p files e =
    let found = Any-from_list_any p (finite.keys files) e in
    record {
      file = found.1;
      stands = finite.contains_key-keys files found.1
          ∙ list_any_at (eq_by_cmp by_bytes found.1) (finite.keys files) found.0 found.1 found.2 (name_itself found.1 _ (sym found.3));
      test = found.4;
    }

-- ---- the names of members

passes : (List ℕ → Bool) → Option (List ℕ) → Bool
passes t None = false
passes t (Some name) = t name

any_some : (t : List ℕ → Bool) (o : Option (List ℕ)) (names : List (List ℕ)) → list_any t (cons_option o names) ≡ (passes t o || list_any t names)
unfolding passes
any_some t None names = refl
any_some t (Some name) names = refl

any_named : (t : List ℕ → Bool) (f : List ℕ → Option (List ℕ)) (files : List (List ℕ)) → list_any t (filter_map f files) ≡ list_any (λ file. passes t (f file)) files
any_named t f [] = refl
any_named t f (file ∷ files) =
    any_some t (f file) (filter_map f files) ∙ ap (λ b. passes t (f file) || b) (any_named t f files)

any_entry : (t : List ℕ → Bool) (entries : List Entry) → list_any t (map (λ (e : Entry). e.name) entries) ≡ list_any (λ (e : Entry). t e.name) entries
any_entry t [] = refl
any_entry t (e ∷ entries) = ap (λ b. t e.name || b) (any_entry t entries)

-- the member whose name passes
record Named (t : List ℕ → Bool) (o : Option Entry) : Type 0 where
  member : Entry
  is : o ≡ Some member
  test : t member.name ≡ true

named : (t : List ℕ → Bool) (o : Option Entry) → passes t (option_map (λ (m : Entry). m.name) o) ≡ true → Named t o
unfolding passes
named t None e = absurd (true≢false (sym e))
named t (Some m) e = record { member = m; is = refl; test = e }

name_passes : (t : List ℕ → Bool) (m : Entry) → t m.name ≡ true → passes t (Some m.name) ≡ true
unfolding passes
name_passes t m e = e

-- a member of a folder with this name
pub record HasMember (files : Files) (folder name : List ℕ) : Type 0 where
  pub member : Entry
  pub stands : IsMember files folder member
  pub named : member.name ≡ name

pub member_at : (files : Files) (folder q : List ℕ) → Has (member_names files folder) q ≡ true → HasMember files folder q
member_at files folder q e =
    let p = passing_key (λ file. passes (eq_by_cmp by_bytes q) (option_map (λ (m : Entry). m.name) (member_of folder file))) files
    (sym (any_named (eq_by_cmp by_bytes q) (λ file. option_map (λ (m : Entry). m.name) (member_of folder file)) (finite.keys files)) ∙ e) in
    let n = named (eq_by_cmp by_bytes q) (member_of folder p.file) p.test in
    record { member = n.member; stands = (p.file, p.stands, n.is); named = sym (same_name q n.member.name n.test) }

pub at_member : (files : Files) (folder : List ℕ) (m : Entry) → IsMember files folder m → Has (member_names files folder) m.name ≡ true
at_member files folder m s =
    any_named (eq_by_cmp by_bytes m.name) (λ file. option_map (λ (e : Entry). e.name) (member_of folder file)) (finite.keys files)
    ∙ key_passes (λ file. passes (eq_by_cmp by_bytes m.name) (option_map (λ (e : Entry). e.name) (member_of folder file))) files s.0 s.1
    (ap (λ o. passes (eq_by_cmp by_bytes m.name) (option_map (λ (e : Entry). e.name) o)) s.2
    ∙ name_passes (eq_by_cmp by_bytes m.name) m (name_itself m.name m.name refl))

-- ---- a listing

entry_member : (files : Files) (folder q : List ℕ) (entries : List Entry) → ListsMembers files folder entries
    → Has (map (λ (e : Entry). e.name) entries) q ≡ true → Has (member_names files folder) q ≡ true
entry_member files folder q entries lists e =
    let found = Any-from_list_any (λ (x : Entry). eq_by_cmp by_bytes q x.name) entries (sym (any_entry (eq_by_cmp by_bytes q) entries) ∙ e) in
    let m = found.1 in
    let stands : IsMember files folder m = All-contains (IsMember files folder) entries m lists.sound (found.0, found.2, found.3) in
    subst (λ n. Has (member_names files folder) n ≡ true) (sym (same_name q m.name found.4)) (at_member files folder m stands)

member_entry : (files : Files) (folder q : List ℕ) (entries : List Entry) → ListsMembers files folder entries
    → Has (member_names files folder) q ≡ true → Has (map (λ (e : Entry). e.name) entries) q ≡ true
member_entry files folder q entries lists e =
    let h = member_at files folder q e in
    let c = lists.complete h.member h.stands in
    any_entry (eq_by_cmp by_bytes q) entries
    ∙ list_any_at (λ (x : Entry). eq_by_cmp by_bytes q x.name) entries c.0 h.member c.1
    (ap (λ (x : Entry). eq_by_cmp by_bytes q x.name) c.2 ∙ name_itself q h.member.name (sym h.named))

-- the names of a folder's listing are those of its members
pub listed_members : (files : Files) (folder : List ℕ) (entries : List Entry) → ListsMembers files folder entries
    → listed (map (λ (e : Entry). e.name) entries) ≡ names_of files folder
listed_members files folder entries lists =
    same_ascending _ _ (λ q. has_filtered (map (λ (e : Entry). e.name) entries) q
    ∙ ap (λ b. is_listed q && b) (same_bool _ _ (entry_member files folder q entries lists) (member_entry files folder q entries lists))
    ∙ sym (has_filtered (member_names files folder) q))

some_rest : (folder file : List ℕ) (o : Option (List ℕ)) (m : Entry) → option_map first_name o ≡ Some m → is_some o ≡ true
some_rest folder file None m e = cc
some_rest folder file (Some rest) m e = refl

pub no_folder : (files : Files) (folder : List ℕ) → is_folder files folder ≡ false → names_of files folder ≡ []
no_folder files folder e = no_names (member_names files folder) (λ q h.
    let m = member_at files folder q h in
    not_both (is_folder files folder)
    (key_passes (λ file. is_some (rest_in folder file)) files m.stands.0 m.stands.1 (some_rest folder m.stands.0 (rest_in folder m.stands.0) m.member m.stands.2)) e)

-- ---- by number

named_at : (files : Files) (folder : List ℕ) (i : ℕ) → i < length (names_of files folder) → IsListedName files folder (name_at (names_of files folder) i)
named_at files folder i l =
    let names = names_of files folder in
    let q = get_or names i [] in
    let both : (is_listed q && Has (member_names files folder) q) ≡ true =
    sym (has_listed (member_names files folder) q) ∙ list_any_at (eq_by_cmp by_bytes q) names i [] l (name_itself q q refl) in
    let h = member_at files folder q (and_right (is_listed q) (Has (member_names files folder) q) both) in
    record { listed = and_left (is_listed q) (Has (member_names files folder) q) both; member = h.member; stands = h.stands; named = h.named }

at_name : (files : Files) (folder name : List ℕ) → IsListedName files folder name
    → (i : ℕ) × (i < length (names_of files folder)) × (name_at (names_of files folder) i ≡ name)
at_name files folder name s =
    let names = names_of files folder in
    let has : Has (member_names files folder) name ≡ true = subst (λ n. Has (member_names files folder) n ≡ true) s.named (at_member files folder s.member s.stands) in
    let found = Any-from_list_any (eq_by_cmp by_bytes name) names (has_listed (member_names files folder) name ∙ and_both (is_listed name) (Has (member_names files folder) name) s.listed has) in
    (found.0, found.2, get_or_default names found.0 [] found.1 found.2 ∙ found.3 ∙ sym (same_name name found.1 found.4))

is_listed_at : (names : List (List ℕ)) (i : ℕ) → i < length (listed names) → is_listed (name_at (listed names) i) ≡ true
is_listed_at names i l =
    let q = get_or (listed names) i [] in
    and_left (is_listed q) (Has names q)
    (sym (has_listed names q) ∙ list_any_at (eq_by_cmp by_bytes q) (listed names) i [] l (name_itself q q refl))

pub name_laws : (names : List (List ℕ)) → NameLaws names
name_laws names = record {
  rises = λ i j h l. ascending_rises (filter is_listed names) i j h l;
  each = is_listed_at names;
  past = λ i l. get_or_past (listed names) i [] l;
}

pub folder_laws : (files : Files) (folder : List ℕ) → FolderLaws files folder
folder_laws files folder = record {
  in_order = name_laws (member_names files folder);
  sound = named_at files folder;
  complete = at_name files folder;
  no_folder = no_folder files folder;
}

-- ---- a name that is listed fits its type

le_of : (a b : ℕ) → nat_le a b ≡ true → a ≤ b
le_of a b e = grind (arith, common_steps)

small : (b : ℕ) → is_printable b ≡ true → b < 2 ^ 8
small b e = let h = (printable_bounds b e).1 in omega (arith, h)

short_name : (name : List ℕ) → is_listed name ≡ true → HoldsBytes 255 name
short_name name e = (
  le_of (length name) 255 (and_left (nat_le (length name) 255) (list_all is_printable name) e),
  all_of is_printable (λ b. b < 2 ^ 8) (λ b p. small b p) name (and_right (nat_le (length name) 255) (list_all is_printable name) e),
)

pub name_fits : (names : List (List ℕ)) (i : ℕ) → HoldsBytes 255 (name_at (listed names) i)
name_fits names i = elim (cases_lt i (length (listed names))) [
  | inl l ↦ short_name (get_or (listed names) i []) (is_listed_at names i l)
  | inr g ↦ subst (HoldsBytes 255) (sym (get_or_past (listed names) i [] g)) (omega arith, All-nil (λ b. b < 2 ^ 8))
]
