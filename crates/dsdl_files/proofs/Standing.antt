-- What stands while folders are listed: which are still to be listed, and which files were found.
use Rattle.std.proofs.Common.{◌≡◌, ◌∙◌, ◌⊎◌, inl, inr, ℕ, ◌+◌, ◌-◌, ◌<◌, ◌≤◌, Bool, true, false, cond, ◌||◌, ◌&&◌, not, List, [], ◌∷◌, ◌++◌, Some, None, refl, sym, ap, subst, map, length, arith}
use Rattle.std.proofs.lemmas.Grind.{common_steps}
use Rattle.std.proofs.lemmas.Bool.{lt-ltb, le-ltb}
use Rattle.std.proofs.lemmas.List.Elements.{All-contains}
use Rattle.std.proofs.lemmas.List.Kept.{IsStrictlySortedBy-filter}
use Rattle.std.specs.List.{list_any, filter, flat_map}
use Rattle.std.specs.Str.{bytes_eq}
use Rattle.std.specs.FinMap.{keys}
use Rattle.cy_outside.specs.declared.tree.Entry.{Entry}
use Rattle.cy_outside.specs.Files.{Files, first_name, is_folder, IsMember, ListsMembers}
use Rattle.dsdl_files.specs.Order.{by_bytes, IsAscending, alone}
use Rattle.dsdl_files.specs.Folders.{is_dsdl, is_below, is_at_or_below, name_below, dsdl_paths, folders_of, all_folders, folders, member_count, counted, first_past}
use Rattle.dsdl_files.specs.Steps.{Adds, is_subfolder, is_dsdl_member}
use Rattle.dsdl_files.proofs.Members.{In, true_or_false, any_in, in_any, or_left, or_right, or_cases, and_left, and_right, and_both, same_path, path_itself, any_path, path_any, in_filter, filter_in, in_contains, contains_in}
use Rattle.dsdl_files.proofs.Ordered.{Before, before_itself, before_both, before_then, same_ascending}
use Rattle.dsdl_files.proofs.Below.{Under, under, below, under_under, at_or_under, at, or_below, before_under}
use Rattle.dsdl_files.proofs.FolderFacts.{folder_in, in_folder, is_folder_of, keys_ascend, files_ascend}
use Rattle.dsdl_files.proofs.MemberFacts.{member, over, in_subfolder, at_file, file_over, folder_over, count_of}
use Rattle.dsdl_files.proofs.Heads.{filter_same, Splits, filter_head}

-- a folder is at or below one of these
abbrev pub is_ahead : List (List ℕ) → List ℕ → Bool
is_ahead pending path = list_any (λ folder. is_at_or_below folder path) pending

-- the folders that will still be listed
abbrev pub ahead : Files → List (List ℕ) → List (List ℕ)
ahead files pending = filter (is_ahead pending) (all_folders files)

-- a path is below one of these folders
pub record Covered (pending : List (List ℕ)) (path : List ℕ) : Type 0 where
  pub folder : List ℕ
  pub pends : In folder pending
  pub under : Under folder path

pub record Stands (files : Files) (root : List ℕ) (most room : ℕ) (pending found : List (List ℕ)) : Type 0 where
  pub rest : first_past room (counted files root (ahead files pending)) ≡ first_past most (counted files root (folders files root))
  pub within : (p : List ℕ) → In p pending → is_at_or_below root p ≡ true
  pub all : (p : List ℕ) → In p pending → In p (all_folders files)
  pub sound : (p : List ℕ) → In p found → In p (dsdl_paths files root)
  pub complete : (p : List ℕ) → In p (dsdl_paths files root) → In p found ⊎ Covered pending p

or_false : (b : Bool) → (b || false) ≡ b
or_false true = refl
or_false false = refl

-- ---- at the start

pub start : (files : Files) (root : List ℕ) (most : ℕ) → is_folder files root ≡ true → Stands files root most most (root ∷ []) []
start files root most e = record {
  rest = ap (λ fs. first_past most (counted files root fs))
      (filter_same (is_ahead (root ∷ [])) (is_at_or_below root) (all_folders files) (λ p i. or_false (is_at_or_below root p)));
  within = λ p i. elim i [ inl h ↦ at root p h | inr n ↦ absurd n ];
  all = λ p i. elim i [ inl h ↦ subst (λ q. In q (all_folders files)) (sym h) (folder_in files root e) | inr n ↦ absurd n ];
  sound = λ p i. absurd i;
  complete = λ p i.
      let s = filter_in (λ path. is_below root path && is_dsdl path) (keys files) p i in
      inr (record { folder = root; pends = inl refl; under = under root p (and_left (is_below root p) (is_dsdl p) s.1) });
}

-- ---- the folder that is listed next

folders_ascend : (files : Files) → IsAscending (all_folders files)
folders_ascend files = keys_ascend (map alone (flat_map folders_of (keys files)))

-- all folders ahead, where `rest` is the test of those behind the least
next : (files : Files) (h : List ℕ) (pending : List (List ℕ)) (rest : List ℕ → Bool) → In h (all_folders files) → Splits h (is_ahead (h ∷ pending)) rest (all_folders files)
    → ahead files (h ∷ pending) ≡ h ∷ filter rest (all_folders files)
next files h pending rest i s = filter_head h (is_ahead (h ∷ pending)) rest (all_folders files) (folders_ascend files) i s

ahead_itself : (h : List ℕ) (pending : List (List ℕ)) → is_ahead (h ∷ pending) h ≡ true
ahead_itself h pending = or_left (is_at_or_below h h) (is_ahead pending h) (at h h refl)

from_least : (h x : List ℕ) (pending : List (List ℕ)) → ((o : List ℕ) → In o pending → Before h o) → is_ahead (h ∷ pending) x ≡ true → (x ≡ h) ⊎ Before h x
from_least h x pending least e = elim (or_cases (is_at_or_below h x) (is_ahead pending x) e) [
  | inl a ↦ elim (at_or_under h x a) [ inl s ↦ inl s | inr u ↦ inr (before_under h x u) ]
  | inr t ↦
      let r = any_in (λ folder. is_at_or_below folder x) pending t in
      let before : Before h r.0 = least r.0 r.1 in
      inr (elim (at_or_under r.0 x r.2) [
        | inl s ↦ subst (Before h) (sym s) before
        | inr u ↦ before_then h r.0 x before (before_under r.0 x u)
      ])
]

-- ---- no room

abbrev others : List ℕ → List (List ℕ) → List ℕ → Bool
others h pending x = is_ahead (h ∷ pending) x && not (bytes_eq h x)

not_itself : (b : Bool) → b ≡ true → not b ≡ false
not_itself b e = ap not e

differs : (h x : List ℕ) → Before h x → not (bytes_eq h x) ≡ true
differs h x l = elim (true_or_false (bytes_eq h x)) as (λ _. not (bytes_eq h x) ≡ true) [
  | inl e ↦ before_itself h x (same_path h x e) l
  | inr f ↦ ap not f
]

and_false : (a b : Bool) → b ≡ false → (a && b) ≡ false
and_false true b e = e
and_false false b e = refl

splits_others : (files : Files) (h : List ℕ) (pending : List (List ℕ)) → ((o : List ℕ) → In o pending → Before h o)
    → Splits h (is_ahead (h ∷ pending)) (others h pending) (all_folders files)
splits_others files h pending least = record {
  first = ahead_itself h pending;
  none = and_false (is_ahead (h ∷ pending) h) (not (bytes_eq h h)) (not_itself (bytes_eq h h) (path_itself h h refl));
  least = λ x i e. from_least h x pending least e;
  keeps = λ x i e l. and_both (is_ahead (h ∷ pending) x) (not (bytes_eq h x)) e (differs h x l);
  within = λ x i e. and_left (is_ahead (h ∷ pending) x) (not (bytes_eq h x)) e;
}

past : (room n : ℕ) (name : List ℕ) (rest : List (List ℕ × ℕ)) → room < n → first_past room ((name, n) ∷ rest) ≡ Some name
past room n name rest l = ap (λ b. cond b (Some name) (first_past (room - n) rest)) (lt-ltb room n l)

pub refuse : (files : Files) (root h : List ℕ) (most room : ℕ) (pending found : List (List ℕ)) (members : List Entry) → Stands files root most room (h ∷ pending) found
    → ((o : List ℕ) → In o pending → Before h o) → ListsMembers files h members → room < length members
    → first_past most (counted files root (folders files root)) ≡ Some (name_below root h)
refuse files root h most room pending found members s least lists l =
    let fits : room < member_count files h = subst (λ n. room < n) (count_of files h members lists) l in
    sym s.rest
    ∙ ap (λ fs. first_past room (counted files root fs)) (next files h pending (others h pending) (s.all h (inl refl)) (splits_others files h pending least))
    ∙ past room (member_count files h) (name_below root h) (counted files root (filter (others h pending) (all_folders files))) fits

-- ---- room for the members

new_folder : (h o : List ℕ) (pending new : List (List ℕ)) (members : List Entry) → Adds (is_subfolder h) members pending new → In o new
    → In o pending ⊎ ((m : Entry) × (In m members) × (m.folder ≡ true) × (o ≡ h ++ 47 ∷ m.name))
new_folder h o pending new members adds i = elim (or_cases (list_any (is_subfolder h o) members) (list_any (bytes_eq o) pending) (sym (adds o) ∙ path_any o new i)) [
  | inl t ↦
      let r = any_in (is_subfolder h o) members t in
      inr (r.0, r.1, and_left r.0.folder (bytes_eq (h ++ 47 ∷ r.0.name) o) r.2, sym (same_path (h ++ 47 ∷ r.0.name) o (and_right r.0.folder (bytes_eq (h ++ 47 ∷ r.0.name) o) r.2)))
  | inr t ↦ inl (any_path o pending t)
]

old_stays : (test : List ℕ → Entry → Bool) (o : List ℕ) (old new : List (List ℕ)) (members : List Entry) → Adds test members old new → In o old → In o new
old_stays test o old new members adds i =
    any_path o new (adds o ∙ or_right (list_any (test o) members) (list_any (bytes_eq o) old) (path_any o old i))

folder_added : (h : List ℕ) (m : Entry) (pending new : List (List ℕ)) (members : List Entry) → Adds (is_subfolder h) members pending new → In m members → m.folder ≡ true
    → In (h ++ 47 ∷ m.name) new
folder_added h m pending new members adds i f =
    let o = h ++ 47 ∷ m.name in
    any_path o new (adds o ∙ or_left (list_any (is_subfolder h o) members) (list_any (bytes_eq o) pending)
    (in_any (is_subfolder h o) members m i (and_both m.folder (bytes_eq o o) f (path_itself o o refl))))

file_added : (h : List ℕ) (m : Entry) (found new : List (List ℕ)) (members : List Entry) → Adds (is_dsdl_member h) members found new → In m members → m.folder ≡ false
    → is_dsdl (h ++ 47 ∷ m.name) ≡ true → In (h ++ 47 ∷ m.name) new
file_added h m found new members adds i f d =
    let o = h ++ 47 ∷ m.name in
    any_path o new (adds o ∙ or_left (list_any (is_dsdl_member h o) members) (list_any (bytes_eq o) found)
    (in_any (is_dsdl_member h o) members m i
    (and_both (not m.folder) (is_dsdl o && bytes_eq o o) (ap not f) (and_both (is_dsdl o) (bytes_eq o o) d (path_itself o o refl)))))

not_true : (b : Bool) → not b ≡ true → b ≡ false
not_true true e = sym e
not_true false e = refl

new_file : (h o : List ℕ) (found new : List (List ℕ)) (members : List Entry) → Adds (is_dsdl_member h) members found new → In o new
    → In o found ⊎ ((m : Entry) × (In m members) × (m.folder ≡ false) × (is_dsdl o ≡ true) × (o ≡ h ++ 47 ∷ m.name))
new_file h o found new members adds i = elim (or_cases (list_any (is_dsdl_member h o) members) (list_any (bytes_eq o) found) (sym (adds o) ∙ path_any o new i)) [
  | inl t ↦
      let r = any_in (is_dsdl_member h o) members t in
      let at = h ++ 47 ∷ r.0.name in
      let both = and_right (not r.0.folder) (is_dsdl at && bytes_eq at o) r.2 in
      let same : at ≡ o = same_path at o (and_right (is_dsdl at) (bytes_eq at o) both) in
      inr (r.0, r.1, not_true r.0.folder (and_left (not r.0.folder) (is_dsdl at && bytes_eq at o) r.2), ap is_dsdl (sym same) ∙ and_left (is_dsdl at) (bytes_eq at o) both, sym same)
  | inr t ↦ inl (any_path o found t)
]

member_of_each : (files : Files) (h : List ℕ) (members : List Entry) (m : Entry) → ListsMembers files h members → In m members → IsMember files h m
member_of_each files h members m lists i = All-contains (λ (e : Entry). IsMember files h e) members m lists.sound (in_contains members m i)

later : (h o : List ℕ) (pending new : List (List ℕ)) (members : List Entry) → ((o : List ℕ) → In o pending → Before h o) → Adds (is_subfolder h) members pending new
    → In o new → Before h o
later h o pending new members least adds i = elim (new_folder h o pending new members adds i) [
  | inl t ↦ least o t
  | inr m ↦ before_under h o (record { rest = m.0.name; is = m.3 })
]

not_ahead : (h : List ℕ) (new : List (List ℕ)) → ((o : List ℕ) → In o new → Before h o) → is_ahead new h ≡ false
not_ahead h new after = elim (true_or_false (is_ahead new h)) [
  | inl t ↦
      let r = any_in (λ folder. is_at_or_below folder h) new t in
      let before : Before h r.0 = after r.0 r.1 in
      elim (at_or_under r.0 h r.2) [
        | inl s ↦ before_itself h r.0 s before
        | inr u ↦ before_both h r.0 before (before_under r.0 h u)
      ]
  | inr f ↦ f
]

over_ahead : (x o : List ℕ) (new : List (List ℕ)) → In o new → (x ≡ o) ⊎ Under o x → is_ahead new x ≡ true
over_ahead x o new i s = in_any (λ folder. is_at_or_below folder x) new o i (elim s [ inl e ↦ at o x e | inr u ↦ or_below o x u ])

keeps_ahead : (files : Files) (h x : List ℕ) (pending new : List (List ℕ)) (members : List Entry) → ListsMembers files h members → Adds (is_subfolder h) members pending new
    → In x (all_folders files) → Before h x → is_ahead (h ∷ pending) x ≡ true → is_ahead new x ≡ true
keeps_ahead files h x pending new members lists adds i before e = elim (or_cases (is_at_or_below h x) (is_ahead pending x) e) [
  | inl a ↦ elim (at_or_under h x a) [
    | inl s ↦ before_itself h x (sym s) before
    | inr u ↦
        let o = folder_over files h x (in_folder files x i) u in
        over_ahead x (h ++ 47 ∷ o.entry.name) new
        (folder_added h o.entry pending new members adds (contains_in members o.entry (lists.complete o.entry o.member)) o.kind) o.under
  ]
  | inr t ↦
      let r = any_in (λ folder. is_at_or_below folder x) pending t in
      in_any (λ folder. is_at_or_below folder x) new r.0 (old_stays (is_subfolder h) r.0 pending new members adds r.1) r.2
]

within_ahead : (h x : List ℕ) (pending new : List (List ℕ)) (members : List Entry) → Adds (is_subfolder h) members pending new → is_ahead new x ≡ true → is_ahead (h ∷ pending) x ≡ true
within_ahead h x pending new members adds e =
    let r = any_in (λ folder. is_at_or_below folder x) new e in
    elim (new_folder h r.0 pending new members adds r.1) [
      | inl t ↦ or_right (is_at_or_below h x) (is_ahead pending x) (in_any (λ folder. is_at_or_below folder x) pending r.0 t r.2)
      | inr m ↦
          let u : Under h r.0 = record { rest = m.0.name; is = m.3 } in
          or_left (is_at_or_below h x) (is_ahead pending x) (or_below h x (elim (at_or_under r.0 x r.2) [
            | inl s ↦ subst (Under h) (sym s) u
            | inr v ↦ under_under h r.0 x u v
          ]))
    ]

splits_new : (files : Files) (h : List ℕ) (pending new : List (List ℕ)) (members : List Entry) → ((o : List ℕ) → In o pending → Before h o) → ListsMembers files h members
    → Adds (is_subfolder h) members pending new → Splits h (is_ahead (h ∷ pending)) (is_ahead new) (all_folders files)
splits_new files h pending new members least lists adds = record {
  first = ahead_itself h pending;
  none = not_ahead h new (λ o i. later h o pending new members least adds i);
  least = λ x i e. from_least h x pending least e;
  keeps = λ x i e l. keeps_ahead files h x pending new members lists adds i l e;
  within = λ x i e. within_ahead h x pending new members adds e;
}

fits : (room left n : ℕ) (name : List ℕ) (rest : List (List ℕ × ℕ)) → left + n ≡ room → first_past room ((name, n) ∷ rest) ≡ first_past left rest
fits room left n name rest e =
    let within : n ≤ room = omega (arith, e) in
    let is : room - n ≡ left = omega (arith, e) in
    ap (λ b. cond b (Some name) (first_past (room - n) rest)) (le-ltb room n within) ∙ ap (λ k. first_past k rest) is

new_covers : (files : Files) (h p : List ℕ) (pending new found more : List (List ℕ)) (members : List Entry) → ListsMembers files h members
    → Adds (is_subfolder h) members pending new → Adds (is_dsdl_member h) members found more
    → In p (keys files) → is_dsdl p ≡ true → Covered (h ∷ pending) p → In p more ⊎ Covered new p
new_covers files h p pending new found more members lists folders_added files_added key d c = elim c.pends [
  | inl e ↦
      let u : Under h p = subst (λ f. Under f p) e c.under in
      let m = first_name u.rest in
      let there : In m members = contains_in members m (lists.complete m (over files h p key u)) in
      elim (file_over h p u) [
        | inl f ↦ inr (record { folder = h ++ 47 ∷ m.name; pends = folder_added h m pending new members folders_added there f.0; under = f.1 })
        | inr f ↦ inl (subst (λ q. In q more) (sym f.1) (file_added h m found more members files_added there f.0 (ap is_dsdl (sym f.1) ∙ d)))
      ]
  | inr t ↦ inr (record { folder = c.folder; pends = old_stays (is_subfolder h) c.folder pending new members folders_added t; under = c.under })
]

below_root : (root h o : List ℕ) → is_at_or_below root h ≡ true → Under h o → Under root o
below_root root h o e u = elim (at_or_under root h e) [ inl s ↦ subst (λ f. Under f o) s u | inr v ↦ under_under root h o v u ]

pub folders_within : (root h : List ℕ) (pending new : List (List ℕ)) (members : List Entry) → is_at_or_below root h ≡ true
    → ((p : List ℕ) → In p pending → is_at_or_below root p ≡ true) → Adds (is_subfolder h) members pending new
    → (p : List ℕ) → In p new → is_at_or_below root p ≡ true
folders_within root h pending new members top before adds p i = elim (new_folder h p pending new members adds i) [
  | inl t ↦ before p t
  | inr m ↦ or_below root p (below_root root h p top (record { rest = m.0.name; is = m.3 }))
]

pub files_below : (root h : List ℕ) (found new : List (List ℕ)) (members : List Entry) → is_at_or_below root h ≡ true
    → ((p : List ℕ) → In p found → is_below root p ≡ true) → Adds (is_dsdl_member h) members found new
    → (p : List ℕ) → In p new → is_below root p ≡ true
files_below root h found new members top before adds p i = elim (new_file h p found new members adds i) [
  | inl t ↦ before p t
  | inr m ↦ below root p (below_root root h p top (record { rest = m.0.name; is = m.4 }))
]

pub step : (files : Files) (root h : List ℕ) (most room left : ℕ) (pending new found more : List (List ℕ)) (members : List Entry)
    → Stands files root most room (h ∷ pending) found → ((o : List ℕ) → In o pending → Before h o) → ListsMembers files h members
    → left + length members ≡ room → Adds (is_subfolder h) members pending new → Adds (is_dsdl_member h) members found more
    → Stands files root most left new more
step files root h most room left pending new found more members s least lists count folders_added files_added =
    let enough : left + member_count files h ≡ room = ap (λ n. left + n) (sym (count_of files h members lists)) ∙ count in
    let top : is_at_or_below root h ≡ true = s.within h (inl refl) in
    record {
      rest = sym (fits room left (member_count files h) (name_below root h) (counted files root (ahead files new)) enough)
          ∙ ap (λ fs. first_past room (counted files root fs))
          (sym (next files h pending (is_ahead new) (s.all h (inl refl)) (splits_new files h pending new members least lists folders_added)))
          ∙ s.rest;
      within = folders_within root h pending new members top (λ p i. s.within p (inr i)) folders_added;
      all = λ p i. elim (new_folder h p pending new members folders_added i) [
        | inl t ↦ s.all p (inr t)
        | inr m ↦ subst (λ q. In q (all_folders files)) (sym m.3)
            (folder_in files (h ++ 47 ∷ m.0.name) (is_folder_of files (h ++ 47 ∷ m.0.name) (in_subfolder files h m.0 (member files h m.0 (member_of_each files h members m.0 lists m.1)) m.2)))
      ];
      sound = λ p i. elim (new_file h p found more members files_added i) [
        | inl t ↦ s.sound p t
        | inr m ↦ in_filter (λ path. is_below root path && is_dsdl path) (keys files) p
            (subst (λ q. In q (keys files)) (sym m.4) (at_file files h m.0 (member files h m.0 (member_of_each files h members m.0 lists m.1)) m.2))
            (and_both (is_below root p) (is_dsdl p) (below root p (below_root root h p top (record { rest = m.0.name; is = m.4 }))) m.3)
      ];
      complete = λ p i. elim (s.complete p i) [
        | inl t ↦ inl (old_stays (is_dsdl_member h) p found more members files_added t)
        | inr c ↦
            let d = filter_in (λ path. is_below root path && is_dsdl path) (keys files) p i in
            new_covers files h p pending new found more members lists folders_added files_added d.0 (and_right (is_below root p) (is_dsdl p) d.1) c
      ];
    }

-- ---- at the end

nothing_passes : (ps : List (List ℕ)) → filter (λ p. false) ps ≡ []
nothing_passes [] = refl
nothing_passes (p ∷ ps) = nothing_passes ps

pub none_past : (files : Files) (root : List ℕ) (most room : ℕ) (found : List (List ℕ)) → Stands files root most room [] found
    → first_past most (counted files root (folders files root)) ≡ None
none_past files root most room found s =
    sym s.rest ∙ ap (λ fs. first_past room (counted files root fs)) (nothing_passes (all_folders files))

pub all_found : (files : Files) (root : List ℕ) (most room : ℕ) (found : List (List ℕ)) → Stands files root most room [] found → IsAscending found
    → found ≡ dsdl_paths files root
all_found files root most room found s sorted =
    same_ascending found (dsdl_paths files root) sorted
    (IsStrictlySortedBy-filter by_bytes (λ path. is_below root path && is_dsdl path) (keys files) (files_ascend files))
    s.sound (λ p i. elim (s.complete p i) [ inl t ↦ t | inr c ↦ absurd c.pends ])

-- ---- how many folders will still be listed

pub ahead_start : (files : Files) (root : List ℕ) → ahead files (root ∷ []) ≡ folders files root
ahead_start files root = filter_same (is_ahead (root ∷ [])) (is_at_or_below root) (all_folders files) (λ p i. or_false (is_at_or_below root p))

pub ahead_next : (files : Files) (h : List ℕ) (pending new : List (List ℕ)) (members : List Entry) → In h (all_folders files)
    → ((o : List ℕ) → In o pending → Before h o) → ListsMembers files h members → Adds (is_subfolder h) members pending new
    → ahead files (h ∷ pending) ≡ h ∷ ahead files new
ahead_next files h pending new members i least lists adds =
    next files h pending (is_ahead new) i (splits_new files h pending new members least lists adds)

pub one_more_of : (h : List ℕ) (rest : List (List ℕ)) → length (h ∷ rest) ≡ length rest + 1
one_more_of h rest = grind (arith, common_steps)

some_more : (h : List ℕ) (rest : List (List ℕ)) → 1 ≤ length (h ∷ rest)
some_more h rest = omega (arith, one_more_of h rest)

pub ahead_some : (files : Files) (h : List ℕ) (pending : List (List ℕ)) → In h (all_folders files) → ((o : List ℕ) → In o pending → Before h o)
    → 1 ≤ length (ahead files (h ∷ pending))
ahead_some files h pending i least =
    let e : length (ahead files (h ∷ pending)) ≡ length (h ∷ filter (others h pending) (all_folders files)) =
    ap length (next files h pending (others h pending) i (splits_others files h pending least)) in
    subst (λ n. 1 ≤ n) (sym e) (some_more h (filter (others h pending) (all_folders files)))
