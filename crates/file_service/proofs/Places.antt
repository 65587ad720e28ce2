-- Where paths stand below a root.
use Rattle.std.proofs.Common.{◌≡◌, ◌≢◌, ◌∙◌, ◌⊎◌, inl, inr, ℕ, ◌≤◌, Bool, true, false, cond, not, ◌&&◌, ◌||◌, List, [], ◌∷◌, ◌++◌, refl, sym, ap, subst, length, arith}
use Rattle.std.specs.Prelude.{codes}
use Rattle.std.specs.List.{All, list_all, onto_first, join_with_byte}
use Rattle.std.specs.Str.{bytes_eq, IsAscii}
use Rattle.std.specs.Cmp.Lexicographic.{bytes_decides}
use Rattle.std.proofs.lemmas.Bool.{true≢false, eqb-true, eq-eqb}
use Rattle.std.proofs.lemmas.Grind.{common_steps}
use Rattle.std.proofs.lemmas.List.Elements.{All-cons, All-head, All-tail, All-nil, All-weaker}
use Rattle.std.proofs.lemmas.List.Folds.{list_all-append}
use Rattle.std.proofs.lemmas.List.Splits.{join_with_byte-slice_split, length-slice_split, slice_split_none, slice_split_at}
use Rattle.std.proofs.lemmas.Str.Ascii.{IsAscii-nil, IsAscii-cons}
use Rattle.file_service.specs.declared.place.Place.TheVariants.{Invalid, Root, At}
use Rattle.file_service.specs.Paths.{is_printable, is_slash, parts_of, is_name, is_legal, without_slash, place_below, place_of}
use Rattle.file_service.specs.Laws.{IsNameByte, NamesMember, IsBelow, PlaceLaws}

-- ---- truth values

pub true_or_false : (b : Bool) → (b ≡ true) ⊎ (b ≡ false)
true_or_false true = inl refl
true_or_false false = inr refl

pub not_both : {P : Type 0} (b : Bool) → b ≡ true → b ≡ false → P
not_both b t f = absurd (true≢false (sym t ∙ f))

pub and_left : (a b : Bool) → (a && b) ≡ true → a ≡ true
and_left true b e = refl
and_left false b e = e

pub and_right : (a b : Bool) → (a && b) ≡ true → b ≡ true
and_right true b e = e
and_right false b e = absurd (true≢false (sym e))

pub and_both : (a b : Bool) → a ≡ true → b ≡ true → (a && b) ≡ true
and_both a b e f = ap (λ t. t && b) e ∙ f

and_assoc : (a b c : Bool) → ((a && b) && c) ≡ (a && (b && c))
and_assoc true b c = refl
and_assoc false b c = refl

-- ---- places

same_at : (p q : List ℕ) → At p ≡ At q → p ≡ q
same_at p q e = cc

-- ---- bytes

-- a byte of a name
abbrev is_name_byte : ℕ → Bool
is_name_byte b = is_printable b && not (is_slash b)

no_slash_false : (b : ℕ) → not (is_slash b) ≡ true → b ≢ 47
no_slash_false b e s = true≢false (sym e ∙ ap not (eq-eqb b 47 s))

not_slash : (b : ℕ) → b ≢ 47 → is_slash b ≡ false
not_slash b n = elim (true_or_false (is_slash b)) as (λ _. is_slash b ≡ false) [ inl e ↦ absurd (n (eqb-true b 47 e)) | inr e ↦ e ]

pub printable_bounds : (b : ℕ) → is_printable b ≡ true → (32 ≤ b) × (b ≤ 126)
printable_bounds b e = grind (arith, common_steps)

bounds_printable : (b : ℕ) → 32 ≤ b → b ≤ 126 → is_printable b ≡ true
bounds_printable b l h = grind (arith, common_steps)

is_byte : (b : ℕ) → is_name_byte b ≡ true → IsNameByte b
is_byte b e =
    let bounds = printable_bounds b (and_left (is_printable b) (not (is_slash b)) e) in
    record { low = bounds.0; high = bounds.1; no_slash = no_slash_false b (and_right (is_printable b) (not (is_slash b)) e) }

pub all_of : {X : Type 0} (p : X → Bool) (P : X → Type 0) → ((x : X) → p x ≡ true → P x) → (xs : List X) → list_all p xs ≡ true → All P xs
all_of p P f [] e = All-nil P
all_of p P f (x ∷ xs) e = All-cons P x xs (f x (and_left (p x) (list_all p xs) e)) (all_of p P f xs (and_right (p x) (list_all p xs) e))

pub of_all : {X : Type 0} (p : X → Bool) (P : X → Type 0) → ((x : X) → P x → p x ≡ true) → (xs : List X) → All P xs → list_all p xs ≡ true
of_all p P f [] a = refl
of_all p P f (x ∷ xs) a = and_both (p x) (list_all p xs) (f x (All-head P x xs a)) (of_all p P f xs (All-tail P x xs a))

pub ascii_of : (bytes : List ℕ) → list_all is_printable bytes ≡ true → IsAscii bytes
ascii_of [] e = IsAscii-nil
ascii_of (b ∷ bytes) e =
    let h : b ≤ 126 = (printable_bounds b (and_left (is_printable b) (list_all is_printable bytes) e)).1 in
    IsAscii-cons b bytes (omega (arith, h)) (ascii_of bytes (and_right (is_printable b) (list_all is_printable bytes) e))

-- ---- names

neither : (a b : Bool) → not (a || b) ≡ true → (a ≡ false) × (b ≡ false)
neither true b e = absurd (true≢false (sym e))
neither false true e = absurd (true≢false (sym e))
neither false false e = (refl, refl)

or_false : (a b : Bool) → (a || b) ≡ false → (a ≡ false) × (b ≡ false)
or_false true b e = absurd (true≢false e)
or_false false b e = (refl, e)

neither_of : (a b : Bool) → a ≡ false → b ≡ false → (a || b) ≡ false
neither_of a b e f = ap (λ t. t || b) e ∙ f

differs : (p q : List ℕ) → bytes_eq p q ≡ false → p ≢ q
differs p q e same = not_both (bytes_eq p q) ((bytes_decides p q).1 same) e

no_eq : (p q : List ℕ) → p ≢ q → bytes_eq p q ≡ false
no_eq p q n = elim (true_or_false (bytes_eq p q)) as (λ _. bytes_eq p q ≡ false) [ inl e ↦ absurd (n ((bytes_decides p q).0 e)) | inr e ↦ e ]

names_member : (name : List ℕ) → is_name name ≡ true → list_all is_name_byte name ≡ true → NamesMember name
names_member name e bytes =
    let first = neither (bytes_eq name []) (bytes_eq name (codes ".") || bytes_eq name (codes "..")) e in
    let others = or_false (bytes_eq name (codes ".")) (bytes_eq name (codes "..")) first.1 in
    record {
      not_empty = differs name [] first.0;
      not_itself = differs name (codes ".") others.0;
      not_above = differs name (codes "..") others.1;
      bytes = all_of is_name_byte IsNameByte is_byte name bytes;
    }

member_named : (name : List ℕ) → NamesMember name → is_name name ≡ true
member_named name m = ap not (neither_of (bytes_eq name []) (bytes_eq name (codes ".") || bytes_eq name (codes ".."))
    (no_eq name [] m.not_empty)
    (neither_of (bytes_eq name (codes ".")) (bytes_eq name (codes "..")) (no_eq name (codes ".") m.not_itself) (no_eq name (codes "..") m.not_above)))

members_named : (names : List (List ℕ)) → list_all is_name names ≡ true → list_all (list_all is_name_byte) names ≡ true → All NamesMember names
members_named [] e bytes = All-nil NamesMember
members_named (name ∷ names) e bytes = All-cons NamesMember name names
    (names_member name (and_left (is_name name) (list_all is_name names) e) (and_left (list_all is_name_byte name) (list_all (list_all is_name_byte) names) bytes))
    (members_named names (and_right (is_name name) (list_all is_name names) e) (and_right (list_all is_name_byte name) (list_all (list_all is_name_byte) names) bytes))

-- ---- the names of a path

front_bytes : (b : ℕ) (parts : List (List ℕ)) → list_all (list_all is_name_byte) (onto_first b parts) ≡ (is_name_byte b && list_all (list_all is_name_byte) parts)
front_bytes b [] = grind (arith, common_steps)
front_bytes b (part ∷ parts) = and_assoc (is_name_byte b) (list_all is_name_byte part) (list_all (list_all is_name_byte) parts)

-- what stands between the slashes of a printable path is printable, and no slash
parts_bytes : (path : List ℕ) → list_all is_printable path ≡ true → list_all (list_all is_name_byte) (parts_of path) ≡ true
parts_bytes [] e = refl
parts_bytes (b ∷ path) e =
    let here = and_left (is_printable b) (list_all is_printable path) e in
    let rest = parts_bytes path (and_right (is_printable b) (list_all is_printable path) e) in
    elim (true_or_false (is_slash b)) as (λ _. list_all (list_all is_name_byte) (cond (is_slash b) ([] ∷ parts_of path) (onto_first b (parts_of path))) ≡ true) [
      | inl s ↦ ap (λ t. list_all (list_all is_name_byte) (cond t ([] ∷ parts_of path) (onto_first b (parts_of path)))) s ∙ rest
      | inr n ↦ ap (λ t. list_all (list_all is_name_byte) (cond t ([] ∷ parts_of path) (onto_first b (parts_of path)))) n
          ∙ front_bytes b (parts_of path) ∙ and_both (is_name_byte b) (list_all (list_all is_name_byte) (parts_of path)) (and_both (is_printable b) (not (is_slash b)) here (ap not n)) rest
    ]

some_part : (b : ℕ) (path : List ℕ) → parts_of (b ∷ path) ≢ []
some_part b path e = absurd (omega (arith, ap length e, length-slice_split is_slash (b ∷ path)))

legal_below : (root : List ℕ) (b : ℕ) (path : List ℕ) → is_legal (b ∷ path) ≡ true → IsBelow root (root ++ 47 ∷ b ∷ path)
legal_below root b path e = record {
  names = parts_of (b ∷ path);
  some = some_part b path;
  lead = members_named (parts_of (b ∷ path)) (and_right (list_all is_printable (b ∷ path)) (list_all is_name (parts_of (b ∷ path))) e)
      (parts_bytes (b ∷ path) (and_left (list_all is_printable (b ∷ path)) (list_all is_name (parts_of (b ∷ path))) e));
  joined = ap (λ p. root ++ 47 ∷ p) (sym (join_with_byte-slice_split 47 (b ∷ path)));
}

place_cases : (root : List ℕ) (b : ℕ) (path at : List ℕ) (t : Bool) → is_legal (b ∷ path) ≡ t → cond t (At (root ++ 47 ∷ b ∷ path)) Invalid ≡ At at → IsBelow root at
place_cases root b path at true e p = subst (IsBelow root) (same_at _ _ p) (legal_below root b path e)
place_cases root b path at false e p = cc

below_root : (root path at : List ℕ) → place_below root path ≡ At at → IsBelow root at
below_root root [] at p = cc
below_root root (b ∷ path) at p = place_cases root b path at (is_legal (b ∷ path)) refl p

-- ---- names that are joined

no_slashes : (name : List ℕ) → NamesMember name → All (λ b. is_slash b ≡ false) name
no_slashes name m = All-weaker IsNameByte (λ b. is_slash b ≡ false) (λ b h. not_slash b h.no_slash) name m.bytes

printable_name : (name : List ℕ) → NamesMember name → list_all is_printable name ≡ true
printable_name name m = of_all is_printable IsNameByte (λ b h. bounds_printable b h.low h.high) name m.bytes

parts_join : (names : List (List ℕ)) → names ≢ [] → All NamesMember names → parts_of (join_with_byte 47 names) ≡ names
parts_join [] some lead = absurd (some refl)
parts_join (x ∷ []) some lead = slice_split_none is_slash x (no_slashes x (All-head NamesMember x [] lead))
parts_join (x ∷ y ∷ names) some lead =
    slice_split_at is_slash x 47 (join_with_byte 47 (y ∷ names)) (no_slashes x (All-head NamesMember x (y ∷ names) lead)) refl
    ∙ ap (λ parts. x ∷ parts) (parts_join (y ∷ names) (λ e. cc) (All-tail NamesMember x (y ∷ names) lead))

printable_join : (names : List (List ℕ)) → All NamesMember names → list_all is_printable (join_with_byte 47 names) ≡ true
printable_join [] lead = refl
printable_join (x ∷ []) lead = printable_name x (All-head NamesMember x [] lead)
printable_join (x ∷ y ∷ names) lead =
    list_all-append is_printable x (47 ∷ join_with_byte 47 (y ∷ names))
    ∙ and_both (list_all is_printable x) (list_all is_printable (47 ∷ join_with_byte 47 (y ∷ names)))
    (printable_name x (All-head NamesMember x (y ∷ names) lead)) (printable_join (y ∷ names) (All-tail NamesMember x (y ∷ names) lead))

legal_join : (names : List (List ℕ)) → names ≢ [] → All NamesMember names → is_legal (join_with_byte 47 names) ≡ true
legal_join names some lead =
    and_both (list_all is_printable (join_with_byte 47 names)) (list_all is_name (parts_of (join_with_byte 47 names))) (printable_join names lead)
    (ap (list_all is_name) (parts_join names some lead) ∙ of_all is_name NamesMember member_named names lead)

-- a path that begins with a byte other than a slash
record Begins (path : List ℕ) : Type 0 where
  first : ℕ
  rest : List ℕ
  whole : path ≡ first ∷ rest
  no_slash : first ≢ 47

begins : (names : List (List ℕ)) → names ≢ [] → All NamesMember names → Begins (join_with_byte 47 names)
begins [] some lead = absurd (some refl)
begins ([] ∷ names) some lead = absurd ((All-head NamesMember [] names lead).not_empty refl)
begins ((b ∷ name) ∷ []) some lead = record {
  first = b;
  rest = name;
  whole = refl;
  no_slash = (All-head IsNameByte b name (All-head NamesMember (b ∷ name) [] lead).bytes).no_slash;
}
begins ((b ∷ name) ∷ y ∷ names) some lead = record {
  first = b;
  rest = name ++ 47 ∷ join_with_byte 47 (y ∷ names);
  whole = refl;
  no_slash = (All-head IsNameByte b name (All-head NamesMember (b ∷ name) (y ∷ names) lead).bytes).no_slash;
}

at_legal : (root : List ℕ) (b : ℕ) (path : List ℕ) → b ≢ 47 → is_legal (b ∷ path) ≡ true → place_of root (b ∷ path) ≡ At (root ++ 47 ∷ b ∷ path)
at_legal root b path n e =
    ap (λ t. place_below root (cond t path (b ∷ path))) (not_slash b n) ∙ ap (λ t. cond t (At (root ++ 47 ∷ b ∷ path)) Invalid) e

at_begun : (root path : List ℕ) → Begins path → is_legal path ≡ true → place_of root path ≡ At (root ++ 47 ∷ path)
at_begun root path s e =
    ap (place_of root) s.whole ∙ at_legal root s.first s.rest s.no_slash (sym (ap is_legal s.whole) ∙ e) ∙ ap (λ p. At (root ++ 47 ∷ p)) (sym s.whole)

-- ---- the root itself

no_root : (root : List ℕ) (b : ℕ) (path : List ℕ) (t : Bool) → cond t (At (root ++ 47 ∷ b ∷ path)) Invalid ≡ Root → ⊥
no_root root b path true e = cc
no_root root b path false e = cc

behind_slash : (root : List ℕ) (b : ℕ) (path : List ℕ) → is_slash b ≡ true → place_below root path ≡ Root → (b ∷ path ≡ []) ⊎ (b ∷ path ≡ 47 ∷ [])
behind_slash root b [] s e = inr (ap (λ c. c ∷ []) (eqb-true b 47 s))
behind_slash root b (c ∷ path) s e = absurd (no_root root c path (is_legal (c ∷ path)) e)

root_alone : (root path : List ℕ) → place_of root path ≡ Root → (path ≡ []) ⊎ (path ≡ 47 ∷ [])
root_alone root [] e = inl refl
root_alone root (b ∷ path) e = elim (true_or_false (is_slash b)) [
  | inl s ↦ behind_slash root b path s (sym (ap (λ t. place_below root (cond t path (b ∷ path))) s) ∙ e)
  | inr n ↦ absurd (no_root root b path (is_legal (b ∷ path)) (sym (ap (λ t. place_below root (cond t path (b ∷ path))) n) ∙ e))
]

root_of : (root path : List ℕ) → (path ≡ []) ⊎ (path ≡ 47 ∷ []) → place_of root path ≡ Root
root_of root path (inl e) = ap (place_of root) e
root_of root path (inr e) = ap (place_of root) e

and_false : (a : Bool) → (a && false) ≡ false
and_false true = refl
and_false false = refl

pub place_laws : (root : List ℕ) → PlaceLaws root
place_laws root = record {
  below = λ path at e. below_root root (without_slash path) at e;
  reached = λ names some lead. at_begun root (join_with_byte 47 names) (begins names some lead) (legal_join names some lead);
  itself = λ path. (root_alone root path, root_of root path);
  slash = λ b path n. sym (ap (λ t. place_below root (cond t path (b ∷ path))) (not_slash b n));
  two_slashes = λ path. ap (λ t. cond t (At (root ++ 47 ∷ 47 ∷ path)) Invalid) (and_false (list_all is_printable path));
}
