-- The references that texts are, by the parts between their points.
use Rattle.std.proofs.Common.{◌≡◌, ℕ, ◌+◌, ◌-◌, ◌<◌, ◌≤◌, Bool, true, false, List, [], ◌∷◌, ◌++◌, length, take, drop, get_or, Some, refl, sym, ap, ◌∙◌, subst, inl, inr, append_assoc, length-append, arith}
use Rattle.std.specs.Prelude.{nat_lt}
use Rattle.std.specs.List.{All, list_all, join_with_byte}
use Rattle.std.proofs.Math.Seq.{take-append_seam, drop-append_seam}
use Rattle.std.proofs.lemmas.Bool.{and_parts, and_from, false≢true, ltb-true, lt-ltb, cond-true}
use Rattle.std.proofs.lemmas.Bool.Decides.{nat_tests}
use Rattle.std.proofs.lemmas.List.{take-append-drop}
use Rattle.std.proofs.lemmas.List.Elements.{All-nil, All-cons}
use Rattle.std.proofs.lemmas.List.Splits.{slice_split_none, slice_split_at, join_with_byte-slice_split}
use Rattle.std.proofs.lemmas.Option.{none-some, same_Some}
use Rattle.dsdl_lex.specs.Bytes.{is_letter, is_digit, is_word}
use Rattle.dsdl_lex.specs.Texts.{is_name, is_version, number_of, IsPath, one, more, IsReference}
use Rattle.dsdl_parse.specs.declared.expr.Reference.{Reference}
use Rattle.dsdl_parse.specs.Leaves.{IsReferenceTo}
use Rattle.dsdl_parse.specs.LeafReading.{is_point, parts_of, are_parts, versioned, named, reference_in, reference_of}
use Rattle.dsdl_parse.proofs.Basics.{chosen}

-- no byte is a point
abbrev Plain : List ℕ → Type 0
Plain s = All (λ b. is_point b ≡ false) s

letter_plain : (b : ℕ) → is_letter b ≡ true → is_point b ≡ false
letter_plain b e = grind (arith, nat_tests)

word_plain : (b : ℕ) → is_word b ≡ true → is_point b ≡ false
word_plain b e = grind (arith, nat_tests)

digit_plain : (b : ℕ) → is_digit b ≡ true → is_point b ≡ false
digit_plain b e = grind (arith, nat_tests)

all_plain : (p : ℕ → Bool) → ((b : ℕ) → p b ≡ true → is_point b ≡ false) → (s : List ℕ) → list_all p s ≡ true → Plain s
all_plain p f [] e = All-nil (λ b. is_point b ≡ false)
all_plain p f (b ∷ s) e =
    let (first, rest) = and_parts (p b) (list_all p s) e in All-cons (λ b. is_point b ≡ false) b s (f b first) (all_plain p f s rest)

name_plain : (s : List ℕ) → is_name s ≡ true → Plain s
name_plain [] e = absurd (false≢true e)
name_plain (b ∷ s) e =
    let (first, rest) = and_parts (is_letter b) (list_all is_word s) e in All-cons (λ b. is_point b ≡ false) b s (letter_plain b first) (all_plain is_word word_plain s rest)

version_plain : (s : List ℕ) → is_version s ≡ true → Plain s
version_plain [] e = absurd (false≢true e)
version_plain (b ∷ s) e = all_plain is_digit digit_plain (b ∷ s) (and_parts (list_all is_digit (b ∷ s)) _ (and_parts _ _ e).0).0

abbrev AllPlain : List (List ℕ) → Type 0
AllPlain [] = Unit {0}
AllPlain (p ∷ ps) = Plain p × AllPlain ps

plain_parts : (names : List (List ℕ)) (major minor : List ℕ) → list_all is_name names ≡ true → is_version major ≡ true → is_version minor ≡ true →
    AllPlain (names ++ major ∷ minor ∷ [])
plain_parts [] major minor e f g = (version_plain major f, (version_plain minor g, tt))
plain_parts (name ∷ names) major minor e f g =
    let (first, rest) = and_parts (is_name name) (list_all is_name names) e in (name_plain name first, plain_parts names major minor rest f g)

-- the parts of joined parts
pub parts_joined : (ps : List (List ℕ)) → 0 < length ps → AllPlain ps → parts_of (join_with_byte 46 ps) ≡ ps
parts_joined [] lt h = absurd (omega arith)
parts_joined (p ∷ []) lt h = slice_split_none is_point p h.0
parts_joined (p ∷ q ∷ ps) lt h =
    slice_split_at is_point p 46 (join_with_byte 46 (q ∷ ps)) h.0 refl ∙ ap (λ l. p ∷ l) (parts_joined (q ∷ ps) (omega arith) h.1)

pub parts_of_reference : (text : List ℕ) (r : Reference) (d : IsReferenceTo text r) → parts_of text ≡ r.names ++ d.major ∷ d.minor ∷ []
parts_of_reference text r d =
    ap parts_of d.is_text ∙ parts_joined (r.names ++ d.major ∷ d.minor ∷ [])
    (omega (arith, length-append r.names (d.major ∷ d.minor ∷ [])))
    (plain_parts r.names d.major d.minor d.are_names d.is_major d.is_minor)

two_behind : (names : List (List ℕ)) (major minor : List ℕ) → length (names ++ major ∷ minor ∷ []) - 2 ≡ length names
two_behind names major minor = omega (arith, length-append names (major ∷ minor ∷ []))

read_parts : (names : List (List ℕ)) (major minor : List ℕ) → reference_in (names ++ major ∷ minor ∷ []) ≡ versioned names major minor
read_parts names major minor =
    ap (λ n. named (take n (names ++ major ∷ minor ∷ [])) (drop n (names ++ major ∷ minor ∷ []))) (two_behind names major minor)
    ∙ ap (λ l. named l (drop (length names) (names ++ major ∷ minor ∷ []))) (take-append_seam names (major ∷ minor ∷ []))
    ∙ ap (named names) (drop-append_seam names (major ∷ minor ∷ []))

pub reference_complete : (text : List ℕ) (r : Reference) → IsReferenceTo text r → reference_of text ≡ Some r
reference_complete text r d =
    ap reference_in (parts_of_reference text r d) ∙ read_parts r.names d.major d.minor
    ∙ cond-true (are_parts r.names d.major d.minor) _ _ good
    ∙ ap (λ n. Some (record { names = r.names; major = n; minor = number_of d.minor })) (sym d.major_number)
    ∙ ap (λ n. Some (record { names = r.names; major = r.major; minor = n })) (sym d.minor_number)
  where
    some_version : 0 < number_of d.major + number_of d.minor
    some_version = omega (arith, d.some_version, d.major_number, d.minor_number)

    good : are_parts r.names d.major d.minor ≡ true
    good = rw (lt-ltb 0 (length r.names) d.some_name, d.are_names, d.is_major, d.is_minor, lt-ltb 0 (number_of d.major + number_of d.minor) some_version) refl

pub reference_sound : (text : List ℕ) (r : Reference) → reference_of text ≡ Some r → IsReferenceTo text r
reference_sound text r e =
    let before = length (parts_of text) - 2 in
    go (take before (parts_of text)) (drop before (parts_of text)) (take-append-drop before (parts_of text)) e
  where
    go : (names version : List (List ℕ)) → names ++ version ≡ parts_of text → named names version ≡ Some r → IsReferenceTo text r
    go names [] s e = absurd (none-some _ e)
    go names (major ∷ []) s e = absurd (none-some _ e)
    go names (major ∷ minor ∷ other ∷ rest) s e = absurd (none-some _ e)
    go names (major ∷ minor ∷ []) s e = elim (chosen (are_parts names major minor) _ _ _ e) [
      | inr h ↦ absurd (none-some _ h.1)
      | inl h ↦
          let (some_name, h1) = and_parts (nat_lt 0 (length names)) _ h.0 in
          let (are_names, h2) = and_parts (list_all is_name names) _ h1 in
          let (is_major, h3) = and_parts (is_version major) _ h2 in
          let (is_minor, some_version) = and_parts (is_version minor) _ h3 in
          subst (IsReferenceTo text) (same_Some _ _ h.1) (record {
            major = major;
            minor = minor;
            some_name = ltb-true 0 (length names) some_name;
            are_names = are_names;
            is_major = is_major;
            is_minor = is_minor;
            major_number = refl;
            minor_number = refl;
            some_version = ltb-true 0 (number_of major + number_of minor) some_version;
            is_text = sym (join_with_byte-slice_split 46 text) ∙ ap (join_with_byte 46) (sym s);
          })
    ]

-- names with points between them
record Names (path : List ℕ) : Type 0 where
  names : List (List ℕ)
  some_name : 0 < length names
  are_names : list_all is_name names ≡ true
  is_path : path ≡ join_with_byte 46 names

names_of : {path : List ℕ} → IsPath path → Names path
names_of (one name e) = record { names = name ∷ []; some_name = omega arith; are_names = and_from (is_name name) true e refl; is_path = refl }
names_of (more {text} name path e d t) = with_rest (names_of d)
  where
    joined : (names : List (List ℕ)) → 0 < length names → name ++ 46 ∷ join_with_byte 46 names ≡ join_with_byte 46 (name ∷ names)
    joined [] lt = absurd (omega arith)
    joined (n ∷ ns) lt = refl

    with_rest : Names path → Names text
    with_rest r = record {
      names = name ∷ r.names;
      some_name = omega arith;
      are_names = and_from (is_name name) (list_all is_name r.names) e r.are_names;
      is_path = t ∙ ap (λ l. name ++ 46 ∷ l) r.is_path ∙ joined r.names r.some_name;
    }

joined_version : (names : List (List ℕ)) (major minor : List ℕ) → 0 < length names →
    join_with_byte 46 names ++ 46 ∷ (major ++ 46 ∷ minor) ≡ join_with_byte 46 (names ++ major ∷ minor ∷ [])
joined_version [] major minor lt = absurd (omega arith)
joined_version (n ∷ []) major minor lt = refl
joined_version (n ∷ m ∷ ns) major minor lt =
    append_assoc n (46 ∷ join_with_byte 46 (m ∷ ns)) (46 ∷ (major ++ 46 ∷ minor))
    ∙ ap (λ l. n ++ 46 ∷ l) (joined_version (m ∷ ns) major minor (omega arith))

-- a text that is a token of this kind says one
pub reference_said : (text : List ℕ) → IsReference text → (r : Reference) × IsReferenceTo text r
reference_said text d =
    let n = names_of d.is_path in (
      record { names = n.names; major = number_of d.major; minor = number_of d.minor },
      record {
        major = d.major;
        minor = d.minor;
        some_name = n.some_name;
        are_names = n.are_names;
        is_major = d.is_major;
        is_minor = d.is_minor;
        major_number = refl;
        minor_number = refl;
        some_version = d.some_version;
        is_text = d.is_text ∙ ap (λ l. l ++ 46 ∷ (d.major ++ 46 ∷ d.minor)) n.is_path ∙ joined_version n.names d.major d.minor n.some_name;
      },
    )

-- ---- the parts that the code finds
one_ends : (a b c d : List ℕ) → ◌≡◌ {A = List (List ℕ)} (a ∷ b ∷ []) (c ∷ d ∷ []) → (a ≡ c) × (b ≡ d)
one_ends a b c d e = (ap (λ l. get_or l 0 []) e, ap (λ l. get_or l 1 []) e)

same_ends : (xs ys : List (List ℕ)) (a b c d : List ℕ) → xs ++ a ∷ b ∷ [] ≡ ys ++ c ∷ d ∷ [] → (xs ≡ ys) × (a ≡ c) × (b ≡ d)
same_ends xs ys a b c d e =
    let same_length : length xs ≡ length ys = omega (arith, ap length e, length-append xs (a ∷ b ∷ []), length-append ys (c ∷ d ∷ [])) in
    let fronts : xs ≡ ys =
    sym (take-append_seam xs (a ∷ b ∷ [])) ∙ ap (take (length xs)) e ∙ ap (λ n. take n (ys ++ c ∷ d ∷ [])) same_length ∙ take-append_seam ys (c ∷ d ∷ []) in
    let ends : a ∷ b ∷ [] ≡ c ∷ d ∷ [] =
    sym (drop-append_seam xs (a ∷ b ∷ [])) ∙ ap (drop (length xs)) e ∙ ap (λ n. drop n (ys ++ c ∷ d ∷ [])) same_length ∙ drop-append_seam ys (c ∷ d ∷ []) in
    let (first, second) = one_ends a b c d ends in (fronts, first, second)

pub some_parts : (text : List ℕ) → IsReference text → 2 ≤ length (parts_of text)
some_parts text d =
    let (r, s) = reference_said text d in omega (arith, ap length (parts_of_reference text r s), length-append r.names (s.major ∷ s.minor ∷ []))

-- what the parts of a reference are
pub record Parts (text : List ℕ) (names : List (List ℕ)) (major minor : List ℕ) : Type 0 where
  pub are_names : list_all is_name names ≡ true
  pub is_major : is_version major ≡ true
  pub is_minor : is_version minor ≡ true
  pub is_read : reference_of text ≡ Some (record { names = names; major = number_of major; minor = number_of minor })

pub parts_said : (text : List ℕ) (names : List (List ℕ)) (major minor : List ℕ) → IsReference text → parts_of text ≡ names ++ major ∷ minor ∷ [] →
    Parts text names major minor
parts_said text names major minor d e = go (reference_said text d)
  where
    go : (r : Reference) × IsReferenceTo text r → Parts text names major minor
    go (r, s) =
        let (same_names, same_major, same_minor) = same_ends names r.names major minor s.major s.minor (sym e ∙ parts_of_reference text r s) in
        record {
          are_names = rw same_names s.are_names;
          is_major = rw same_major s.is_major;
          is_minor = rw same_minor s.is_minor;
          is_read = reference_complete text r s ∙ rw (same_names, same_major, same_minor, sym s.major_number, sym s.minor_number) refl;
        }
