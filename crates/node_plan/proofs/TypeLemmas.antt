-- The name of a type is a text.
use Rattle.std.specs.List.{All}
use Rattle.std.proofs.Common.{◌≡◌, ◌∙◌, ◌<◌, ◌==◌, ◌&&◌, ◌+◌, ◌*◌, ◌-◌, suc, length, ℕ, Bool, true, false, List, [], ◌∷◌, ◌++◌, Option, Some, None, Ok, Err, refl, sym, arith}
use Rattle.std.specs.Prelude.{nat_lt, ◌||◌, if◌then◌else◌, Result, IfSome, IfOk}
use Rattle.std.specs.Char.{is_ascii}
use Rattle.std.specs.List.{list_all, list_any}
use Rattle.std.specs.Str.{IsUtf8}
use Rattle.std.proofs.lemmas.Bool.{and_parts}
use Rattle.std.proofs.lemmas.Bool.Decides.{nat_tests}
use Rattle.dsdl_names.specs.Parts.{parts_of, with_first, dotted, cut_last, cut_before}
use Rattle.dsdl_names.specs.Words.{decimal_from, number_of, number_to, at_most, is_first, is_name_byte, is_name, is_reserved}
use Rattle.dsdl_names.specs.Names.{version_of, version_in, with_version, type_file, id_only, id_of, id_before, id_in, type_id_of}
use Rattle.dsdl_names.specs.declared.TypeId.{TypeId}
use Rattle.dsdl_names.specs.declared.NameError.{NameError}
use Rattle.dsdl_names.specs.declared.NameError.TheVariants as error
use Rattle.dsdl_types.specs.Definitions.{IsDefinition}
use Rattle.dsdl_types.specs.Finding.{same_id, definition_of}
use Rattle.dsdl_types.specs.declared.definition.Definition.{Definition}
use Rattle.dsdl_types.specs.declared.namespace.Namespace.{Namespace}
use Rattle.node_plan.specs.Types.{message_at, shape_named}
use Rattle.dsdl_names.proofs.PartLemmas.{list_all-last}
use Rattle.node_plan.proofs.NameLemmas.{IsUtf8-from_bytes}

-- all bytes are below 128
abbrev AreLow : List ℕ → Type 0
AreLow s = list_all is_ascii s ≡ true

low_more : (b : ℕ) (s : List ℕ) → is_ascii b ≡ true → AreLow s → AreLow (b ∷ s)
low_more b s e h = of_test (is_ascii b) e
  where
    of_test : (t : Bool) → t ≡ true → (t && list_all is_ascii s) ≡ true
    of_test true e = h
    of_test false e = e

low_point : (b : ℕ) → (b == 46) ≡ true → is_ascii b ≡ true
low_point b e = grind (arith, nat_tests)

low_digit : (b : ℕ) → (nat_lt b 48 || nat_lt 57 b) ≡ false → is_ascii b ≡ true
low_digit b e = grind (arith, nat_tests)

low_first : (b : ℕ) → is_first b ≡ true → is_ascii b ≡ true
low_first b e = grind (arith, nat_tests)

low_name_byte : (b : ℕ) → is_name_byte b ≡ true → is_ascii b ≡ true
low_name_byte b e = grind (arith, nat_tests)

-- ---- where the parts of a text are low, the text is
abbrev CutLow : List ℕ → Option (List ℕ × List ℕ) → Type 0
CutLow s None = Unit {0}
CutLow s (Some p) = AreLow p.0 → AreLow p.1 → AreLow s

low_cut : (s : List ℕ) → CutLow s (cut_last 46 s)
low_cut [] = tt
low_cut (b ∷ s) = of_cut (cut_last 46 s) (low_cut s)
  where
    of_point : (t : Bool) → (b == 46) ≡ t → CutLow (b ∷ s) (if t then Some ([], s) else None)
    of_point true e = λ front behind. low_more b s (low_point b e) behind
    of_point false e = tt

    of_cut : (r : Option (List ℕ × List ℕ)) → CutLow s r → CutLow (b ∷ s) (cut_before 46 b s r)
    of_cut None h = of_point (b == 46) refl
    of_cut (Some p) h = λ front behind.
        let parts = and_parts (is_ascii b) (list_all is_ascii p.0) front in
        low_more b s parts.0 (h parts.1 behind)

-- the parts of a text
abbrev ArePartsLow : List (List ℕ) → Type 0
ArePartsLow parts = list_all (λ part. list_all is_ascii part) parts ≡ true

low_parts : (s : List ℕ) → ArePartsLow (parts_of 46 s) → AreLow s
low_parts [] h = refl
low_parts (b ∷ s) h = of_test (b == 46) refl (parts_of 46 s) (low_parts s) h
  where
    of_test : (t : Bool) → (b == 46) ≡ t → (parts : List (List ℕ)) → (ArePartsLow parts → AreLow s) → ArePartsLow (if t then [] ∷ parts else with_first b parts) → AreLow (b ∷ s)
    of_test true e parts rest h = low_more b s (low_point b e) (rest h)
    of_test false e [] rest h = low_more b s (and_parts (is_ascii b) true (and_parts (is_ascii b && true) true h).0).0 (rest refl)
    of_test false e (p ∷ ps) rest h =
        let halves = and_parts (is_ascii b && list_all is_ascii p) (list_all (λ part. list_all is_ascii part) ps) h in
        let first = and_parts (is_ascii b) (list_all is_ascii p) halves.0 in
        low_more b s first.0 (rest (both (list_all is_ascii p) (list_all (λ part. list_all is_ascii part) ps) first.1 halves.1))
      where
        both : (t u : Bool) → t ≡ true → u ≡ true → (t && u) ≡ true
        both true u e f = f
        both false u e f = e

-- ---- names and numbers are low
low_bytes : (s : List ℕ) → list_all is_name_byte s ≡ true → AreLow s
low_bytes [] h = refl
low_bytes (b ∷ s) h =
    let parts = and_parts (is_name_byte b) (list_all is_name_byte s) h in
    low_more b s (low_name_byte b parts.0) (low_bytes s parts.1)

low_name : (s : List ℕ) → is_name s ≡ true → AreLow s
low_name [] h = refl
low_name (b ∷ s) h =
    let parts = and_parts (is_first b) (list_all is_name_byte s) h in
    low_more b s (low_first b parts.0) (low_bytes s parts.1)

low_names : (names : List (List ℕ)) → list_all is_name names ≡ true → ArePartsLow names
low_names [] h = refl
low_names (name ∷ names) h =
    let parts = and_parts (is_name name) (list_all is_name names) h in
    of_test (list_all is_ascii name) (low_name name parts.0) (low_names names parts.1)
  where
    of_test : (t : Bool) → t ≡ true → ArePartsLow names → (t && list_all (λ part. list_all is_ascii part) names) ≡ true
    of_test true e rest = rest
    of_test false e rest = e

low_digits : (n : ℕ) (s : List ℕ) → IfSome (decimal_from n s) (λ v. AreLow s)
low_digits n [] = refl
low_digits n (b ∷ s) = of_test (nat_lt b 48 || nat_lt 57 b) refl (low_digits (n * 10 + (b - 48)) s)
  where
    of_rest : is_ascii b ≡ true → (o : Option ℕ) → IfSome o (λ v. AreLow s) → IfSome o (λ v. AreLow (b ∷ s))
    of_rest e None h = tt
    of_rest e (Some v) h = low_more b s e h

    of_test : (t : Bool) → (nat_lt b 48 || nat_lt 57 b) ≡ t → IfSome (decimal_from (n * 10 + (b - 48)) s) (λ v. AreLow s)
        → IfSome (if t then None else decimal_from (n * 10 + (b - 48)) s) (λ v. AreLow (b ∷ s))
    of_test true e rest = tt
    of_test false e rest = of_rest (low_digit b e) (decimal_from (n * 10 + (b - 48)) s) rest

low_number : (s : List ℕ) → IfSome (number_of s) (λ v. AreLow s)
low_number [] = tt
low_number (b ∷ []) = low_digits 0 (b ∷ [])
low_number (b ∷ c ∷ s) = of_test (b == 48)
  where
    of_test : (t : Bool) → IfSome (if t then None else decimal_from 0 (b ∷ c ∷ s)) (λ v. AreLow (b ∷ c ∷ s))
    of_test true = tt
    of_test false = low_digits 0 (b ∷ c ∷ s)

-- ---- the parts of a type's name are low
of_most : (most : ℕ) (o : Option ℕ) (P : Type 0) → IfSome o (λ v. P) → IfSome (at_most most o) (λ v. P)
of_most most None P h = tt
of_most most (Some n) P h = of_test (nat_lt most n)
  where
    of_test : (t : Bool) → IfSome (if t then None else Some n) (λ v. P)
    of_test true = tt
    of_test false = h

of_version : (P Q : Type 0) (major minor : Option ℕ) → IfSome major (λ v. P) → IfSome minor (λ v. Q) → IfSome (version_of major minor) (λ v. P × Q)
of_version P Q None minor p q = tt
of_version P Q (Some a) None p q = tt
of_version P Q (Some a) (Some b) p q = of_test ((a == 0) && (b == 0)) (a, b)
  where
    of_test : (t : Bool) (v : ℕ × ℕ) → IfSome (if t then None else Some v) (λ v. P × Q)
    of_test true v = tt
    of_test false v = (p, q)

low_version : (major minor : List ℕ) → IfSome (version_in major minor) (λ v. AreLow major × AreLow minor)
low_version major minor = of_version (AreLow major) (AreLow minor) (number_to 255 major) (number_to 255 minor)
    (of_most 255 (number_of major) (AreLow major) (low_number major)) (of_most 255 (number_of minor) (AreLow minor) (low_number minor))

of_file : (names : List (List ℕ)) (version : Option (ℕ × ℕ)) (P : Type 0) → IfSome version (λ v. P) → IfOk (id_only (type_file names version (Some None))) (λ id. (list_all is_name names ≡ true) × P)
of_file names version P h = of_test (list_all is_name names) refl (list_any is_reserved names) version h
  where
    of_length : (t : Bool) (v : ℕ × ℕ) → list_all is_name names ≡ true → P
        → IfOk (id_only (if t then Err error.TooLong else Ok (record { id = record { name = dotted names; major = v.0; minor = v.1 }; port = None }))) (λ id. (list_all is_name names ≡ true) × P)
    of_length true v a p = tt
    of_length false v a p = (a, p)

    of_test : (t : Bool) → list_all is_name names ≡ t → (u : Bool) (version : Option (ℕ × ℕ)) → IfSome version (λ v. P)
        → IfOk (id_only (if t then (if u then Err error.Reserved else with_version (dotted names) version (Some None)) else Err error.BadName)) (λ id. (list_all is_name names ≡ true) × P)
    of_test false a u version p = tt
    of_test true a true version p = tt
    of_test true a false None p = tt
    of_test true a false (Some v) p = of_length (nat_lt 255 (length (dotted names))) v a p

of_ok : (r : Result TypeId NameError) (P Q : Type 0) → IfOk r (λ id. P) → (P → Q) → IfOk r (λ id. Q)
of_ok (Ok id) P Q p f = f p
of_ok (Err why) P Q p f = tt

-- folders, a short name, and a version
low_id : (name major minor : List ℕ) → (cut : Option (List ℕ × List ℕ)) → CutLow name cut → IfOk (id_of cut major minor) (λ id. AreLow name × AreLow major × AreLow minor)
low_id name major minor None h = tt
low_id name major minor (Some p) h =
    let names = parts_of 46 p.0 ++ p.1 ∷ [] in
    of_ok (id_of (Some p) major minor) ((list_all is_name names ≡ true) × (AreLow major × AreLow minor)) (AreLow name × AreLow major × AreLow minor)
    (of_file names (version_in major minor) (AreLow major × AreLow minor) (low_version major minor))
    (λ was. (in_cut was.0, was.1.0, was.1.1))
  where
    in_cut : list_all is_name (parts_of 46 p.0 ++ p.1 ∷ []) ≡ true → AreLow name
    in_cut e =
        let parts = and_parts (list_all is_name (parts_of 46 p.0)) (is_name p.1) (sym (list_all-last is_name (parts_of 46 p.0) p.1) ∙ e) in
        h (low_parts p.0 (low_names (parts_of 46 p.0) parts.0)) (low_name p.1 parts.1)

low_before : (front minor : List ℕ) → (cut : Option (List ℕ × List ℕ)) → CutLow front cut → IfOk (id_before cut minor) (λ id. AreLow front × AreLow minor)
low_before front minor None h = tt
low_before front minor (Some p) h =
    of_ok (id_before (Some p) minor) (AreLow p.0 × AreLow p.1 × AreLow minor) (AreLow front × AreLow minor)
    (low_id p.0 p.1 minor (cut_last 46 p.0) (low_cut p.0)) (λ was. (h was.0 was.1, was.2))

low_in : (text : List ℕ) → (cut : Option (List ℕ × List ℕ)) → CutLow text cut → IfOk (id_in cut) (λ id. AreLow text)
low_in text None h = tt
low_in text (Some p) h = of_ok (id_in (Some p)) (AreLow p.0 × AreLow p.1) (AreLow text) (low_before p.0 p.1 (cut_last 46 p.0) (low_cut p.0)) (λ was. h was.0 was.1)

is_ascii-low : (b : ℕ) → is_ascii b ≡ true → b < 128
is_ascii-low b h = grind (arith, nat_tests)

-- the bytes of a type's name are a text
pub IsUtf8-from_type : (text : List ℕ) → IfOk (type_id_of text) (λ id. IsUtf8 text)
IsUtf8-from_type text = of_ok (type_id_of text) (AreLow text) (IsUtf8 text) (low_in text (cut_last 46 text) (low_cut text)) (IsUtf8-from_bytes is_ascii is_ascii-low text)

-- bytes that are no text name no type
pub no_type : (names : Namespace) (word : List ℕ) → (IsUtf8 word → ⊥) → None ≡ shape_named names word
no_type names word h = of_id (type_id_of word) (IsUtf8-from_type word)
  where
    of_id : (r : Result TypeId NameError) → IfOk r (λ id. IsUtf8 word) → None ≡ message_at names r
    of_id (Ok id) e = absurd (h e)
    of_id (Err why) e = refl

-- what is found in a namespace is one of its definitions
pub definition_rules : (ds : List Definition) (id : TypeId) → All IsDefinition ds → IfSome (definition_of ds id) IsDefinition
definition_rules [] id h = tt
definition_rules (d ∷ ds) id h = of_test (same_id d.id id) (definition_rules ds id (λ k x less. h (suc k) x (omega arith)))
  where
    of_test : (t : Bool) → IfSome (definition_of ds id) IsDefinition → IfSome (if t then Some d else definition_of ds id) IsDefinition
    of_test true rest = h 0 d (omega arith)
    of_test false rest = rest
