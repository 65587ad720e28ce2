-- What is known of a type that was read.
use Rattle.std.proofs.Common.{◌≡◌, ◌≢◌, ◌∙◌, ◌<◌, ◌≤◌, ◌+◌, ◌*◌, ◌==◌, ◌&&◌, Bool, true, false, List, [], ◌∷◌, ◌++◌, ℕ, Option, Some, None, Ok, Err, length, refl, sym, ap, subst, arith}
use Rattle.std.specs.Prelude.{nat_lt, codes, if◌then◌else◌, Result, IfSome, IfOk}
use Rattle.std.specs.List.{list_all, list_any}
use Rattle.std.specs.Str.{bytes_eq}
use Rattle.std.proofs.lemmas.Bool.{and_parts, false≢true}
use Rattle.std.proofs.lemmas.Bool.Decides.{nat_tests}
use Rattle.dsdl_names.specs.Parts.{parts_of, with_first, dotted, names_of, cut_last}
use Rattle.dsdl_names.specs.Words.{is_name_byte, is_first, is_name, is_reserved, number_of, number_to, at_most}
use Rattle.dsdl_names.specs.Names.{version_of, version_in, some_port, with_name, with_version, type_file, ended, file_of, file_in, file_name_of, id_only, id_of, id_before, id_in, type_id_of}
use Rattle.dsdl_names.specs.Types.{IsType, IsPort}
use Rattle.dsdl_names.specs.declared.TypeId.{TypeId}
use Rattle.dsdl_names.specs.declared.FileName.{FileName}
use Rattle.dsdl_names.specs.declared.NameError.{NameError}
use Rattle.dsdl_names.specs.declared.NameError.TheVariants as error

-- ---- a dotted text has its names as parts
no_point : (b : ℕ) → is_name_byte b ≡ true → (b == 46) ≡ false
no_point b e = grind (arith, nat_tests)

name_bytes : (s : List ℕ) → is_name s ≡ true → list_all is_name_byte s ≡ true
name_bytes [] e = refl
name_bytes (b ∷ s) e =
    let p = and_parts (is_first b) (list_all is_name_byte s) e in
    go (is_name_byte b) (first_byte b p.0) p.1
  where
    first_byte : (c : ℕ) → is_first c ≡ true → is_name_byte c ≡ true
    first_byte c e = grind (arith, nat_tests)

    go : (t : Bool) → t ≡ true → list_all is_name_byte s ≡ true → (t && list_all is_name_byte s) ≡ true
    go true e f = f
    go false e f = e

-- a name is one part
alone : (s : List ℕ) → list_all is_name_byte s ≡ true → names_of s ≡ s ∷ []
alone [] e = refl
alone (b ∷ s) e =
    let p = and_parts (is_name_byte b) (list_all is_name_byte s) e in
    go (b == 46) (no_point b p.0) (alone s p.1)
  where
    go : (t : Bool) → t ≡ false → names_of s ≡ s ∷ [] → (if t then [] ∷ names_of s else with_first b (names_of s)) ≡ (b ∷ s) ∷ []
    go true e f = absurd (false≢true (sym e))
    go false e f = ap (with_first b) f

-- a name before a point is the first part
before : (s t : List ℕ) → list_all is_name_byte s ≡ true → names_of (s ++ 46 ∷ t) ≡ s ∷ names_of t
before [] t e = refl
before (b ∷ s) t e =
    let p = and_parts (is_name_byte b) (list_all is_name_byte s) e in
    go (b == 46) (no_point b p.0) (before s t p.1)
  where
    go : (u : Bool) → u ≡ false → names_of (s ++ 46 ∷ t) ≡ s ∷ names_of t → (if u then [] ∷ names_of (s ++ 46 ∷ t) else with_first b (names_of (s ++ 46 ∷ t))) ≡ (b ∷ s) ∷ names_of t
    go true e f = absurd (false≢true (sym e))
    go false e f = ap (with_first b) f

pub names_of-dotted : (name : List ℕ) (names : List (List ℕ)) → list_all is_name (name ∷ names) ≡ true → names_of (dotted (name ∷ names)) ≡ name ∷ names
names_of-dotted name [] e =
    alone name (name_bytes name (and_parts (is_name name) true e).0)
names_of-dotted name (next ∷ names) e =
    let p = and_parts (is_name name) (list_all is_name (next ∷ names)) e in
    before name (dotted (next ∷ names)) (name_bytes name p.0) ∙ ap (λ ns. name ∷ ns) (names_of-dotted next names p.1)

-- ---- a name has a byte, and each two names a point between them
some_byte : (s : List ℕ) → is_name s ≡ true → 1 ≤ length s
some_byte [] e = absurd (false≢true e)
some_byte (b ∷ s) e = omega arith

length-with : (s t : List ℕ) → length (s ++ 46 ∷ t) ≡ length s + 1 + length t
length-with [] t = omega arith
length-with (x ∷ s) t = omega (arith, length-with s t)

pub count_of : (name : List ℕ) (names : List (List ℕ)) → list_all is_name (name ∷ names) ≡ true → 2 * length (name ∷ names) ≤ length (dotted (name ∷ names)) + 1
count_of name [] e = omega (arith, some_byte name (and_parts (is_name name) true e).0)
count_of name (next ∷ names) e =
    let p = and_parts (is_name name) (list_all is_name (next ∷ names)) e in
    omega (arith, length-with name (dotted (next ∷ names)), some_byte name p.0, count_of next names p.1)

-- ---- what a type of names that was read keeps
-- versions and ports that are read
abbrev IsVersion : Option (ℕ × ℕ) → Type 0
IsVersion v = IfSome v (λ p. 0 < p.0 + p.1)

abbrev ArePorts : Option (Option ℕ) → Type 0
ArePorts p = IfSome p IsPort

abbrev Keeps : Result FileName NameError → Type 0
Keeps r = IfOk r (λ file. IsType file.id × IsPort file.port)

version_keeps : (major minor : Option ℕ) → IsVersion (version_of major minor)
version_keeps None minor = tt
version_keeps (Some major) None = tt
version_keeps (Some major) (Some minor) = go ((major == 0) && (minor == 0)) refl
  where
    go : (t : Bool) → ((major == 0) && (minor == 0)) ≡ t → IsVersion (if t then None else Some (major, minor))
    go true e = tt
    go false e = grind (arith, nat_tests)

most : (n : ℕ) (o : Option ℕ) → IfSome (at_most n o) (λ p. p ≤ n)
most n None = tt
most n (Some p) = go (nat_lt n p) refl
  where
    go : (t : Bool) → nat_lt n p ≡ t → IfSome (if t then None else Some p) (λ q. q ≤ n)
    go true e = tt
    go false e = grind (arith, nat_tests)

port_keeps : (o : Option ℕ) → IfSome o (λ p. p ≤ 8191) → ArePorts (some_port o)
port_keeps None h = tt
port_keeps (Some p) h = h

named_keeps : (name : List ℕ) (names : List (List ℕ)) (version : ℕ × ℕ) (port : Option ℕ) → list_all is_name (name ∷ names) ≡ true → list_any is_reserved (name ∷ names) ≡ false →
    0 < version.0 + version.1 → IsPort port → Keeps (with_name (dotted (name ∷ names)) version port)
named_keeps name names version port a r v p = go (nat_lt 255 (length (dotted (name ∷ names)))) refl
  where
    go : (t : Bool) → nat_lt 255 (length (dotted (name ∷ names))) ≡ t →
        Keeps (if t then Err error.TooLong else Ok (record { id = record { name = dotted (name ∷ names); major = version.0; minor = version.1 }; port = port }))
    go true e = tt
    go false e =
        let parts = names_of-dotted name names a in
        let short : length (dotted (name ∷ names)) ≤ 255 = grind (arith, nat_tests) in
        let few : length (name ∷ names) ≤ 128 = omega (arith, count_of name names a) in (
          record {
            are_names = subst (λ ns. list_all is_name ns ≡ true) (sym parts) a;
            none_reserved = subst (λ ns. list_any is_reserved ns ≡ false) (sym parts) r;
            count = subst (λ ns. length ns ≤ 128) (sym parts) few;
            in_bounds = short;
            some_version = v;
          },
          p,
        )

versioned_keeps : (name : List ℕ) (names : List (List ℕ)) (version : Option (ℕ × ℕ)) (port : Option (Option ℕ)) → list_all is_name (name ∷ names) ≡ true → list_any is_reserved (name ∷ names) ≡ false →
    IsVersion version → ArePorts port → Keeps (with_version (dotted (name ∷ names)) version port)
versioned_keeps name names None port a r v p = tt
versioned_keeps name names (Some version) None a r v p = tt
versioned_keeps name names (Some version) (Some port) a r v p = named_keeps name names version port a r v p

filed : (name : List ℕ) (names : List (List ℕ)) (version : Option (ℕ × ℕ)) (port : Option (Option ℕ)) → IsVersion version → ArePorts port → Keeps (type_file (name ∷ names) version port)
filed name names version port v p = go (list_all is_name (name ∷ names)) refl (list_any is_reserved (name ∷ names)) refl
  where
    go : (t : Bool) → list_all is_name (name ∷ names) ≡ t → (u : Bool) → list_any is_reserved (name ∷ names) ≡ u →
        Keeps (if t then (if u then Err error.Reserved else with_version (dotted (name ∷ names)) version port) else Err error.BadName)
    go false a u r = tt
    go true a true r = tt
    go true a false r = versioned_keeps name names version port a r v p

-- the same, of names with one more behind them
file_keeps : (names : List (List ℕ)) (short : List ℕ) (version : Option (ℕ × ℕ)) (port : Option (Option ℕ)) → IsVersion version → ArePorts port → Keeps (type_file (names ++ short ∷ []) version port)
file_keeps [] short version port v p = filed short [] version port v p
file_keeps (name ∷ names) short version port v p = filed name (names ++ short ∷ []) version port v p

ended_keeps : (names : List (List ℕ)) (short : List ℕ) (version : Option (ℕ × ℕ)) (port : Option (Option ℕ)) (end : List ℕ) → IsVersion version → ArePorts port → Keeps (ended (names ++ short ∷ []) version port end)
ended_keeps names short version port end v p = go (bytes_eq end (codes "dsdl"))
  where
    go : (t : Bool) → Keeps (if t then type_file (names ++ short ∷ []) version port else Err error.BadName)
    go true = file_keeps names short version port v p
    go false = tt

parts_keep : (folders parts : List (List ℕ)) → Keeps (file_of folders parts)
parts_keep folders [] = tt
parts_keep folders (a ∷ []) = tt
parts_keep folders (a ∷ b ∷ []) = tt
parts_keep folders (a ∷ b ∷ c ∷ []) = tt
parts_keep folders (a ∷ b ∷ c ∷ d ∷ []) = ended_keeps folders a (version_in b c) (Some None) d (version_keeps (number_to 255 b) (number_to 255 c)) tt
parts_keep folders (a ∷ b ∷ c ∷ d ∷ e ∷ []) =
    ended_keeps folders b (version_in c d) (some_port (number_to 8191 a)) e (version_keeps (number_to 255 c) (number_to 255 d)) (port_keeps (number_to 8191 a) (most 8191 (number_of a)))
parts_keep folders (a ∷ b ∷ c ∷ d ∷ e ∷ f ∷ gs) = tt

path_keeps : (p : Option (List ℕ × List ℕ)) → Keeps (file_in p)
path_keeps None = tt
path_keeps (Some p) = parts_keep (parts_of 47 p.0) (parts_of 46 p.1)

-- a file that was read
pub file_type : (path : List ℕ) (r : Result FileName NameError) → (r ≢ Err error.NoMemory → r ≡ file_name_of path) → IfOk r (λ file. IsType file.id × IsPort file.port)
file_type path (Err why) h = tt
file_type path (Ok file) h = subst Keeps (sym (h (λ e. cc))) (path_keeps (cut_last 47 path))

id_keeps : (r : Result FileName NameError) → Keeps r → IfOk (id_only r) IsType
id_keeps (Ok file) h = h.0
id_keeps (Err why) h = tt

name_keeps : (p : Option (List ℕ × List ℕ)) (major minor : List ℕ) → IfOk (id_of p major minor) IsType
name_keeps None major minor = tt
name_keeps (Some p) major minor =
    id_keeps (type_file (parts_of 46 p.0 ++ p.1 ∷ []) (version_in major minor) (Some None))
    (file_keeps (parts_of 46 p.0) p.1 (version_in major minor) (Some None) (version_keeps (number_to 255 major) (number_to 255 minor)) tt)

front_keeps : (p : Option (List ℕ × List ℕ)) (minor : List ℕ) → IfOk (id_before p minor) IsType
front_keeps None minor = tt
front_keeps (Some p) minor = name_keeps (cut_last 46 p.0) p.1 minor

text_keeps : (p : Option (List ℕ × List ℕ)) → IfOk (id_in p) IsType
text_keeps None = tt
text_keeps (Some p) = front_keeps (cut_last 46 p.0) p.1

-- a type that was read
pub id_type : (text : List ℕ) (r : Result TypeId NameError) → (r ≢ Err error.NoMemory → r ≡ type_id_of text) → IfOk r IsType
id_type text (Err why) h = tt
id_type text (Ok id) h = subst (λ s. IfOk s IsType) (sym (h (λ e. cc))) (text_keeps (cut_last 46 text))
