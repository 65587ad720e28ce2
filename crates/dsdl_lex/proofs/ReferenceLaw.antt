-- The scan's references are the texts that are references.
use Rattle.std.proofs.Common.{◌≡◌, ℕ, ◌+◌, ◌-◌, ◌<◌, Bool, true, false, ◌&&◌, ◌==◌, cond, List, [], ◌∷◌, ◌++◌, Some, None, refl, sym, ap, ◌∙◌, subst, arith, append_assoc}
use Rattle.std.specs.List.{list_all}
use Rattle.std.proofs.lemmas.Bool.{and_parts, false≢true, eqb-true}
use Rattle.std.proofs.lemmas.Option.{none-some}
use Rattle.std.proofs.lemmas.List.Folds.{list_all-append}
use Rattle.std.proofs.lemmas.Bool.Decides.{nat_tests}
use Rattle.dsdl_lex.specs.declared.token.TokenKind.TheVariants as k
use Rattle.dsdl_lex.specs.declared.state.State.TheVariants.{Start, Dead, Word}
use Rattle.dsdl_lex.specs.declared.word.WordState.TheVariants as w
use Rattle.dsdl_lex.specs.Bytes.{is_letter, is_digit, is_word}
use Rattle.dsdl_lex.specs.Texts.{is_name, is_version, number_of, number_from, IsPath, one, more, IsReference}
use Rattle.dsdl_lex.specs.Steps.{run, step, kind_of, begin_other}
use Rattle.dsdl_lex.specs.Words.{name_step, point_step, major_point_step}
use Rattle.dsdl_lex.proofs.May.{never, other_may}
use Rattle.dsdl_lex.proofs.Versions.{Refers, Minor, Major, Cut, cut, is_cut, from_zero, run_major, run_minor, minor_comes, major_comes}

-- ---- a later name goes on as a first one
pub later_of_first : (bs : List ℕ) → Refers (Word w.First) bs → Refers (Word w.Later) bs
later_of_first [] e = absurd (cc)
later_of_first (b ∷ bs) e = go (later_of_first bs) (is_word b) e
  where
    go : (Refers (Word w.First) bs → Refers (Word w.Later) bs) → (t : Bool) → Refers (cond t (Word w.First) (cond (b == 46) (Word w.Point) Dead)) bs → Refers (cond t (Word w.Later) (cond (b == 46) (Word w.Point) Dead)) bs
    go ih true x = ih x
    go ih false x = x

pub first_of_later : (bs : List ℕ) → Refers (Word w.Later) bs → Refers (Word w.First) bs
first_of_later [] e = absurd (none-some _ e)
first_of_later (b ∷ bs) e = go (first_of_later bs) (is_word b) e
  where
    go : (Refers (Word w.Later) bs → Refers (Word w.First) bs) → (t : Bool) → Refers (cond t (Word w.Later) (cond (b == 46) (Word w.Point) Dead)) bs → Refers (cond t (Word w.First) (cond (b == 46) (Word w.Point) Dead)) bs
    go ih true x = ih x
    go ih false x = x

-- ---- what refers is a reference
-- the versions that come behind a point
record Versions (bs : List ℕ) : Type 0 where
  major : List ℕ
  minor : List ℕ
  is_major : is_version major ≡ true
  is_minor : is_version minor ≡ true
  some_version : 0 < number_of major + number_of minor
  is_text : bs ≡ major ++ 46 ∷ minor

digit_small : (b : ℕ) → is_digit b ≡ true → b - 48 < 256
digit_small b e = grind (arith, nat_tests)

minor_versions : (c : ℕ) (cs bs : List ℕ) → is_digit c ≡ true → (h : Major (c - 48) cs) → h.back ≡ bs → Refers (Word (w.MajorPoint (number_from (c - 48) h.front))) bs → Versions (c ∷ cs)
minor_versions c cs [] d h e x = absurd (none-some _ x)
minor_versions c cs (b ∷ bs) d h e x = go (is_digit b) refl x
  where
    go : (t : Bool) → is_digit b ≡ t → Refers (cond t (Word (w.Minor (number_from (c - 48) h.front) (b - 48))) Dead) bs → Versions (c ∷ cs)
    go false p y = absurd (never k.Reference bs Dead refl y)
    go true p y =
        let m : Minor (number_from (c - 48) h.front) (b - 48) bs = minor_comes (number_from (c - 48) h.front) (b - 48) bs (digit_small b p) y in
        record {
          major = c ∷ h.front;
          minor = b ∷ bs;
          is_major = is_cut c h.front d h.more;
          is_minor = is_cut b bs p m.more;
          some_version = omega (arith, m.some, from_zero c h.front, from_zero b bs);
          is_text = ap (λ v. c ∷ v) h.is_text ∙ ap (λ v. c ∷ (h.front ++ 46 ∷ v)) e;
        }

versions_come : (c : ℕ) (cs : List ℕ) → is_digit c ≡ true → Refers (Word (w.Major (c - 48))) cs → Versions (c ∷ cs)
versions_come c cs d e = let h : Major (c - 48) cs = major_comes (c - 48) cs (digit_small c d) e in minor_versions c cs h.back d h refl h.refers

-- a letter, digit or `_` behind a name
name_more : (name : List ℕ) (b : ℕ) → is_name name ≡ true → is_word b ≡ true → is_name (name ++ b ∷ []) ≡ true
name_more [] b e f = absurd (false≢true e)
name_more (x ∷ xs) b e f =
    let p = and_parts (is_letter x) (list_all is_word xs) e in
    rw (p.0) (list_all-append is_word xs (b ∷ []) ∙ (rw (p.1) (rw f refl)))

letter_name : (b : ℕ) → is_letter b ≡ true → is_name (b ∷ []) ≡ true
letter_name b e = rw e refl

-- names in front of a reference, with a point behind them
in_front : (name text : List ℕ) → is_name name ≡ true → IsReference text → IsReference (name ++ 46 ∷ text)
in_front name text e r = record {
  path = name ++ 46 ∷ r.path;
  major = r.major;
  minor = r.minor;
  is_path = more name r.path e r.is_path refl;
  is_major = r.is_major;
  is_minor = r.is_minor;
  some_version = r.some_version;
  is_text = ap (λ v. name ++ 46 ∷ v) r.is_text ∙ sym (append_assoc name (46 ∷ r.path) (46 ∷ (r.major ++ 46 ∷ r.minor)));
}

with_versions : (name bs : List ℕ) → is_name name ≡ true → Versions bs → IsReference (name ++ 46 ∷ bs)
with_versions name bs e v = record {
  path = name;
  major = v.major;
  minor = v.minor;
  is_path = one name e;
  is_major = v.is_major;
  is_minor = v.is_minor;
  some_version = v.some_version;
  is_text = ap (λ u. name ++ 46 ∷ u) v.is_text;
}

Comes : List ℕ → Type 0
Comes bs = (name : List ℕ) → is_name name ≡ true → Refers (Word w.Later) bs → IsReference (name ++ bs)

point_comes : (c : ℕ) (cs name : List ℕ) → is_name name ≡ true → Refers (Word w.Point) (c ∷ cs) → ((front : List ℕ) → is_name front ≡ true → Refers (Word w.Later) cs → IsReference (front ++ cs)) → IsReference (name ++ 46 ∷ c ∷ cs)
point_comes c cs name e x ih = go (is_letter c) (is_digit c) refl refl x
  where
    go : (t u : Bool) → is_letter c ≡ t → is_digit c ≡ u → Refers (cond t (Word w.Later) (cond u (Word (w.Major (c - 48))) Dead)) cs → IsReference (name ++ 46 ∷ c ∷ cs)
    go true u p q y = in_front name (c ∷ cs) e (ih (c ∷ []) (letter_name c p) y)
    go false true p q y = with_versions name (c ∷ cs) e (versions_come c cs q y)
    go false false p q y = absurd (never k.Reference cs Dead refl y)

later_comes : (bs name : List ℕ) → is_name name ≡ true → Refers (Word w.Later) bs → IsReference (name ++ bs)
later_comes [] name e x = absurd (none-some _ x)
later_comes (b ∷ []) name e x = go (is_word b) (b == 46) x
  where
    go : (t u : Bool) → Refers (cond t (Word w.Later) (cond u (Word w.Point) Dead)) [] → IsReference (name ++ b ∷ [])
    go true u y = absurd (none-some _ y)
    go false true y = absurd (none-some _ y)
    go false false y = absurd (none-some _ y)
later_comes (b ∷ c ∷ cs) name e x = go (later_comes (c ∷ cs)) (later_comes cs) (is_word b) (b == 46) refl refl x
  where
    go : ((front : List ℕ) → is_name front ≡ true → Refers (Word w.Later) (c ∷ cs) → IsReference (front ++ c ∷ cs)) →
        ((front : List ℕ) → is_name front ≡ true → Refers (Word w.Later) cs → IsReference (front ++ cs)) →
        (t u : Bool) → is_word b ≡ t → (b == 46) ≡ u → Refers (cond t (Word w.Later) (cond u (Word w.Point) Dead)) (c ∷ cs) → IsReference (name ++ b ∷ c ∷ cs)
    go ih jh true u p q y = subst IsReference (append_assoc name (b ∷ []) (c ∷ cs)) (ih (name ++ b ∷ []) (name_more name b e p) y)
    go ih jh false true p q y = subst (λ v. IsReference (name ++ v ∷ c ∷ cs)) (sym (eqb-true b 46 q)) (point_comes c cs name e y jh)
    go ih jh false false p q y = absurd (never k.Reference (c ∷ cs) Dead refl y)

pub reference_comes : (text : List ℕ) → Refers Start text → IsReference text
reference_comes [] x = absurd (none-some _ x)
reference_comes (b ∷ bs) x = go (is_letter b) refl x
  where
    go : (t : Bool) → is_letter b ≡ t → Refers (cond t (Word w.First) (begin_other b)) bs → IsReference (b ∷ bs)
    go true p y = later_comes bs (b ∷ []) (letter_name b p) (later_of_first bs y)
    go false p y = absurd (never k.Reference bs (begin_other b) (other_may b k.Reference refl refl refl) y)

-- ---- a reference refers
letter_word : (b : ℕ) → is_letter b ≡ true → is_word b ≡ true
letter_word b e = rw e refl

over_words : (name bs : List ℕ) → list_all is_word name ≡ true → Refers (Word w.Later) bs → Refers (Word w.Later) (name ++ bs)
over_words [] bs e x = x
over_words (b ∷ name) bs e x =
    let p = and_parts (is_word b) (list_all is_word name) e in
    let stepped : name_step w.Later b ≡ Word w.Later = rw (p.0) refl in
    ap (λ s. kind_of (run s (name ++ bs))) stepped ∙ over_words name bs p.1 x

over_point : (name bs : List ℕ) → is_name name ≡ true → Refers (Word w.Point) bs → Refers (Word w.Point) (name ++ 46 ∷ bs) × Refers Start (name ++ 46 ∷ bs)
over_point [] bs e x = absurd (false≢true e)
over_point (b ∷ name) bs e x =
    let p = and_parts (is_letter b) (list_all is_word name) e in
    let later : Refers (Word w.Later) (name ++ 46 ∷ bs) = over_words name (46 ∷ bs) p.1 x in
    let stepped : point_step b ≡ Word w.Later = rw (p.0) refl in
    let begun : step Start b ≡ Word w.First = rw (p.0) refl in (
      ap (λ s. kind_of (run s (name ++ 46 ∷ bs))) stepped ∙ later,
      ap (λ s. kind_of (run s (name ++ 46 ∷ bs))) begun ∙ first_of_later (name ++ 46 ∷ bs) later,
    )

over_path : (path bs : List ℕ) → IsPath path → Refers (Word w.Point) bs → Refers (Word w.Point) (path ++ 46 ∷ bs) × Refers Start (path ++ 46 ∷ bs)
over_path path bs (one name e) x = over_point path bs e x
over_path path bs (more name rest e h eq) x =
    let inner = over_path rest bs h x in
    let all = over_point name (rest ++ 46 ∷ bs) e inner.0 in
    let same : path ++ 46 ∷ bs ≡ name ++ 46 ∷ (rest ++ 46 ∷ bs) = ap (λ v. v ++ 46 ∷ bs) eq ∙ append_assoc name (46 ∷ rest) (46 ∷ bs) in
    (subst (Refers (Word w.Point)) (sym same) all.0, subst (Refers Start) (sym same) all.1)

digit_no_letter : (b : ℕ) → is_digit b ≡ true → is_letter b ≡ false
digit_no_letter b e = grind (arith, nat_tests)

some_kind : (a n : ℕ) → 0 < a + n → kind_of (Word (w.Minor a n)) ≡ Some k.Reference
some_kind a n lt = go (a == 0) (n == 0) refl refl
  where
    go : (t u : Bool) → (a == 0) ≡ t → (n == 0) ≡ u → cond (t && u) None (Some k.Reference) ≡ Some k.Reference
    go true true p q = absurd (omega (arith, eqb-true a 0 p, eqb-true n 0 q))
    go true false p q = refl
    go false u p q = refl

minor_refers : (a : ℕ) (minor : List ℕ) → is_version minor ≡ true → 0 < a + number_of minor → Refers (Word (w.MajorPoint a)) minor
minor_refers a minor e lt =
    let t : Cut minor = cut minor e in
    let stepped : major_point_step a t.head ≡ Word (w.Minor a (t.head - 48)) = rw (t.digit) refl in
    let value : 0 < a + number_from (t.head - 48) t.tail = subst (λ v. 0 < a + v) t.value lt in
    subst (Refers (Word (w.MajorPoint a))) (sym t.is_text)
    (ap (λ s. kind_of (run s t.tail)) stepped ∙ ap kind_of (run_minor a (t.head - 48) t.tail t.more) ∙ some_kind a (number_from (t.head - 48) t.tail) value)

versions_refer : (major minor : List ℕ) → is_version major ≡ true → is_version minor ≡ true → 0 < number_of major + number_of minor → Refers (Word w.Point) (major ++ 46 ∷ minor)
versions_refer major minor e f lt =
    let t : Cut major = cut major e in
    let stepped : point_step t.head ≡ Word (w.Major (t.head - 48)) = rw (digit_no_letter t.head t.digit) (rw (t.digit) refl) in
    let value : 0 < number_from (t.head - 48) t.tail + number_of minor = subst (λ v. 0 < v + number_of minor) t.value lt in
    subst (λ v. Refers (Word w.Point) (v ++ 46 ∷ minor)) (sym t.is_text)
    (ap (λ s. kind_of (run s (t.tail ++ 46 ∷ minor))) stepped ∙ ap kind_of (run_major (t.head - 48) t.tail minor t.more) ∙ minor_refers (number_from (t.head - 48) t.tail) minor f value)

pub reference_refers : (text : List ℕ) → IsReference text → Refers Start text
reference_refers text r =
    let h = over_path r.path (r.major ++ 46 ∷ r.minor) r.is_path (versions_refer r.major r.minor r.is_major r.is_minor r.some_version) in
    subst (Refers Start) (sym r.is_text) h.1
