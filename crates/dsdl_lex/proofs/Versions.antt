-- The digits of a version.
use Rattle.std.proofs.Common.{◌≡◌, ℕ, ◌+◌, ◌-◌, ◌*◌, ◌<◌, ◌≤◌, Bool, true, false, not, ◌&&◌, ◌||◌, ◌==◌, cond, List, [], ◌∷◌, ◌++◌, Option, Some, None, refl, sym, ap, ◌∙◌, subst, arith}
use Rattle.std.specs.List.{list_all}
use Rattle.std.specs.Prelude.{nat_lt}
use Rattle.std.proofs.lemmas.Bool.{and_parts, false≢true, eqb-true, eqb-false, ltb-true, lt-ltb}
use Rattle.std.proofs.lemmas.Option.{none-some, same_Some}
use Rattle.std.proofs.lemmas.Bool.Decides.{nat_tests}
use Rattle.dsdl_lex.specs.declared.token.TokenKind.{TokenKind}
use Rattle.dsdl_lex.specs.declared.token.TokenKind.TheVariants as k
use Rattle.dsdl_lex.specs.declared.state.State.{State}
use Rattle.dsdl_lex.specs.declared.state.State.TheVariants.{Dead, Word}
use Rattle.dsdl_lex.specs.declared.word.WordState.TheVariants as w
use Rattle.dsdl_lex.specs.Bytes.{is_digit}
use Rattle.dsdl_lex.specs.NumberText.{is_nothing}
use Rattle.dsdl_lex.specs.Texts.{number_from, number_of, is_version}
use Rattle.dsdl_lex.specs.Words.{digit_more, or_dead, major_step, minor_step}
use Rattle.dsdl_lex.specs.Steps.{run, kind_of}
use Rattle.dsdl_lex.proofs.May.{never}

pub grows : (n : ℕ) (bs : List ℕ) → n ≤ number_from n bs
grows n [] = omega arith
grows n (b ∷ bs) = omega (arith, grows (n * 10 + (b - 48)) bs)

-- more digits behind those of n, still a version
pub record More (n : ℕ) (bs : List ℕ) : Type 0 where
  pub digits : list_all is_digit bs ≡ true
  pub small : number_from n bs < 256
  pub no_zero : n ≡ 0 → bs ≡ []

some : (t z u : Bool) (n : ℕ) → t ≡ true → z ≡ false → u ≡ true → cond (not t || z) None (cond u (Some n) None) ≡ Some n
some t z u n p q r = rw (p, q, r) refl

-- a digit more is taken
taken : (n b : ℕ) → is_digit b ≡ true → (n ≡ 0 → ⊥) → n * 10 + (b - 48) < 256 → digit_more n b ≡ Some (n * 10 + (b - 48))
taken n b d nz lt = some (is_digit b) (n == 0) (nat_lt (n * 10 + (b - 48)) 256) (n * 10 + (b - 48)) d (zero_test (n == 0) refl) (lt-ltb (n * 10 + (b - 48)) 256 lt)
  where
    zero_test : (t : Bool) → t ≡ (n == 0) → (n == 0) ≡ false
    zero_test false e = sym e
    zero_test true e = absurd (nz (eqb-true n 0 (sym e)))

-- what is known of a digit that was taken
pub record Taken (n b m : ℕ) : Type 0 where
  pub digit : is_digit b ≡ true
  pub no_zero : n ≡ 0 → ⊥
  pub value : m ≡ n * 10 + (b - 48)
  pub small : m < 256

was_taken : (n b m : ℕ) → digit_more n b ≡ Some m → Taken n b m
was_taken n b m e = go (is_digit b) (n == 0) (nat_lt (n * 10 + (b - 48)) 256) refl refl refl e
  where
    go : (t z u : Bool) → is_digit b ≡ t → (n == 0) ≡ z → nat_lt (n * 10 + (b - 48)) 256 ≡ u → ◌≡◌ {A = Option ℕ} (cond (not t || z) None (cond u (Some (n * 10 + (b - 48))) None)) (Some m) → Taken n b m
    go false z u p q r x = absurd (none-some m x)
    go true true u p q r x = absurd (none-some m x)
    go true false false p q r x = absurd (none-some m x)
    go true false true p q r x =
        let same : n * 10 + (b - 48) ≡ m = same_Some (n * 10 + (b - 48)) m x in
        record { digit = p; no_zero = eqb-false n 0 q; value = sym same; small = subst (λ v. v < 256) same (ltb-true (n * 10 + (b - 48)) 256 r) }

digit_no_point : (b : ℕ) → is_digit b ≡ true → (b == 46) ≡ false
digit_no_point b e = grind (arith, nat_tests)

-- a digit more behind those of n
step_more : (n b : ℕ) (bs : List ℕ) → More n (b ∷ bs) → (digit_more n b ≡ Some (n * 10 + (b - 48))) × More (n * 10 + (b - 48)) bs × (is_digit b ≡ true)
step_more n b bs h =
    let ds : (is_digit b ≡ true) × (list_all is_digit bs ≡ true) = and_parts (is_digit b) (list_all is_digit bs) h.digits in
    let nz : n ≡ 0 → ⊥ = λ e. cons_nil b bs (h.no_zero e) in (
      taken n b ds.0 nz (omega (arith, grows (n * 10 + (b - 48)) bs, h.small)),
      record { digits = ds.1; small = h.small; no_zero = λ e. absurd (nz (omega arith)) },
      ds.0,
    )
  where
    cons_nil : (x : ℕ) (xs : List ℕ) → ◌≡◌ {A = List ℕ} (x ∷ xs) [] → ⊥
    cons_nil x xs e = cc

pub run_major : (n : ℕ) (bs rest : List ℕ) → More n bs → run (Word (w.Major n)) (bs ++ 46 ∷ rest) ≡ run (Word (w.MajorPoint (number_from n bs))) rest
run_major n [] rest h = refl
run_major n (b ∷ bs) rest h =
    let m = step_more n b bs h in
    let stepped : major_step n b ≡ Word (w.Major (n * 10 + (b - 48))) = rw (digit_no_point b m.2) (rw m.0 refl) in
    ap (λ s. run s (bs ++ 46 ∷ rest)) stepped ∙ run_major (n * 10 + (b - 48)) bs rest m.1

pub run_minor : (a n : ℕ) (bs : List ℕ) → More n bs → run (Word (w.Minor a n)) bs ≡ Word (w.Minor a (number_from n bs))
run_minor a n [] h = refl
run_minor a n (b ∷ bs) h =
    let m = step_more n b bs h in
    let stepped : minor_step a n b ≡ Word (w.Minor a (n * 10 + (b - 48))) = rw m.0 refl in
    ap (λ s. run s bs) stepped ∙ run_minor a (n * 10 + (b - 48)) bs m.1

-- a reference comes of the state
abbrev pub Refers : State → List ℕ → Type 0
Refers s bs = kind_of (run s bs) ≡ Some k.Reference

-- the digits of the minor version that come
pub record Minor (a n : ℕ) (bs : List ℕ) : Type 0 where
  pub more : More n bs
  pub some : 0 < a + number_from n bs

not_both_zero : (a n : ℕ) → ◌≡◌ {A = Option TokenKind} (cond (a == 0 && n == 0) None (Some k.Reference)) (Some k.Reference) → 0 < a + n
not_both_zero a n e = go (a == 0) (n == 0) refl refl e
  where
    go : (t u : Bool) → (a == 0) ≡ t → (n == 0) ≡ u → ◌≡◌ {A = Option TokenKind} (cond (t && u) None (Some k.Reference)) (Some k.Reference) → 0 < a + n
    go true true p q x = absurd (none-some k.Reference x)
    go true false p q x = omega (arith, eqb-false n 0 q)
    go false u p q x = omega (arith, eqb-false a 0 p)

more_before : (n b m : ℕ) (bs : List ℕ) → Taken n b m → More m bs → More n (b ∷ bs)
more_before n b m bs t h = record {
  digits = rw (t.digit) (h.digits);
  small = subst (λ v. number_from v bs < 256) t.value h.small;
  no_zero = λ e. absurd (t.no_zero e);
}

pub minor_comes : (a n : ℕ) (bs : List ℕ) → n < 256 → Refers (Word (w.Minor a n)) bs → Minor a n bs
minor_comes a n [] lt e = record { more = record { digits = refl; small = lt; no_zero = λ z. refl }; some = not_both_zero a n e }
minor_comes a n (b ∷ bs) lt e = go (λ m. minor_comes a m bs) (digit_more n b) refl e
  where
    go : ((m : ℕ) → m < 256 → Refers (Word (w.Minor a m)) bs → Minor a m bs) → (o : Option ℕ) → digit_more n b ≡ o → Refers (or_dead o (λ m. Word (w.Minor a m))) bs → Minor a n (b ∷ bs)
    go ih None p x = absurd (never k.Reference bs Dead refl x)
    go ih (Some m) p x =
        let t : Taken n b m = was_taken n b m p in
        let h : Minor a m bs = ih m t.small x in
        record { more = more_before n b m bs t h.more; some = subst (λ v. 0 < a + number_from v bs) t.value h.some }

-- the digits of the major version that come, and what is behind their point
pub record Major (n : ℕ) (bs : List ℕ) : Type 0 where
  pub front : List ℕ
  pub back : List ℕ
  pub is_text : bs ≡ front ++ 46 ∷ back
  pub more : More n front
  pub refers : Refers (Word (w.MajorPoint (number_from n front))) back

pub major_comes : (n : ℕ) (bs : List ℕ) → n < 256 → Refers (Word (w.Major n)) bs → Major n bs
major_comes n [] lt e = absurd (none-some k.Reference e)
major_comes n (b ∷ bs) lt e = go (λ m. major_comes m bs) (b == 46) refl (digit_more n b) refl e
  where
    go : ((m : ℕ) → m < 256 → Refers (Word (w.Major m)) bs → Major m bs) → (t : Bool) → (b == 46) ≡ t → (o : Option ℕ) → digit_more n b ≡ o →
        Refers (cond t (Word (w.MajorPoint n)) (or_dead o (λ m. Word (w.Major m)))) bs → Major n (b ∷ bs)
    go ih true q o p x = record {
      front = [];
      back = bs;
      is_text = ap (λ v. v ∷ bs) (eqb-true b 46 q);
      more = record { digits = refl; small = lt; no_zero = λ z. refl };
      refers = x;
    }
    go ih false q None p x = absurd (never k.Reference bs Dead refl x)
    go ih false q (Some m) p x =
        let t : Taken n b m = was_taken n b m p in
        let h : Major m bs = ih m t.small x in
        record {
          front = b ∷ h.front;
          back = h.back;
          is_text = ap (λ v. b ∷ v) h.is_text;
          more = more_before n b m h.front t h.more;
          refers = subst (λ v. Refers (Word (w.MajorPoint (number_from v h.front))) h.back) t.value h.refers;
        }

-- a version's first digit and the others
pub record Cut (text : List ℕ) : Type 0 where
  pub head : ℕ
  pub tail : List ℕ
  pub is_text : text ≡ head ∷ tail
  pub digit : is_digit head ≡ true
  pub more : More (head - 48) tail
  pub value : number_of text ≡ number_from (head - 48) tail

pub from_zero : (b : ℕ) (bs : List ℕ) → number_of (b ∷ bs) ≡ number_from (b - 48) bs
from_zero b bs = let e : 0 * 10 + (b - 48) ≡ b - 48 = omega arith in ap (λ n. number_from n bs) e

digit_zero : (b : ℕ) → is_digit b ≡ true → b - 48 ≡ 0 → (b == 48) ≡ true
digit_zero b d e = grind (arith, nat_tests)

zero_digit : (b : ℕ) → (b == 48) ≡ true → b - 48 ≡ 0
zero_digit b e = omega (arith, eqb-true b 48 e)

nothing_is : (bs : List ℕ) → is_nothing bs ≡ true → bs ≡ []
nothing_is [] e = refl
nothing_is (b ∷ bs) e = absurd (false≢true e)

pub cut : (text : List ℕ) → is_version text ≡ true → Cut text
cut [] e = absurd (false≢true e)
cut (b ∷ bs) e =
    let p : ((list_all is_digit (b ∷ bs) && (not (b == 48) || is_nothing bs)) ≡ true) × (nat_lt (number_of (b ∷ bs)) 256 ≡ true) = and_parts _ _ e in
    let q : (list_all is_digit (b ∷ bs) ≡ true) × ((not (b == 48) || is_nothing bs) ≡ true) = and_parts _ _ p.0 in
    let ds : (is_digit b ≡ true) × (list_all is_digit bs ≡ true) = and_parts _ _ q.0 in
    record {
      head = b;
      tail = bs;
      is_text = refl;
      digit = ds.0;
      more = record {
        digits = ds.1;
        small = subst (λ v. v < 256) (from_zero b bs) (ltb-true (number_of (b ∷ bs)) 256 p.1);
        no_zero = λ z. nothing_is bs (alone (b == 48) (is_nothing bs) (digit_zero b ds.0 z) q.1);
      };
      value = from_zero b bs;
    }
  where
    alone : (t u : Bool) → t ≡ true → (not t || u) ≡ true → u ≡ true
    alone true u p q = q
    alone false u p q = absurd (false≢true p)

pub is_cut : (b : ℕ) (bs : List ℕ) → is_digit b ≡ true → More (b - 48) bs → is_version (b ∷ bs) ≡ true
is_cut b bs d h = all_true (is_digit b) (list_all is_digit bs) (not (b == 48) || is_nothing bs) (nat_lt (number_of (b ∷ bs)) 256) d h.digits (alone (b == 48) refl) (lt-ltb (number_of (b ∷ bs)) 256 (subst (λ v. v < 256) (sym (from_zero b bs)) h.small))
  where
    all_true : (t u v x : Bool) → t ≡ true → u ≡ true → v ≡ true → x ≡ true → (((t && u) && v) && x) ≡ true
    all_true t u v x p q r s = rw (p, q, r, s) refl

    alone : (t : Bool) → (b == 48) ≡ t → (not t || is_nothing bs) ≡ true
    alone false e = refl
    alone true e = ap is_nothing (h.no_zero (zero_digit b e))
