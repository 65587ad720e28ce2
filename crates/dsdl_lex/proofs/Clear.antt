-- Where a scan from a name reaches without a reference, none begins.
use Rattle.std.proofs.Common.{◌≡◌, ℕ, zero, suc, ◌+◌, ◌-◌, ◌<◌, ◌≤◌, Bool, true, false, ◌&&◌, ◌==◌, cond, List, [], ◌∷◌, ◌++◌, length, take, drop, Option, Some, None, refl, sym, ap, ◌∙◌, subst, inl, inr, arith}
use Rattle.std.specs.List.{list_all}
use Rattle.std.specs.Prelude.{IfSome}
use Rattle.std.proofs.lemmas.Bool.{false≢true, cases_lt}
use Rattle.std.proofs.lemmas.Option.{none-some}
use Rattle.std.proofs.lemmas.List.{drop-drop, take-take}
use Rattle.std.proofs.lemmas.Bool.Decides.{nat_tests}
use Rattle.dsdl_lex.specs.declared.token.TokenKind.{TokenKind}
use Rattle.dsdl_lex.specs.declared.token.TokenKind.TheVariants as k
use Rattle.dsdl_lex.specs.declared.state.State.{State}
use Rattle.dsdl_lex.specs.declared.state.State.TheVariants.{Start, Plain, Dead, Word, Number, Inside, Closed, Point, Sign, Pair}
use Rattle.dsdl_lex.specs.declared.word.WordState.TheVariants as w
use Rattle.dsdl_lex.specs.Bytes.{is_letter, is_digit, is_word}
use Rattle.dsdl_lex.specs.Words.{digit_more, or_dead}
use Rattle.dsdl_lex.specs.Steps.{run, step, kind_of, is_dead, begin_other}
use Rattle.dsdl_lex.specs.Texts.{is_name}
use Rattle.dsdl_lex.specs.Tokens.{IsKind, IsLongest}
use Rattle.dsdl_lex.specs.Scans.{IsClear, IsAlive, is_name_kind, clear_after}
use Rattle.dsdl_lex.proofs.May.{never, other_may}
use Rattle.dsdl_lex.proofs.Runs.{run_append, stays_dead, dead_is}
use Rattle.dsdl_lex.proofs.Versions.{Refers}
use Rattle.dsdl_lex.proofs.ReferenceLaw.{later_of_first, reference_comes, reference_refers}
use Rattle.dsdl_lex.proofs.KindLaw.{one_kind}

-- the states behind bytes that begin with a letter
abbrev OnPath : State → Type 0
OnPath Start = ⊥
OnPath Plain = ⊥
OnPath Dead = Unit {0}
OnPath (Word w.Plain) = ⊥
OnPath (Word w.First) = Unit {0}
OnPath (Word w.Later) = Unit {0}
OnPath (Word w.Point) = Unit {0}
OnPath (Word (w.Major major)) = Unit {0}
OnPath (Word (w.MajorPoint major)) = Unit {0}
OnPath (Word (w.Minor major minor)) = Unit {0}
OnPath (Number s) = ⊥
OnPath (Inside quote) = ⊥
OnPath Closed = ⊥
OnPath Point = ⊥
OnPath Sign = ⊥
OnPath (Pair second) = ⊥

choose : (t : Bool) (x y : State) → OnPath x → OnPath y → OnPath (cond t x y)
choose true x y p q = p
choose false x y p q = q

perhaps : (o : Option ℕ) (f : ℕ → State) → ((m : ℕ) → OnPath (f m)) → OnPath (or_dead o f)
perhaps None f h = tt
perhaps (Some m) f h = h m

goes_on : (s : State) (b : ℕ) → OnPath s → OnPath (step s b)
goes_on Start b h = absurd h
goes_on Plain b h = absurd h
goes_on Dead b h = tt
goes_on (Word w.Plain) b h = absurd h
goes_on (Word w.First) b h = choose (is_word b) (Word w.First) _ tt (choose (b == 46) (Word w.Point) Dead tt tt)
goes_on (Word w.Later) b h = choose (is_word b) (Word w.Later) _ tt (choose (b == 46) (Word w.Point) Dead tt tt)
goes_on (Word w.Point) b h = choose (is_letter b) (Word w.Later) _ tt (choose (is_digit b) (Word (w.Major _)) Dead tt tt)
goes_on (Word (w.Major major)) b h = choose (b == 46) (Word (w.MajorPoint major)) _ tt (perhaps (digit_more major b) (λ m. Word (w.Major m)) (λ m. tt))
goes_on (Word (w.MajorPoint major)) b h = choose (is_digit b) (Word (w.Minor major _)) Dead tt tt
goes_on (Word (w.Minor major minor)) b h = perhaps (digit_more minor b) (λ m. Word (w.Minor major m)) (λ m. tt)
goes_on (Number s) b h = absurd h
goes_on (Inside quote) b h = absurd h
goes_on Closed b h = absurd h
goes_on Point b h = absurd h
goes_on Sign b h = absurd h
goes_on (Pair second) b h = absurd h

path_goes : (s : State) (bs : List ℕ) → OnPath s → OnPath (run s bs)
path_goes s [] h = h
path_goes s (b ∷ bs) h = path_goes (step s b) bs (goes_on s b h)

letter_begins : (b : ℕ) → is_letter b ≡ true → step Start b ≡ Word w.First
letter_begins b e = rw e refl

letter_no_digit : (b : ℕ) → is_letter b ≡ true → is_digit b ≡ false
letter_no_digit b e = grind (arith, nat_tests)

letter_no_point : (b : ℕ) → is_letter b ≡ true → (b == 46) ≡ false
letter_no_point b e = grind (arith, nat_tests)

dead_major : (major c : ℕ) → is_letter c ≡ true → step (Word (w.Major major)) c ≡ Dead
dead_major major c e = rw (letter_no_point c e) (rw (letter_no_digit c e) refl)

dead_major_point : (major c : ℕ) → is_letter c ≡ true → step (Word (w.MajorPoint major)) c ≡ Dead
dead_major_point major c e = rw (letter_no_digit c e) refl

dead_minor : (major minor c : ℕ) → is_letter c ≡ true → step (Word (w.Minor major minor)) c ≡ Dead
dead_minor major minor c e = rw (letter_no_digit c e) refl

-- a letter on the path that is alive stands in a name
in_name : (s : State) (c : ℕ) (bs : List ℕ) → OnPath s → is_letter c ≡ true → is_dead (step s c) ≡ false → Refers (Word w.First) bs → Refers (step s c) bs
in_name Start c bs h e a x = absurd h
in_name Plain c bs h e a x = absurd h
in_name Dead c bs h e a x = absurd (false≢true (sym a))
in_name (Word w.Plain) c bs h e a x = absurd h
in_name (Word w.First) c bs h e a x = let stepped : step (Word w.First) c ≡ Word w.First = rw e refl in subst (λ v. Refers v bs) (sym stepped) x
in_name (Word w.Later) c bs h e a x = let stepped : step (Word w.Later) c ≡ Word w.Later = rw e refl in subst (λ v. Refers v bs) (sym stepped) (later_of_first bs x)
in_name (Word w.Point) c bs h e a x = let stepped : step (Word w.Point) c ≡ Word w.Later = rw e refl in subst (λ v. Refers v bs) (sym stepped) (later_of_first bs x)
in_name (Word (w.Major major)) c bs h e a x = absurd (false≢true (sym a ∙ ap is_dead (dead_major major c e)))
in_name (Word (w.MajorPoint major)) c bs h e a x = absurd (false≢true (sym a ∙ ap is_dead (dead_major_point major c e)))
in_name (Word (w.Minor major minor)) c bs h e a x = absurd (false≢true (sym a ∙ ap is_dead (dead_minor major minor c e)))
in_name (Number s) c bs h e a x = absurd h
in_name (Inside quote) c bs h e a x = absurd h
in_name Closed c bs h e a x = absurd h
in_name Point c bs h e a x = absurd h
in_name Sign c bs h e a x = absurd h
in_name (Pair second) c bs h e a x = absurd h

-- a reference begins with a letter
reference_letter : (c : ℕ) (cs : List ℕ) → Refers Start (c ∷ cs) → (is_letter c ≡ true) × Refers (Word w.First) cs
reference_letter c cs x = go (is_letter c) refl x
  where
    go : (t : Bool) → is_letter c ≡ t → Refers (cond t (Word w.First) (begin_other c)) cs → (is_letter c ≡ true) × Refers (Word w.First) cs
    go true p y = (p, y)
    go false p y = absurd (never k.Reference cs (begin_other c) (other_may c k.Reference refl refl refl) y)

take_more : (text : List ℕ) (j m : ℕ) → j ≤ length text → take (j + m) text ≡ take j text ++ take m (drop j text)
take_more text zero m le = let e : 0 + m ≡ m = omega arith in ap (λ v. take v text) e
take_more [] (suc j) m le = absurd (omega arith)
take_more (b ∷ bs) (suc j) m le = let e : suc j + m ≡ suc (j + m) = omega arith in ap (λ v. take v (b ∷ bs)) e ∙ ap (λ v. b ∷ v) (take_more bs j m (omega arith))

-- a scan that is alive behind some bytes is alive behind fewer
alive_before : (s : State) (text : List ℕ) (i j : ℕ) → i ≤ j → j ≤ length text → is_dead (run s (take j text)) ≡ false → is_dead (run s (take i text)) ≡ false
alive_before s text i j le w a = go (is_dead (run s (take i text))) refl
  where
    go : (t : Bool) → is_dead (run s (take i text)) ≡ t → is_dead (run s (take i text)) ≡ false
    go false e = e
    go true e = absurd (false≢true (sym a ∙ ap is_dead (stays_dead s text i j (omega arith) (dead_is (run s (take i text)) e) le)))

-- a reference further on is one from here on
module _ (b : ℕ) (bs : List ℕ) (letter : is_letter b ≡ true) (reach : ℕ) (alive : IsAlive Start (b ∷ bs) reach) where
  abbrev whole_text : List ℕ
  whole_text = b ∷ bs

  path_at : (j : ℕ) → OnPath (run Start (take (suc j) whole_text))
  path_at j = subst (λ s. OnPath (run s (take j bs))) (sym (letter_begins b letter)) (path_goes (Word w.First) (take j bs) tt)

  -- at the first byte the step is that of the start
  joined : (j c : ℕ) (cs : List ℕ) → suc j < reach → suc j ≤ length whole_text → is_dead (run Start (take (suc j) whole_text ++ c ∷ [])) ≡ false → Refers Start (c ∷ cs) → Refers Start (take (suc j) whole_text ++ c ∷ cs)
  joined j c cs lt le a x =
      let p = reference_letter c cs x in
      let here : is_dead (step (run Start (take (suc j) whole_text)) c) ≡ false = ap is_dead (sym (run_append Start (take (suc j) whole_text) (c ∷ []))) ∙ a in
      ap kind_of (run_append Start (take (suc j) whole_text) (c ∷ cs)) ∙ in_name (run Start (take (suc j) whole_text)) c cs (path_at j) p.0 here p.1

  further : (j m : ℕ) → j < reach → j ≤ length whole_text → (r : List ℕ) → take m (drop j whole_text) ≡ r → Refers Start r → Refers Start (take (j + m) whole_text)
  further zero m lt le r e x = let same : 0 + m ≡ m = omega arith in subst (λ v. Refers Start (take v whole_text)) (sym same) (subst (Refers Start) (sym e) x)
  further (suc j) m lt le [] e x = absurd (none-some k.Reference x)
  further (suc j) m lt le (c ∷ cs) e x =
      let cut : take (suc j + m) whole_text ≡ take (suc j) whole_text ++ c ∷ cs = take_more whole_text (suc j) m le ∙ ap (λ v. take (suc j) whole_text ++ v) e in
      subst (Refers Start) (sym cut) (joined j c cs lt le (step_alive j m c cs lt e) x)
    where
      first_byte : (n m : ℕ) (c : ℕ) (cs xs : List ℕ) → take m xs ≡ c ∷ cs → take 1 xs ≡ c ∷ []
      first_byte n zero c cs xs e = absurd (cc)
      first_byte n (suc m) c cs [] e = absurd (cc)
      first_byte n (suc m) c cs (x ∷ xs) e = let h : x ≡ c = cc in ap (λ v. v ∷ []) h

      step_alive : (j m c : ℕ) (cs : List ℕ) → suc j < reach → take m (drop (suc j) whole_text) ≡ c ∷ cs → is_dead (run Start (take (suc j) whole_text ++ c ∷ [])) ≡ false
      step_alive j m c cs lt e =
          let one : take (suc j + 1) whole_text ≡ take (suc j) whole_text ++ c ∷ [] = take_more whole_text (suc j) 1 (omega (arith, alive.0)) ∙ ap (λ v. take (suc j) whole_text ++ v) (first_byte 0 m c cs (drop (suc j) whole_text) e) in
          ap (λ v. is_dead (run Start v)) (sym one) ∙ alive_before Start whole_text (suc j + 1) reach (omega arith) alive.0 alive.1

list_all_take : (t : ℕ → Bool) (n : ℕ) (xs : List ℕ) → list_all t xs ≡ true → list_all t (take n xs) ≡ true
list_all_take t zero xs e = refl
list_all_take t (suc n) [] e = refl
list_all_take t (suc n) (x ∷ xs) e = go (λ f. list_all_take t n xs f) (t x) e
  where
    go : (list_all t xs ≡ true → list_all t (take n xs) ≡ true) → (u : Bool) → (u && list_all t xs) ≡ true → (u && list_all t (take n xs)) ≡ true
    go ih true f = ih f
    go ih false f = absurd (false≢true f)

-- a front of a name is a name
name_front : (n m : ℕ) (text : List ℕ) → is_name (take n text) ≡ true → 0 < m → m ≤ n → is_name (take m text) ≡ true
name_front n zero text e lo hi = absurd (omega arith)
name_front zero (suc m) text e lo hi = absurd (omega arith)
name_front (suc n) (suc m) [] e lo hi = absurd (false≢true e)
name_front (suc n) (suc m) (b ∷ bs) e lo hi = go (is_letter b) e
  where
    shorter : list_all is_word (take n bs) ≡ true → list_all is_word (take m bs) ≡ true
    shorter f = subst (λ v. list_all is_word v ≡ true) (take-take m n bs (omega arith)) (list_all_take is_word m (take n bs) f)

    go : (u : Bool) → (u && list_all is_word (take n bs)) ≡ true → (u && list_all is_word (take m bs)) ≡ true
    go true f = shorter f
    go false f = absurd (false≢true f)

reference_some : (m : ℕ) (text : List ℕ) → Refers Start (take m text) → 0 < m
reference_some zero text x = absurd (none-some k.Reference x)
reference_some (suc m) text x = omega arith

name_letter : (n : ℕ) (text : List ℕ) → is_name (take n text) ≡ true → (b : ℕ) × (bs : List ℕ) × (text ≡ b ∷ bs) × (is_letter b ≡ true)
name_letter zero text e = absurd (false≢true e)
name_letter (suc n) [] e = absurd (false≢true e)
name_letter (suc n) (b ∷ bs) e = (b, bs, refl, go (is_letter b) e)
  where
    go : (u : Bool) → (u && list_all is_word (take n bs)) ≡ true → u ≡ true
    go true f = refl
    go false f = absurd (false≢true f)

-- the longest token is a name: no reference begins as far as the scan reaches
module _ (line : List ℕ) (at : ℕ) (inside : at ≤ length line) (n : ℕ) (name : IsLongest line at k.Name n) (reach : ℕ) (alive : IsAlive Start (drop at line) reach) where
  whole : (j m : ℕ) → j < reach → Refers Start (take m (drop j (drop at line))) → Refers Start (take (j + m) (drop at line))
  whole j m lt x =
      let f = name_letter n (drop at line) name.is_token.is_kind in
      let a : IsAlive Start (f.0 ∷ f.1) reach = subst (λ v. IsAlive Start v reach) f.2 alive in
      let y : Refers Start (take (j + m) (f.0 ∷ f.1)) = further f.0 f.1 f.3 reach a j m lt (omega (arith, a.0)) (take m (drop j (f.0 ∷ f.1))) refl (subst (λ v. Refers Start (take m (drop j v))) f.2 x) in
      subst (λ v. Refers Start (take (j + m) v)) (sym f.2) y

  none_at : (j : ℕ) → j < reach → (m : ℕ) → (at + j) + m ≤ length line → IsKind k.Reference (take m (drop (at + j) line)) → ⊥
  none_at j lt m within h =
      let moved : drop j (drop at line) ≡ drop (at + j) line = drop-drop j at line in
      let r : Refers Start (take m (drop j (drop at line))) = reference_refers (take m (drop j (drop at line))) (subst (λ v. IsKind k.Reference (take m v)) (sym moved) h) in
      let all : IsKind k.Reference (take (j + m) (drop at line)) = reference_comes (take (j + m) (drop at line)) (whole j m lt r) in
      elim (cases_lt n (j + m)) [
        | inl more ↦ name.no_longer k.Reference (j + m) more (record { within = omega arith; is_kind = all; may_stand = tt })
        | inr less ↦
            let front : is_name (take (j + m) (drop at line)) ≡ true = name_front n (j + m) (drop at line) name.is_token.is_kind (omega (arith, reference_some m (drop j (drop at line)) r)) less in
            no_both (one_kind (take (j + m) (drop at line)) k.Name k.Reference front all)
      ]
    where
      no_both : k.Name ≡ k.Reference → ⊥
      no_both e = cc

  pub clear_name : IsClear line at (at + reach)
  clear_name place lo hi m h =
      let e : at + (place - at) ≡ place = omega arith in
      none_at (place - at) (omega arith) m (subst (λ v. v + m ≤ length line) (sym e) h.within) (subst (λ v. IsKind k.Reference (take m (drop v line))) (sym e) h.is_kind)

name_kind : (kind : TokenKind) → is_name_kind kind ≡ true → kind ≡ k.Name
name_kind k.Name e = refl
name_kind k.Reference e = absurd (false≢true e)
name_kind k.Number e = absurd (false≢true e)
name_kind k.Str e = absurd (false≢true e)
name_kind k.Split e = absurd (false≢true e)
name_kind k.Sign e = absurd (false≢true e)

-- the place that a scan leaves
pub clear_behind : (line : List ℕ) (at reach clear : ℕ) (best : Option (TokenKind × ℕ)) → at ≤ length line → IfSome best (λ r. IsLongest line at r.0 r.1) → IsAlive Start (drop at line) reach → IsClear line at clear →
    IsClear line at (clear_after best at reach clear)
clear_behind line at reach clear None inside h a c = c
clear_behind line at reach clear (Some r) inside h a c = go (is_name_kind r.0) refl
  where
    go : (t : Bool) → is_name_kind r.0 ≡ t → IsClear line at (cond t (at + reach) clear)
    go true e = clear_name line at inside r.1 (subst (λ v. IsLongest line at v r.1) (name_kind r.0 e) h) reach a
    go false e = c
