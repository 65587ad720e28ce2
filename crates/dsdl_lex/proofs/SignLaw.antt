-- The scan's signs are the texts that are signs.
use Rattle.std.proofs.Common.{◌≡◌, ℕ, Bool, true, false, ◌||◌, ◌&&◌, ◌==◌, cond, List, [], ◌∷◌, Some, ◌↔◌, refl, sym, ◌∙◌, subst, inl, inr, codes}
use Rattle.std.proofs.lemmas.Bool.{false≢true, eqb-true, or_cases}
use Rattle.std.proofs.lemmas.Option.{none-some}
use Rattle.std.specs.Str.{bytes_eq}
use Rattle.dsdl_lex.specs.declared.token.TokenKind.TheVariants as k
use Rattle.dsdl_lex.specs.declared.state.State.{State}
use Rattle.dsdl_lex.specs.declared.state.State.TheVariants.{Start, Plain, Dead, Word, Number, Inside, Closed, Point, Sign, Pair}
use Rattle.dsdl_lex.specs.declared.word.WordState.{WordState}
use Rattle.dsdl_lex.specs.declared.word.WordState.TheVariants as w
use Rattle.dsdl_lex.specs.declared.number.NumberState.TheVariants as n
use Rattle.dsdl_lex.specs.declared.number.Digits.TheVariants as d
use Rattle.dsdl_lex.specs.Bytes.{is_letter, is_digit, is_quote}
use Rattle.dsdl_lex.specs.NumberText.{is_nothing}
use Rattle.dsdl_lex.specs.Texts.{signs, is_one_of, is_sign}
use Rattle.dsdl_lex.specs.Steps.{run, step, kind_of, begin, begin_sign, is_among}
use Rattle.dsdl_lex.proofs.May.{may, never}

-- what of a sign is still to come
abbrev rest_of : State → List ℕ → Bool
rest_of Start bs = is_sign bs
rest_of Plain bs = is_sign bs
rest_of Dead bs = false
rest_of (Word s) bs = false
rest_of (Number s) bs = false
rest_of (Inside quote) bs = false
rest_of Closed bs = false
rest_of Point bs = is_nothing bs
rest_of Sign bs = is_nothing bs
rest_of (Pair second) bs = is_one_of ([] ∷ (second ∷ []) ∷ []) bs

-- the first bytes of texts
abbrev heads : List (List ℕ) → List ℕ
heads [] = []
heads ([] ∷ ss) = heads ss
heads ((b ∷ bs) ∷ ss) = b ∷ heads ss

-- it holds of each of these
abbrev OfEach : (ℕ → Type 0) → List ℕ → Type 0
OfEach P [] = Unit {0}
OfEach P (b ∷ bs) = P b × OfEach P bs

of_each : (P : ℕ → Type 0) (bs : List ℕ) (b : ℕ) → OfEach P bs → is_among bs b ≡ true → P b
of_each P [] b h e = absurd (false≢true e)
of_each P (x ∷ xs) b h e = elim (or_cases (x == b) (is_among xs b) e) [
  | inl s ↦ subst P (eqb-true x b s) h.0
  | inr s ↦ of_each P xs b h.1 s
]

no_head : (ss : List (List ℕ)) (b : ℕ) (bs : List ℕ) → is_among (heads ss) b ≡ false → is_one_of ss (b ∷ bs) ≡ false
no_head [] b bs e = refl
no_head ([] ∷ ss) b bs e = no_head ss b bs e
no_head ((x ∷ xs) ∷ ss) b bs e = go (no_head ss b bs) (x == b) e
  where
    go : (is_among (heads ss) b ≡ false → is_one_of ss (b ∷ bs) ≡ false) → (t : Bool) → (t || is_among (heads ss) b) ≡ false → ((t && bytes_eq xs bs) || is_one_of ss (b ∷ bs)) ≡ false
    go ih true f = absurd (false≢true (sym f))
    go ih false f = ih f

module _ (s : WordState) where
  -- of a byte that begins a sign
  one_byte : (b : ℕ) → is_among (heads signs) b ≡ true → is_sign (b ∷ []) ≡ rest_of (begin s b) []
  one_byte b e = of_each (λ v. is_sign (v ∷ []) ≡ rest_of (begin s v) []) (heads signs) b (refl, (refl, (refl, (refl, (refl, (refl, (refl, (refl, (refl, (refl, (refl, (refl, (refl, (refl, (refl, (refl, (refl, (refl, (refl, (refl, (refl, (refl, (refl, (refl, (refl, (refl, (refl, (refl, tt)))))))))))))))))))))))))))) e

  more_bytes : (b c : ℕ) (cs : List ℕ) → is_among (heads signs) b ≡ true → is_sign (b ∷ c ∷ cs) ≡ rest_of (begin s b) (c ∷ cs)
  more_bytes b c cs e = of_each (λ v. is_sign (v ∷ c ∷ cs) ≡ rest_of (begin s v) (c ∷ cs)) (heads signs) b (refl, (refl, (refl, (refl, (refl, (refl, (refl, (refl, (refl, (refl, (refl, (refl, (refl, (refl, (refl, (refl, (refl, (refl, (refl, (refl, (refl, (refl, (refl, (refl, (refl, (refl, (refl, (refl, tt)))))))))))))))))))))))))))) e

  begins : (b : ℕ) (bs : List ℕ) → is_among (heads signs) b ≡ true → is_sign (b ∷ bs) ≡ rest_of (begin s b) bs
  begins b [] e = one_byte b e
  begins b (c ∷ cs) e = more_bytes b c cs e

-- a byte that begins no sign is no point, and makes no sign
no_sign : (b : ℕ) (bs : List ℕ) → is_among (heads signs) b ≡ false → rest_of (begin_sign b) bs ≡ false
no_sign b bs e = go (is_among (codes "@[](){},^+-/%") b) (is_among (codes "<>=!") b) (is_among (codes "|&*") b)
    (λ h. of_each (λ v. is_among (heads signs) v ≡ true) (codes "@[](){},^+-/%") b (refl, (refl, (refl, (refl, (refl, (refl, (refl, (refl, (refl, (refl, (refl, (refl, (refl, tt))))))))))))) h)
    (λ h. of_each (λ v. is_among (heads signs) v ≡ true) (codes "<>=!") b (refl, (refl, (refl, (refl, tt)))) h)
    (λ h. of_each (λ v. is_among (heads signs) v ≡ true) (codes "|&*") b (refl, (refl, (refl, tt))) h)
  where
    go : (t u v : Bool) → (t ≡ true → is_among (heads signs) b ≡ true) → (u ≡ true → is_among (heads signs) b ≡ true) → (v ≡ true → is_among (heads signs) b ≡ true) →
        rest_of (cond t Sign (cond u (Pair 61) (cond v (Pair b) Dead))) bs ≡ false
    go true u v f g h = absurd (false≢true (sym e ∙ f refl))
    go false true v f g h = absurd (false≢true (sym e ∙ g refl))
    go false false true f g h = absurd (false≢true (sym e ∙ h refl))
    go false false false f g h = refl

no_point : (b : ℕ) → is_among (heads signs) b ≡ false → (b == 46) ≡ false
no_point b e = go (b == 46) refl
  where
    go : (t : Bool) → t ≡ (b == 46) → (b == 46) ≡ false
    go false h = sym h
    go true h = absurd (false≢true (sym e ∙ subst (λ v. is_among (heads signs) v ≡ true) (sym (eqb-true b 46 (sym h))) refl))

on_begin : (s : WordState) (b : ℕ) (bs : List ℕ) → is_sign (b ∷ bs) ≡ rest_of (begin s b) bs
on_begin s b bs = go (is_among (heads signs) b) refl
  where
    others : (l z g q p : Bool) → p ≡ false → rest_of (begin_sign b) bs ≡ false →
        rest_of (cond l (Word s) (cond z (Number n.Zero) (cond g (Number (n.Digit d.Whole)) (cond q (Inside b) (cond p Point (begin_sign b)))))) bs ≡ false
    others true z g q p e f = refl
    others false true g q p e f = refl
    others false false true q p e f = refl
    others false false false true p e f = refl
    others false false false false true e f = absurd (false≢true (sym e))
    others false false false false false e f = f

    go : (t : Bool) → t ≡ is_among (heads signs) b → is_sign (b ∷ bs) ≡ rest_of (begin s b) bs
    go true h = begins s b bs (sym h)
    go false h = no_head signs b bs (sym h) ∙ sym (others (is_letter b) (b == 48) (is_digit b) (is_quote b) (b == 46) (no_point b (sym h)) (no_sign b bs (sym h)))

on_pair : (second b : ℕ) (bs : List ℕ) → is_one_of ([] ∷ (second ∷ []) ∷ []) (b ∷ bs) ≡ rest_of (step (Pair second) b) bs
on_pair second b [] = go (second == b)
  where
    go : (t : Bool) → ((t && true) || false) ≡ rest_of (cond t Sign Dead) []
    go true = refl
    go false = refl
on_pair second b (c ∷ cs) = go (second == b)
  where
    go : (t : Bool) → ((t && false) || false) ≡ rest_of (cond t Sign Dead) (c ∷ cs)
    go true = refl
    go false = refl

on_point : (b : ℕ) (bs : List ℕ) → false ≡ rest_of (step Point b) bs
on_point b bs = go (is_digit b)
  where
    go : (t : Bool) → false ≡ rest_of (cond t (Number (n.Digit d.Fraction)) Dead) bs
    go true = refl
    go false = refl

-- a sign comes of the state where the test holds
abbrev IsSigns : State → List ℕ → Type 0
IsSigns s text = (kind_of (run s text) ≡ Some k.Sign) ↔ (rest_of s text ≡ true)

none : (s : State) (text : List ℕ) → may s k.Sign ≡ false → (kind_of (run s text) ≡ Some k.Sign) ↔ (false ≡ true)
none s text e = (λ h. absurd (never k.Sign text s e h), λ h. absurd (false≢true h))

no_word : (s : WordState) → may (Word s) k.Sign ≡ false
no_word w.Plain = refl
no_word w.First = refl
no_word w.Later = refl
no_word w.Point = refl
no_word (w.Major major) = refl
no_word (w.MajorPoint major) = refl
no_word (w.Minor major minor) = refl

next : (s : State) (b : ℕ) (bs : List ℕ) → rest_of s (b ∷ bs) ≡ rest_of (step s b) bs → IsSigns (step s b) bs → IsSigns s (b ∷ bs)
next s b bs e h = (λ x. e ∙ h.0 x, λ x. h.1 (sym e ∙ x))

pub signs_law : (text : List ℕ) (s : State) → IsSigns s text
signs_law text Dead = none Dead text refl
signs_law text (Word s) = none (Word s) text (no_word s)
signs_law text (Number s) = none (Number s) text refl
signs_law text (Inside quote) = none (Inside quote) text refl
signs_law text Closed = none Closed text refl
signs_law [] Start = (λ e. absurd (none-some _ e), λ e. absurd (false≢true e))
signs_law [] Plain = (λ e. absurd (none-some _ e), λ e. absurd (false≢true e))
signs_law [] Point = (λ e. refl, λ e. refl)
signs_law [] Sign = (λ e. refl, λ e. refl)
signs_law [] (Pair second) = (λ e. refl, λ e. refl)
signs_law (b ∷ bs) Start = next Start b bs (on_begin w.First b bs) (signs_law bs (step Start b))
signs_law (b ∷ bs) Plain = next Plain b bs (on_begin w.Plain b bs) (signs_law bs (step Plain b))
signs_law (b ∷ bs) Point = next Point b bs (on_point b bs) (signs_law bs (step Point b))
signs_law (b ∷ bs) Sign = next Sign b bs refl (signs_law bs Dead)
signs_law (b ∷ bs) (Pair second) = next (Pair second) b bs (on_pair second b bs) (signs_law bs (step (Pair second) b))
