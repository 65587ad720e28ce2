-- The scan's strings are the texts that are strings.
use Rattle.std.proofs.Common.{◌≡◌, ℕ, Bool, true, false, ◌||◌, ◌&&◌, ◌==◌, cond, List, [], ◌∷◌, Some, ◌↔◌, refl, sym, ◌∙◌, arith, codes}
use Rattle.std.proofs.lemmas.Bool.{false≢true}
use Rattle.std.proofs.lemmas.Option.{none-some}
use Rattle.std.proofs.lemmas.Bool.Decides.{nat_tests}
use Rattle.dsdl_lex.specs.declared.token.TokenKind.TheVariants as k
use Rattle.dsdl_lex.specs.declared.state.State.{State}
use Rattle.dsdl_lex.specs.declared.state.State.TheVariants.{Start, Plain, Dead, Word, Number, Inside, Closed, Point, Sign, Pair}
use Rattle.dsdl_lex.specs.declared.word.WordState.{WordState}
use Rattle.dsdl_lex.specs.declared.word.WordState.TheVariants as w
use Rattle.dsdl_lex.specs.declared.number.NumberState.TheVariants as n
use Rattle.dsdl_lex.specs.declared.number.Digits.TheVariants as d
use Rattle.dsdl_lex.specs.Bytes.{is_letter, is_digit, is_quote, is_inside}
use Rattle.dsdl_lex.specs.NumberText.{is_nothing}
use Rattle.dsdl_lex.specs.Texts.{is_closed, is_string}
use Rattle.dsdl_lex.specs.Steps.{run, step, kind_of, begin, begin_sign, is_among}
use Rattle.dsdl_lex.proofs.May.{may, never}

-- what of a string is still to come
abbrev rest_of : State → List ℕ → Bool
rest_of Start bs = is_string bs
rest_of Plain bs = is_string bs
rest_of Dead bs = false
rest_of (Word s) bs = false
rest_of (Number s) bs = false
rest_of (Inside quote) bs = is_closed quote bs
rest_of Closed bs = is_nothing bs
rest_of Point bs = false
rest_of Sign bs = false
rest_of (Pair second) bs = false

on_sign : (b : ℕ) (bs : List ℕ) → false ≡ rest_of (begin_sign b) bs
on_sign b bs = go (is_among (codes "@[](){},^+-/%") b) (is_among (codes "<>=!") b) (is_among (codes "|&*") b)
  where
    go : (t u v : Bool) → false ≡ rest_of (cond t Sign (cond u (Pair 61) (cond v (Pair b) Dead))) bs
    go true u v = refl
    go false true v = refl
    go false false true = refl
    go false false false = refl

-- a quote is no letter and no digit
quote_alone : (b : ℕ) → (is_quote b && (is_letter b || (b == 48 || is_digit b))) ≡ false
quote_alone b = grind (arith, nat_tests)

on_begin : (s : WordState) (b : ℕ) (bs : List ℕ) → is_string (b ∷ bs) ≡ rest_of (begin s b) bs
on_begin s b bs = go (is_quote b) (is_letter b) (b == 48) (is_digit b) (b == 46) (quote_alone b)
  where
    go : (q l z g p : Bool) → (q && (l || (z || g))) ≡ false →
        (q && is_closed b bs) ≡ rest_of (cond l (Word s) (cond z (Number n.Zero) (cond g (Number (n.Digit d.Whole)) (cond q (Inside b) (cond p Point (begin_sign b)))))) bs
    go true true z g p e = absurd (false≢true (sym e))
    go true false true g p e = absurd (false≢true (sym e))
    go true false false true p e = absurd (false≢true (sym e))
    go true false false false p e = refl
    go false true z g p e = refl
    go false false true g p e = refl
    go false false false true p e = refl
    go false false false false true e = refl
    go false false false false false e = on_sign b bs

on_inside : (quote b : ℕ) (bs : List ℕ) → is_closed quote (b ∷ bs) ≡ rest_of (step (Inside quote) b) bs
on_inside quote b bs = go (b == quote) (is_inside quote b)
  where
    go : (t u : Bool) → cond t (is_nothing bs) (u && is_closed quote bs) ≡ rest_of (cond t Closed (cond u (Inside quote) Dead)) bs
    go true u = refl
    go false true = refl
    go false false = refl

-- a string comes of the state where the test holds
abbrev Strings : State → List ℕ → Type 0
Strings s text = (kind_of (run s text) ≡ Some k.Str) ↔ (rest_of s text ≡ true)

none : (s : State) (text : List ℕ) → may s k.Str ≡ false → (kind_of (run s text) ≡ Some k.Str) ↔ (false ≡ true)
none s text e = (λ h. absurd (never k.Str text s e h), λ h. absurd (false≢true h))

no_word : (s : WordState) → may (Word s) k.Str ≡ false
no_word w.Plain = refl
no_word w.First = refl
no_word w.Later = refl
no_word w.Point = refl
no_word (w.Major major) = refl
no_word (w.MajorPoint major) = refl
no_word (w.Minor major minor) = refl

next : (s : State) (b : ℕ) (bs : List ℕ) → rest_of s (b ∷ bs) ≡ rest_of (step s b) bs → Strings (step s b) bs → Strings s (b ∷ bs)
next s b bs e h = (λ x. e ∙ h.0 x, λ x. h.1 (sym e ∙ x))

pub strings : (text : List ℕ) (s : State) → Strings s text
strings text Dead = none Dead text refl
strings text (Word s) = none (Word s) text (no_word s)
strings text (Number s) = none (Number s) text refl
strings text Point = none Point text refl
strings text Sign = none Sign text refl
strings text (Pair second) = none (Pair second) text refl
strings [] Start = (λ e. absurd (none-some _ e), λ e. absurd (false≢true e))
strings [] Plain = (λ e. absurd (none-some _ e), λ e. absurd (false≢true e))
strings [] (Inside quote) = (λ e. absurd (none-some _ e), λ e. absurd (false≢true e))
strings [] Closed = (λ e. refl, λ e. refl)
strings (b ∷ bs) Start = next Start b bs (on_begin w.First b bs) (strings bs (step Start b))
strings (b ∷ bs) Plain = next Plain b bs (on_begin w.Plain b bs) (strings bs (step Plain b))
strings (b ∷ bs) (Inside quote) = next (Inside quote) b bs (on_inside quote b bs) (strings bs (step (Inside quote) b))
strings (b ∷ bs) Closed = next Closed b bs refl (strings bs Dead)
