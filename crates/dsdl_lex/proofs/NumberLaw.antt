-- The scan's numbers are the texts that are numbers.
use Rattle.std.proofs.Common.{◌≡◌, ℕ, Bool, true, false, ◌||◌, ◌&&◌, ◌==◌, cond, List, [], ◌∷◌, Some, ◌↔◌, refl, sym, ◌∙◌, arith, codes}
use Rattle.std.proofs.lemmas.Bool.{false≢true}
use Rattle.std.proofs.lemmas.Option.{none-some}
use Rattle.std.proofs.lemmas.Bool.Decides.{nat_tests}
use Rattle.dsdl_lex.specs.declared.token.TokenKind.TheVariants as k
use Rattle.dsdl_lex.specs.declared.state.State.{State}
use Rattle.dsdl_lex.specs.declared.state.State.TheVariants.{Start, Plain, Dead, Word, Number, Inside, Closed, Point, Sign, Pair}
use Rattle.dsdl_lex.specs.declared.word.WordState.{WordState}
use Rattle.dsdl_lex.specs.declared.word.WordState.TheVariants as w
use Rattle.dsdl_lex.specs.declared.number.NumberState.{NumberState}
use Rattle.dsdl_lex.specs.declared.number.NumberState.TheVariants as n
use Rattle.dsdl_lex.specs.declared.number.Digits.{Digits}
use Rattle.dsdl_lex.specs.declared.number.Digits.TheVariants as d
use Rattle.dsdl_lex.specs.Bytes.{is_letter, is_digit, is_quote, is_plus_minus, is_exponent_letter}
use Rattle.dsdl_lex.specs.NumberText.{is_binary, is_octal, is_hexadecimal, is_nothing, digits_from, is_signed, is_exponent, is_fraction, is_whole_end, is_based, is_zero_end, is_number}
use Rattle.dsdl_lex.specs.Numbers.{is_digit_of, digit_step, letter_step, end_step, more_step, number_step}
use Rattle.dsdl_lex.specs.Steps.{run, step, kind_of, begin, begin_sign, is_among}
use Rattle.dsdl_lex.proofs.May.{may, never}

-- what stands behind such digits
abbrev end_of : Digits → List ℕ → Bool
end_of d.Whole bs = is_whole_end bs
end_of d.Fraction bs = is_exponent bs
end_of d.Exponent bs = is_nothing bs
end_of d.Binary bs = is_nothing bs
end_of d.Octal bs = is_nothing bs
end_of d.Hexadecimal bs = is_nothing bs

abbrev prefixed : Digits → List ℕ → Bool
prefixed digits [] = false
prefixed digits (b ∷ bs) = cond (b == 95) (digits_from false (is_digit_of digits) (end_of digits) bs) (digits_from false (is_digit_of digits) (end_of digits) (b ∷ bs))

-- what of a number is still to come
abbrev rest : NumberState → List ℕ → Bool
rest n.Zero bs = is_zero_end bs
rest (n.Prefix digits) bs = prefixed digits bs
rest (n.Digit digits) bs = digits_from true (is_digit_of digits) (end_of digits) bs
rest (n.Underscore digits) bs = digits_from false (is_digit_of digits) (end_of digits) bs
rest n.WholePoint bs = is_fraction bs
rest n.ExponentLetter bs = is_signed bs
rest n.ExponentSign bs = digits_from false is_digit is_nothing bs

abbrev rest_of : State → List ℕ → Bool
rest_of Start bs = is_number bs
rest_of Plain bs = is_number bs
rest_of Dead bs = false
rest_of (Word s) bs = false
rest_of (Number s) bs = rest s bs
rest_of (Inside quote) bs = false
rest_of Closed bs = false
rest_of Point bs = digits_from false is_digit is_exponent bs
rest_of Sign bs = false
rest_of (Pair second) bs = false

on_digit : (digits : Digits) (bs : List ℕ) (t : Bool) → cond t (rest (n.Digit digits) bs) false ≡ rest_of (cond t (Number (n.Digit digits)) Dead) bs
on_digit digits bs true = refl
on_digit digits bs false = refl

on_letter : (bs : List ℕ) (t : Bool) → (t && is_signed bs) ≡ rest_of (cond t (Number n.ExponentLetter) Dead) bs
on_letter bs true = refl
on_letter bs false = refl

on_end : (digits : Digits) (b : ℕ) (bs : List ℕ) → end_of digits (b ∷ bs) ≡ rest_of (end_step digits b) bs
on_end d.Whole b bs = go (b == 46)
  where
    go : (t : Bool) → cond t (is_fraction bs) (is_exponent_letter b && is_signed bs) ≡ rest_of (cond t (Number n.WholePoint) (letter_step b)) bs
    go true = refl
    go false = on_letter bs (is_exponent_letter b)
on_end d.Fraction b bs = on_letter bs (is_exponent_letter b)
on_end d.Exponent b bs = refl
on_end d.Binary b bs = refl
on_end d.Octal b bs = refl
on_end d.Hexadecimal b bs = refl

on_more : (digits : Digits) (b : ℕ) (bs : List ℕ) → digits_from true (is_digit_of digits) (end_of digits) (b ∷ bs) ≡ rest_of (more_step digits b) bs
on_more digits b bs = go (is_digit_of digits b) (b == 95)
  where
    go : (t u : Bool) → cond t (rest (n.Digit digits) bs) (cond u (rest (n.Underscore digits) bs) (end_of digits (b ∷ bs))) ≡ rest_of (cond t (Number (n.Digit digits)) (cond u (Number (n.Underscore digits)) (end_step digits b))) bs
    go true u = refl
    go false true = refl
    go false false = on_end digits b bs

on_prefix : (digits : Digits) (b : ℕ) (bs : List ℕ) → prefixed digits (b ∷ bs) ≡ rest_of (cond (b == 95) (Number (n.Underscore digits)) (digit_step digits b)) bs
on_prefix digits b bs = go (b == 95)
  where
    go : (t : Bool) → cond t (rest (n.Underscore digits) bs) (digits_from false (is_digit_of digits) (end_of digits) (b ∷ bs)) ≡ rest_of (cond t (Number (n.Underscore digits)) (digit_step digits b)) bs
    go true = refl
    go false = on_digit digits bs (is_digit_of digits b)

binary_prefixed : (bs : List ℕ) → is_based is_binary bs ≡ prefixed d.Binary bs
binary_prefixed [] = refl
binary_prefixed (b ∷ bs) = refl

octal_prefixed : (bs : List ℕ) → is_based is_octal bs ≡ prefixed d.Octal bs
octal_prefixed [] = refl
octal_prefixed (b ∷ bs) = refl

hexadecimal_prefixed : (bs : List ℕ) → is_based is_hexadecimal bs ≡ prefixed d.Hexadecimal bs
hexadecimal_prefixed [] = refl
hexadecimal_prefixed (b ∷ bs) = refl

on_zero : (b : ℕ) (bs : List ℕ) → is_zero_end (b ∷ bs) ≡ rest_of (number_step n.Zero b) bs
on_zero b bs = go (b == 98 || b == 66) (b == 111 || b == 79) (b == 120 || b == 88)
  where
    go : (t u v : Bool) →
        cond t (is_based is_binary bs) (cond u (is_based is_octal bs) (cond v (is_based is_hexadecimal bs) (digits_from true is_digit is_whole_end (b ∷ bs))))
        ≡ rest_of (cond t (Number (n.Prefix d.Binary)) (cond u (Number (n.Prefix d.Octal)) (cond v (Number (n.Prefix d.Hexadecimal)) (more_step d.Whole b)))) bs
    go true u v = binary_prefixed bs
    go false true v = octal_prefixed bs
    go false false true = hexadecimal_prefixed bs
    go false false false = on_more d.Whole b bs

on_exponent : (b : ℕ) (bs : List ℕ) → is_signed (b ∷ bs) ≡ rest_of (number_step n.ExponentLetter b) bs
on_exponent b bs = go (is_plus_minus b)
  where
    go : (t : Bool) → cond t (digits_from false is_digit is_nothing bs) (digits_from false is_digit is_nothing (b ∷ bs)) ≡ rest_of (cond t (Number n.ExponentSign) (digit_step d.Exponent b)) bs
    go true = refl
    go false = on_digit d.Exponent bs (is_digit b)

on_number : (s : NumberState) (b : ℕ) (bs : List ℕ) → rest s (b ∷ bs) ≡ rest_of (number_step s b) bs
on_number n.Zero b bs = on_zero b bs
on_number (n.Prefix digits) b bs = on_prefix digits b bs
on_number (n.Digit digits) b bs = on_more digits b bs
on_number (n.Underscore digits) b bs = on_digit digits bs (is_digit_of digits b)
on_number n.WholePoint b bs = on_digit d.Fraction bs (is_digit b)
on_number n.ExponentLetter b bs = on_exponent b bs
on_number n.ExponentSign b bs = on_digit d.Exponent bs (is_digit b)

on_sign : (b : ℕ) (bs : List ℕ) → false ≡ rest_of (begin_sign b) bs
on_sign b bs = go (is_among (codes "@[](){},^+-/%") b) (is_among (codes "<>=!") b) (is_among (codes "|&*") b)
  where
    go : (t u v : Bool) → false ≡ rest_of (cond t Sign (cond u (Pair 61) (cond v (Pair b) Dead))) bs
    go true u v = refl
    go false true v = refl
    go false false true = refl
    go false false false = refl

-- a letter is no digit and no point
letter_alone : (b : ℕ) → (is_letter b && (b == 48 || (b == 46 || is_digit b))) ≡ false
letter_alone b = grind (arith, nat_tests)

-- a point is no digit and no quote
point_alone : (b : ℕ) → (b == 46 && (is_digit b || is_quote b)) ≡ false
point_alone b = grind (arith, nat_tests)

on_begin : (s : WordState) (b : ℕ) (bs : List ℕ) → is_number (b ∷ bs) ≡ rest_of (begin s b) bs
on_begin s b bs = go (is_letter b) (b == 48) (b == 46) (is_digit b) (is_quote b) (letter_alone b) (point_alone b)
  where
    go : (l z p g q : Bool) → (l && (z || (p || g))) ≡ false → (p && (g || q)) ≡ false →
        cond z (is_zero_end bs) (cond p (digits_from false is_digit is_exponent bs) (cond g (digits_from true is_digit is_whole_end bs) false))
        ≡ rest_of (cond l (Word s) (cond z (Number n.Zero) (cond g (Number (n.Digit d.Whole)) (cond q (Inside b) (cond p Point (begin_sign b)))))) bs
    go true true p g q e f = absurd (false≢true (sym e))
    go true false true g q e f = absurd (false≢true (sym e))
    go true false false true q e f = absurd (false≢true (sym e))
    go true false false false q e f = refl
    go false true p g q e f = refl
    go false false true true q e f = absurd (false≢true (sym f))
    go false false true false true e f = absurd (false≢true (sym f))
    go false false true false false e f = refl
    go false false false true q e f = refl
    go false false false false true e f = refl
    go false false false false false e f = on_sign b bs

on_point : (b : ℕ) (bs : List ℕ) → digits_from false is_digit is_exponent (b ∷ bs) ≡ rest_of (step Point b) bs
on_point b bs = on_digit d.Fraction bs (is_digit b)

-- a number comes of the state where the test holds
abbrev Numbers : State → List ℕ → Type 0
Numbers s text = (kind_of (run s text) ≡ Some k.Number) ↔ (rest_of s text ≡ true)

none : (s : State) (text : List ℕ) → may s k.Number ≡ false → (kind_of (run s text) ≡ Some k.Number) ↔ (false ≡ true)
none s text e = (λ h. absurd (never k.Number text s e h), λ h. absurd (false≢true h))

no_word : (s : WordState) → may (Word s) k.Number ≡ false
no_word w.Plain = refl
no_word w.First = refl
no_word w.Later = refl
no_word w.Point = refl
no_word (w.Major major) = refl
no_word (w.MajorPoint major) = refl
no_word (w.Minor major minor) = refl

ended : (digits : Digits) → end_of digits [] ≡ true
ended d.Whole = refl
ended d.Fraction = refl
ended d.Exponent = refl
ended d.Binary = refl
ended d.Octal = refl
ended d.Hexadecimal = refl

at_end : (s : NumberState) → Numbers (Number s) []
at_end n.Zero = (λ e. refl, λ e. refl)
at_end (n.Prefix digits) = (λ e. absurd (none-some _ e), λ e. absurd (false≢true e))
at_end (n.Digit digits) = (λ e. ended digits, λ e. refl)
at_end (n.Underscore digits) = (λ e. absurd (none-some _ e), λ e. absurd (false≢true e))
at_end n.WholePoint = (λ e. refl, λ e. refl)
at_end n.ExponentLetter = (λ e. absurd (none-some _ e), λ e. absurd (false≢true e))
at_end n.ExponentSign = (λ e. absurd (none-some _ e), λ e. absurd (false≢true e))

next : (s : State) (b : ℕ) (bs : List ℕ) → rest_of s (b ∷ bs) ≡ rest_of (step s b) bs → Numbers (step s b) bs → Numbers s (b ∷ bs)
next s b bs e h = (λ x. e ∙ h.0 x, λ x. h.1 (sym e ∙ x))

pub numbers : (text : List ℕ) (s : State) → Numbers s text
numbers text Dead = none Dead text refl
numbers text (Word s) = none (Word s) text (no_word s)
numbers text (Inside quote) = none (Inside quote) text refl
numbers text Closed = none Closed text refl
numbers text Sign = none Sign text refl
numbers text (Pair second) = none (Pair second) text refl
numbers [] Start = (λ e. absurd (none-some _ e), λ e. absurd (false≢true e))
numbers [] Plain = (λ e. absurd (none-some _ e), λ e. absurd (false≢true e))
numbers [] Point = (λ e. absurd (cc), λ e. absurd (false≢true e))
numbers [] (Number s) = at_end s
numbers (b ∷ bs) Start = next Start b bs (on_begin w.First b bs) (numbers bs (step Start b))
numbers (b ∷ bs) Plain = next Plain b bs (on_begin w.Plain b bs) (numbers bs (step Plain b))
numbers (b ∷ bs) Point = next Point b bs (on_point b bs) (numbers bs (step Point b))
numbers (b ∷ bs) (Number s) = next (Number s) b bs (on_number s b bs) (numbers bs (number_step s b))
