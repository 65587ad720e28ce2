-- Which kinds of token may come of a state.
use Rattle.std.proofs.Common.{◌≡◌, ℕ, Bool, true, false, ◌||◌, ◌&&◌, ◌==◌, cond, List, [], ◌∷◌, Option, Some, None, refl, sym, ◌∙◌, subst, codes}
use Rattle.std.proofs.lemmas.Bool.{false≢true}
use Rattle.std.proofs.lemmas.Option.{none-some, same_Some}
use Rattle.dsdl_lex.specs.declared.token.TokenKind.{TokenKind}
use Rattle.dsdl_lex.specs.declared.token.TokenKind.TheVariants as k
use Rattle.dsdl_lex.specs.declared.state.State.{State}
use Rattle.dsdl_lex.specs.declared.state.State.TheVariants.{Start, Plain, Dead, Word, Number, Inside, Closed, Point, Sign, Pair}
use Rattle.dsdl_lex.specs.declared.word.WordState.{WordState}
use Rattle.dsdl_lex.specs.declared.word.WordState.TheVariants as w
use Rattle.dsdl_lex.specs.declared.number.NumberState.{NumberState}
use Rattle.dsdl_lex.specs.declared.number.NumberState.TheVariants as n
use Rattle.dsdl_lex.specs.declared.number.Digits.{Digits}
use Rattle.dsdl_lex.specs.declared.number.Digits.TheVariants as d
use Rattle.dsdl_lex.specs.Bytes.{is_letter, is_digit, is_word, is_quote, is_inside, is_plus_minus, is_exponent_letter}
use Rattle.dsdl_lex.specs.Words.{digit_more, or_dead}
use Rattle.dsdl_lex.specs.Numbers.{is_digit_of, digit_step, letter_step, end_step, more_step, number_step}
use Rattle.dsdl_lex.specs.Steps.{run, step, kind_of, begin_other, begin_sign, is_among}

abbrev number_of_kind : TokenKind → ℕ
number_of_kind k.Reference = 0
number_of_kind k.Name = 1
number_of_kind k.Number = 2
number_of_kind k.Str = 3
number_of_kind k.Split = 4
number_of_kind k.Sign = 5

abbrev pub is : TokenKind → TokenKind → Bool
is j kind = number_of_kind j == number_of_kind kind

abbrev pub may_word : WordState → TokenKind → Bool
may_word w.Plain kind = is k.Name kind
may_word w.First kind = is k.Name kind || is k.Reference kind
may_word w.Later kind = is k.Reference kind
may_word w.Point kind = is k.Reference kind
may_word (w.Major major) kind = is k.Reference kind
may_word (w.MajorPoint major) kind = is k.Reference kind
may_word (w.Minor major minor) kind = is k.Reference kind

abbrev pub may : State → TokenKind → Bool
may Start kind = true
may Plain kind = true
may Dead kind = false
may (Word s) kind = may_word s kind
may (Number s) kind = is k.Number kind
may (Inside quote) kind = is k.Str kind
may Closed kind = is k.Str kind
may Point kind = is k.Number kind || is k.Sign kind
may Sign kind = is k.Sign kind
may (Pair second) kind = is k.Sign kind

pub both : (t : Bool) (x y : State) (kind : TokenKind) → may x kind ≡ false → may y kind ≡ false → may (cond t x y) kind ≡ false
both true x y kind p q = p
both false x y kind p q = q

left : (a b : Bool) → (a || b) ≡ false → a ≡ false
left true b e = e
left false b e = refl

right : (a b : Bool) → (a || b) ≡ false → b ≡ false
right true b e = absurd (false≢true (sym e))
right false b e = e

perhaps : (o : Option ℕ) (f : ℕ → State) (kind : TokenKind) → ((m : ℕ) → may (f m) kind ≡ false) → may (or_dead o f) kind ≡ false
perhaps None f kind h = refl
perhaps (Some m) f kind h = h m

module _ (b : ℕ) (kind : TokenKind) (e : is k.Number kind ≡ false) where
  in_digit : (digits : Digits) → may (digit_step digits b) kind ≡ false
  in_digit digits = both (is_digit_of digits b) (Number (n.Digit digits)) Dead kind e refl

  in_letter : may (letter_step b) kind ≡ false
  in_letter = both (is_exponent_letter b) (Number n.ExponentLetter) Dead kind e refl

  in_end : (digits : Digits) → may (end_step digits b) kind ≡ false
  in_end d.Whole = both (b == 46) (Number n.WholePoint) (letter_step b) kind e in_letter
  in_end d.Fraction = in_letter
  in_end d.Exponent = refl
  in_end d.Binary = refl
  in_end d.Octal = refl
  in_end d.Hexadecimal = refl

  in_more : (digits : Digits) → may (more_step digits b) kind ≡ false
  in_more digits = both (is_digit_of digits b) (Number (n.Digit digits)) _ kind e (both (b == 95) (Number (n.Underscore digits)) (end_step digits b) kind e (in_end digits))

  in_number : (s : NumberState) → may (number_step s b) kind ≡ false
  in_number n.Zero =
      both (b == 98 || b == 66) (Number (n.Prefix d.Binary)) _ kind e
      (both (b == 111 || b == 79) (Number (n.Prefix d.Octal)) _ kind e
      (both (b == 120 || b == 88) (Number (n.Prefix d.Hexadecimal)) (more_step d.Whole b) kind e (in_more d.Whole)))
  in_number (n.Prefix digits) = both (b == 95) (Number (n.Underscore digits)) (digit_step digits b) kind e (in_digit digits)
  in_number (n.Digit digits) = in_more digits
  in_number (n.Underscore digits) = in_digit digits
  in_number n.WholePoint = in_digit d.Fraction
  in_number n.ExponentLetter = both (is_plus_minus b) (Number n.ExponentSign) (digit_step d.Exponent b) kind e (in_digit d.Exponent)
  in_number n.ExponentSign = in_digit d.Exponent

stays_word : (s : WordState) (b : ℕ) (kind : TokenKind) → may_word s kind ≡ false → may (step (Word s) b) kind ≡ false
stays_word w.Plain b kind e = both (is_word b) (Word w.Plain) Dead kind e refl
stays_word w.First b kind e = both (is_word b) (Word w.First) _ kind e (both (b == 46) (Word w.Point) Dead kind (right (is k.Name kind) (is k.Reference kind) e) refl)
stays_word w.Later b kind e = both (is_word b) (Word w.Later) _ kind e (both (b == 46) (Word w.Point) Dead kind e refl)
stays_word w.Point b kind e = both (is_letter b) (Word w.Later) _ kind e (both (is_digit b) (Word (w.Major _)) Dead kind e refl)
stays_word (w.Major major) b kind e = both (b == 46) (Word (w.MajorPoint major)) _ kind e (perhaps (digit_more major b) (λ m. Word (w.Major m)) kind (λ m. e))
stays_word (w.MajorPoint major) b kind e = both (is_digit b) (Word (w.Minor major _)) Dead kind e refl
stays_word (w.Minor major minor) b kind e = perhaps (digit_more minor b) (λ m. Word (w.Minor major m)) kind (λ m. e)

stays : (s : State) (b : ℕ) (kind : TokenKind) → may s kind ≡ false → may (step s b) kind ≡ false
stays Start b kind e = absurd (false≢true (sym e))
stays Plain b kind e = absurd (false≢true (sym e))
stays Dead b kind e = refl
stays (Word s) b kind e = stays_word s b kind e
stays (Number s) b kind e = in_number b kind e s
stays (Inside quote) b kind e = both (b == quote) Closed _ kind e (both (is_inside quote b) (Inside quote) Dead kind e refl)
stays Closed b kind e = refl
stays Point b kind e = both (is_digit b) (Number (n.Digit d.Fraction)) Dead kind (left (is k.Number kind) (is k.Sign kind) e) refl
stays Sign b kind e = refl
stays (Pair second) b kind e = both (second == b) Sign Dead kind e refl

told : (s : State) (j kind : TokenKind) → may s j ≡ true → Some j ≡ Some kind → may s kind ≡ true
told s j kind h e = subst (λ v. may s v ≡ true) (same_Some j kind e) h

told_minor : (t : Bool) (major minor : ℕ) (kind : TokenKind) → ◌≡◌ {A = Option TokenKind} (cond t None (Some k.Reference)) (Some kind) → may (Word (w.Minor major minor)) kind ≡ true
told_minor true major minor kind e = absurd (none-some kind e)
told_minor false major minor kind e = told (Word (w.Minor major minor)) k.Reference kind refl e

told_number : (s : NumberState) (kind : TokenKind) → kind_of (Number s) ≡ Some kind → may (Number s) kind ≡ true
told_number n.Zero kind e = told (Number n.Zero) k.Number kind refl e
told_number (n.Digit digits) kind e = told (Number (n.Digit digits)) k.Number kind refl e
told_number n.WholePoint kind e = told (Number n.WholePoint) k.Number kind refl e
told_number (n.Prefix digits) kind e = absurd (none-some kind e)
told_number (n.Underscore digits) kind e = absurd (none-some kind e)
told_number n.ExponentLetter kind e = absurd (none-some kind e)
told_number n.ExponentSign kind e = absurd (none-some kind e)

-- a kind that a state tells is one that may come of it
tells : (s : State) (kind : TokenKind) → kind_of s ≡ Some kind → may s kind ≡ true
tells Start kind e = refl
tells Plain kind e = refl
tells Dead kind e = absurd (none-some kind e)
tells (Word w.Plain) kind e = told (Word w.Plain) k.Name kind refl e
tells (Word w.First) kind e = told (Word w.First) k.Name kind refl e
tells (Word w.Later) kind e = absurd (none-some kind e)
tells (Word w.Point) kind e = absurd (none-some kind e)
tells (Word (w.Major major)) kind e = absurd (none-some kind e)
tells (Word (w.MajorPoint major)) kind e = absurd (none-some kind e)
tells (Word (w.Minor major minor)) kind e = told_minor (major == 0 && minor == 0) major minor kind e
tells (Number s) kind e = told_number s kind e
tells (Inside quote) kind e = absurd (none-some kind e)
tells Closed kind e = told Closed k.Str kind refl e
tells Point kind e = told Point k.Sign kind refl e
tells Sign kind e = told Sign k.Sign kind refl e
tells (Pair second) kind e = told (Pair second) k.Sign kind refl e

-- a kind that can't come of a state doesn't
pub never : (kind : TokenKind) (text : List ℕ) (s : State) → may s kind ≡ false → kind_of (run s text) ≡ Some kind → ⊥
never kind [] s e h = false≢true (sym e ∙ tells s kind h)
never kind (b ∷ bs) s e h = never kind bs (step s b) (stays s b kind e) h

pub sign_may : (b : ℕ) (kind : TokenKind) → is k.Sign kind ≡ false → may (begin_sign b) kind ≡ false
sign_may b kind e =
    both (is_among (codes "@[](){},^+-/%") b) Sign (cond (is_among (codes "<>=!") b) (Pair 61) (cond (is_among (codes "|&*") b) (Pair b) Dead)) kind e
    (both (is_among (codes "<>=!") b) (Pair 61) (cond (is_among (codes "|&*") b) (Pair b) Dead) kind e (both (is_among (codes "|&*") b) (Pair b) Dead kind e refl))

-- what a first byte that is no letter makes
pub other_may : (b : ℕ) (kind : TokenKind) → is k.Number kind ≡ false → is k.Str kind ≡ false → is k.Sign kind ≡ false → may (begin_other b) kind ≡ false
other_may b kind en es eg =
    both (b == 48) (Number n.Zero) _ kind en
    (both (is_digit b) (Number (n.Digit d.Whole)) _ kind en
    (both (is_quote b) (Inside b) _ kind es
    (both (b == 46) Point (begin_sign b) kind (rw en (rw eg refl)) (sign_may b kind eg))))
