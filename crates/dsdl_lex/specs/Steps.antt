-- What a byte makes of a token so far.
use Rattle.std.specs.Prelude.{ℕ, Bool, true, false, if◌then◌else◌, ◌==◌, List, [], ◌∷◌, Option}
use Rattle.std.specs.Prelude.{Some, None, codes}
use Rattle.std.specs.List.{list_any}
use Rattle.dsdl_lex.specs.declared.token.TokenKind.{TokenKind}
use Rattle.dsdl_lex.specs.declared.token.TokenKind.TheVariants as k
use Rattle.dsdl_lex.specs.declared.state.State.{State}
use Rattle.dsdl_lex.specs.declared.state.State.TheVariants.{Start, Plain, Dead, Word, Number}
use Rattle.dsdl_lex.specs.declared.state.State.TheVariants.{Inside, Closed, Point, Sign, Pair}
use Rattle.dsdl_lex.specs.declared.word.WordState.{WordState}
use Rattle.dsdl_lex.specs.declared.word.WordState.TheVariants as w
use Rattle.dsdl_lex.specs.declared.number.NumberState.{NumberState}
use Rattle.dsdl_lex.specs.declared.number.NumberState.TheVariants as n
use Rattle.dsdl_lex.specs.declared.number.Digits.TheVariants as d
use Rattle.dsdl_lex.specs.Bytes.{is_letter, is_digit, is_quote, is_inside}
use Rattle.dsdl_lex.specs.Words.{word_step, word_kind}
use Rattle.dsdl_lex.specs.Numbers.{number_step, number_kind}

abbrev pub is_among : List ℕ → ℕ → Bool
is_among bs b = list_any (λ x. x == b) bs

abbrev pub begin_sign : ℕ → State
begin_sign b = if is_among (codes "@[](){},^+-/%") b then Sign else if is_among (codes "<>=!") b then Pair 61 else if is_among (codes "|&*") b then Pair b else Dead

abbrev pub begin_other : ℕ → State
begin_other b =
    if b == 48 then Number n.Zero else
    if is_digit b then Number (n.Digit d.Whole) else
    if is_quote b then Inside b else
    if b == 46 then Point else begin_sign b

abbrev pub begin : WordState → ℕ → State
begin word b = if is_letter b then Word word else begin_other b

abbrev pub inside_step : ℕ → ℕ → State
inside_step quote b = if b == quote then Closed else if is_inside quote b then Inside quote else Dead

abbrev pub point_step : ℕ → State
point_step b = if is_digit b then Number (n.Digit d.Fraction) else Dead

abbrev pub pair_step : ℕ → ℕ → State
pair_step second b = if second == b then Sign else Dead

abbrev pub step : State → ℕ → State
step Start b = begin w.First b
step Plain b = begin w.Plain b
step Dead b = Dead
step (Word s) b = word_step s b
step (Number s) b = number_step s b
step (Inside quote) b = inside_step quote b
step Closed b = Dead
step Point b = point_step b
step Sign b = Dead
step (Pair second) b = pair_step second b

abbrev pub kind_of : State → Option TokenKind
kind_of Start = None
kind_of Plain = None
kind_of Dead = None
kind_of (Word s) = word_kind s
kind_of (Number s) = number_kind s
kind_of (Inside quote) = None
kind_of Closed = Some k.Str
kind_of Point = Some k.Sign
kind_of Sign = Some k.Sign
kind_of (Pair second) = Some k.Sign

abbrev pub is_dead : State → Bool
is_dead Dead = true
is_dead Start = false
is_dead Plain = false
is_dead (Word s) = false
is_dead (Number s) = false
is_dead (Inside quote) = false
is_dead Closed = false
is_dead Point = false
is_dead Sign = false
is_dead (Pair second) = false

abbrev pub is_whole_point : NumberState → Bool
is_whole_point n.WholePoint = true
is_whole_point n.Zero = false
is_whole_point (n.Prefix digits) = false
is_whole_point (n.Digit digits) = false
is_whole_point (n.Underscore digits) = false
is_whole_point n.ExponentLetter = false
is_whole_point n.ExponentSign = false

abbrev pub is_pointed : State → Bool
is_pointed (Number s) = is_whole_point s
is_pointed Start = false
is_pointed Plain = false
is_pointed Dead = false
is_pointed (Word s) = false
is_pointed (Inside quote) = false
is_pointed Closed = false
is_pointed Point = false
is_pointed Sign = false
is_pointed (Pair second) = false

-- the state behind these bytes
abbrev pub run : State → List ℕ → State
run s [] = s
run s (b ∷ bs) = run (step s b) bs
