-- What a byte makes of a number so far.
use Rattle.std.specs.Prelude.{ℕ, Bool, ◌||◌, if◌then◌else◌, ◌==◌, Option, Some, None}
use Rattle.dsdl_lex.specs.declared.token.TokenKind.{TokenKind}
use Rattle.dsdl_lex.specs.declared.token.TokenKind.TheVariants as k
use Rattle.dsdl_lex.specs.declared.state.State.{State}
use Rattle.dsdl_lex.specs.declared.state.State.TheVariants.{Number, Dead}
use Rattle.dsdl_lex.specs.declared.number.NumberState.{NumberState}
use Rattle.dsdl_lex.specs.declared.number.NumberState.TheVariants as n
use Rattle.dsdl_lex.specs.declared.number.Digits.{Digits}
use Rattle.dsdl_lex.specs.declared.number.Digits.TheVariants as d
use Rattle.dsdl_lex.specs.Bytes.{is_digit, is_plus_minus, is_exponent_letter}
use Rattle.dsdl_lex.specs.NumberText.{is_hexadecimal, is_binary, is_octal}

abbrev pub is_digit_of : Digits → ℕ → Bool
is_digit_of d.Whole b = is_digit b
is_digit_of d.Fraction b = is_digit b
is_digit_of d.Exponent b = is_digit b
is_digit_of d.Binary b = is_binary b
is_digit_of d.Octal b = is_octal b
is_digit_of d.Hexadecimal b = is_hexadecimal b

abbrev pub letter_step : ℕ → State
letter_step b = if is_exponent_letter b then Number n.ExponentLetter else Dead

abbrev pub end_step : Digits → ℕ → State
end_step d.Whole b = if b == 46 then Number n.WholePoint else letter_step b
end_step d.Fraction b = letter_step b
end_step d.Exponent b = Dead
end_step d.Binary b = Dead
end_step d.Octal b = Dead
end_step d.Hexadecimal b = Dead

abbrev pub digit_step : Digits → ℕ → State
digit_step digits b = if is_digit_of digits b then Number (n.Digit digits) else Dead

abbrev pub more_step : Digits → ℕ → State
more_step digits b = if is_digit_of digits b then Number (n.Digit digits) else if b == 95 then Number (n.Underscore digits) else end_step digits b

abbrev pub prefix_step : Digits → ℕ → State
prefix_step digits b = if b == 95 then Number (n.Underscore digits) else digit_step digits b

abbrev pub zero_step : ℕ → State
zero_step b =
    if b == 98 || b == 66 then Number (n.Prefix d.Binary) else
    if b == 111 || b == 79 then Number (n.Prefix d.Octal) else
    if b == 120 || b == 88 then Number (n.Prefix d.Hexadecimal) else
    more_step d.Whole b

abbrev pub exponent_step : ℕ → State
exponent_step b = if is_plus_minus b then Number n.ExponentSign else digit_step d.Exponent b

abbrev pub number_step : NumberState → ℕ → State
number_step n.Zero b = zero_step b
number_step (n.Prefix digits) b = prefix_step digits b
number_step (n.Digit digits) b = more_step digits b
number_step (n.Underscore digits) b = digit_step digits b
number_step n.WholePoint b = digit_step d.Fraction b
number_step n.ExponentLetter b = exponent_step b
number_step n.ExponentSign b = digit_step d.Exponent b

abbrev pub number_kind : NumberState → Option TokenKind
number_kind n.Zero = Some k.Number
number_kind (n.Digit digits) = Some k.Number
number_kind n.WholePoint = Some k.Number
number_kind (n.Prefix digits) = None
number_kind (n.Underscore digits) = None
number_kind n.ExponentLetter = None
number_kind n.ExponentSign = None
