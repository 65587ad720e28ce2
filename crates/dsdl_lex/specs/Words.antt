-- What a byte makes of a name or a reference so far.
use Rattle.std.specs.Prelude.{ℕ, ◌+◌, ◌-◌, ◌*◌, not, ◌&&◌, ◌||◌, if◌then◌else◌, ◌==◌, nat_lt}
use Rattle.std.specs.Prelude.{Option, Some, None}
use Rattle.dsdl_lex.specs.declared.token.TokenKind.{TokenKind}
use Rattle.dsdl_lex.specs.declared.token.TokenKind.TheVariants as k
use Rattle.dsdl_lex.specs.declared.state.State.{State}
use Rattle.dsdl_lex.specs.declared.state.State.TheVariants.{Word, Dead}
use Rattle.dsdl_lex.specs.declared.word.WordState.{WordState}
use Rattle.dsdl_lex.specs.declared.word.WordState.TheVariants as w
use Rattle.dsdl_lex.specs.Bytes.{is_letter, is_digit, is_word}

-- a digit more of a number that stays below 256 and doesn't begin with 0
abbrev pub digit_more : ℕ → ℕ → Option ℕ
digit_more n b = if not (is_digit b) || n == 0 then None else (if nat_lt (n * 10 + (b - 48)) 256 then Some (n * 10 + (b - 48)) else None)

abbrev pub or_dead : Option ℕ → (ℕ → State) → State
or_dead None f = Dead
or_dead (Some n) f = f n

abbrev pub name_step : WordState → ℕ → State
name_step s b = if is_word b then Word s else if b == 46 then Word w.Point else Dead

abbrev pub point_step : ℕ → State
point_step b = if is_letter b then Word w.Later else if is_digit b then Word (w.Major (b - 48)) else Dead

abbrev pub major_step : ℕ → ℕ → State
major_step major b = if b == 46 then Word (w.MajorPoint major) else or_dead (digit_more major b) (λ n. Word (w.Major n))

abbrev pub major_point_step : ℕ → ℕ → State
major_point_step major b = if is_digit b then Word (w.Minor major (b - 48)) else Dead

abbrev pub minor_step : ℕ → ℕ → ℕ → State
minor_step major minor b = or_dead (digit_more minor b) (λ n. Word (w.Minor major n))

abbrev pub plain_step : ℕ → State
plain_step b = if is_word b then Word w.Plain else Dead

abbrev pub word_step : WordState → ℕ → State
word_step w.Plain b = plain_step b
word_step w.First b = name_step w.First b
word_step w.Later b = name_step w.Later b
word_step w.Point b = point_step b
word_step (w.Major major) b = major_step major b
word_step (w.MajorPoint major) b = major_point_step major b
word_step (w.Minor major minor) b = minor_step major minor b

abbrev pub word_kind : WordState → Option TokenKind
word_kind w.Plain = Some k.Name
word_kind w.First = Some k.Name
word_kind (w.Minor major minor) = if major == 0 && minor == 0 then None else Some k.Reference
word_kind w.Later = None
word_kind w.Point = None
word_kind (w.Major major) = None
word_kind (w.MajorPoint major) = None
