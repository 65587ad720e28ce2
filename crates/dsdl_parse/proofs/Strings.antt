-- A string has its two quotes.
use Rattle.std.proofs.Common.{◌≡◌, ℕ, ◌-◌, ◌≤◌, true, List, [], ◌∷◌, length, take, drop, arith}
use Rattle.std.specs.Str.{IsAscii}
use Rattle.std.proofs.lemmas.Str.{IsAscii-take, IsAscii-drop}
use Rattle.std.proofs.lemmas.Bool.{and_parts, false≢true}
use Rattle.dsdl_lex.specs.Bytes.{is_quote}
use Rattle.dsdl_lex.specs.Texts.{is_closed, is_string}

pub two_quotes : (text : List ℕ) → is_string text ≡ true → 2 ≤ length text
two_quotes [] e = absurd (false≢true e)
two_quotes (b ∷ []) e = absurd (false≢true (and_parts (is_quote b) (is_closed b []) e).1)
two_quotes (b ∷ c ∷ s) e = omega arith

pub inside_ascii : (text : List ℕ) → IsAscii text → IsAscii (take (length text - 1 - 1) (drop 1 text))
inside_ascii text h = IsAscii-take (drop 1 text) (length text - 1 - 1) (IsAscii-drop text 1 h)
