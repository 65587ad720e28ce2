-- Words: the tokens of a line with their bytes, and which of them are signs.
use Rattle.std.specs.Prelude.{ℕ, ◌≤◌, Bool, true, false, ◌&&◌, ◌||◌, List, [], ◌∷◌, length, map}
use Rattle.std.specs.Prelude.{codes}
use Rattle.std.specs.List.{slice_range}
use Rattle.std.specs.Str.{bytes_eq}
use Rattle.dsdl_lex.specs.declared.token.Token.{Token}
use Rattle.dsdl_lex.specs.declared.token.TokenKind.{TokenKind}
use Rattle.dsdl_lex.specs.declared.token.TokenKind.TheVariants as k
use Rattle.dsdl_lex.specs.Tokens.{IsKind}
use Rattle.dsdl_parse.specs.declared.expr.Span.{Span}
use Rattle.dsdl_parse.specs.declared.words.WordRef.{WordRef}

-- a token with its bytes
pub record Word : Type 0 where
  pub kind : TokenKind
  pub text : List ℕ
  pub span : Span

abbrev pub word : List ℕ → Token → Word
word line t = record { kind = t.kind; text = slice_range line t.from t.to; span = record { from = t.from; to = t.to } }

-- the words that the tokens of a line are
abbrev pub words : List ℕ → List Token → List Word
words line ts = map (word line) ts

-- each token lies in the line, and its bytes are of its kind
abbrev pub AreTokens : List ℕ → List Token → Type 0
AreTokens line [] = Unit {0}
AreTokens line (t ∷ ts) = (t.from ≤ t.to) × (t.to ≤ length line) × IsKind t.kind (slice_range line t.from t.to) × AreTokens line ts

-- a word that the code took
abbrev pub seen : WordRef → Word
seen w = record { kind = w.kind; text = w.text.now; span = w.span }

-- the texts of some signs
abbrev pub Signs : Type 0
Signs = List (List ℕ)

abbrev pub any_of : Signs → List ℕ → Bool
any_of [] text = false
any_of (s ∷ ss) text = bytes_eq text s || any_of ss text

abbrev pub on_sign : Signs → TokenKind → List ℕ → Bool
on_sign ss k.Sign text = any_of ss text
on_sign ss _ text = false

-- the word is one of these signs
abbrev pub is_in : Signs → Word → Bool
is_in ss w = on_sign ss w.kind w.text

-- the next word is one of these signs
abbrev pub first_in : Signs → List Word → Bool
first_in ss [] = false
first_in ss (w ∷ ws) = is_in ss w

abbrev pub just : List ℕ → Signs
just s = s ∷ []

abbrev pub logics : Signs
logics = codes "||" ∷ codes "&&" ∷ []

abbrev pub orders : Signs
orders = codes "==" ∷ codes "!=" ∷ codes "<=" ∷ codes ">=" ∷ codes "<" ∷ codes ">" ∷ []

abbrev pub bit_signs : Signs
bit_signs = codes "|" ∷ codes "^" ∷ codes "&" ∷ []

abbrev pub plus_minus : Signs
plus_minus = codes "+" ∷ codes "-" ∷ []

abbrev pub times : Signs
times = codes "*" ∷ codes "/" ∷ codes "%" ∷ []

-- a word of this kind is a number, a string or a name
abbrev pub is_plain_kind : TokenKind → Bool
is_plain_kind k.Number = true
is_plain_kind k.Str = true
is_plain_kind k.Name = true
is_plain_kind _ = false

-- the signs that end an expression around which they stand
abbrev pub closing : Signs
closing = codes "]" ∷ codes "," ∷ codes "}" ∷ codes ")" ∷ []

-- no operator and no point: no sign at all, or one of those
abbrev pub may_follow : TokenKind → List ℕ → Bool
may_follow k.Sign text = any_of closing text
may_follow _ text = true

-- an expression in front of these words doesn't go on with them
abbrev pub at_end : List Word → Bool
at_end [] = true
at_end (w ∷ ws) = may_follow w.kind w.text

-- the first word is an expression and does not go on
abbrev pub alone : List Word → Bool
alone [] = false
alone (w ∷ ws) = is_plain_kind w.kind && at_end ws
