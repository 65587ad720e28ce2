-- The texts that are names, references, strings and signs.
use Rattle.std.specs.Prelude.{◌≡◌, ℕ, ◌+◌, ◌-◌, ◌*◌, ◌<◌, Bool, true, false, not, ◌&&◌, ◌||◌}
use Rattle.std.specs.Prelude.{if◌then◌else◌, ◌==◌, nat_le, nat_lt, List, [], ◌∷◌, ◌++◌, length}
use Rattle.std.specs.Prelude.{codes}
use Rattle.std.specs.List.{list_all}
use Rattle.std.specs.Str.{bytes_eq}
use Rattle.dsdl_lex.specs.Bytes.{is_letter, is_digit, is_word, is_quote, is_inside}
use Rattle.dsdl_lex.specs.NumberText.{is_nothing}

-- a letter or `_`, and letters, digits and `_`
abbrev pub is_name : List ℕ → Bool
is_name [] = false
is_name (b ∷ bs) = is_letter b && list_all is_word bs

-- bytes that may stand between these quotes, and the quote as the last byte
abbrev pub is_closed : ℕ → List ℕ → Bool
is_closed quote [] = false
is_closed quote (b ∷ bs) = if b == quote then is_nothing bs else is_inside quote b && is_closed quote bs

-- a string between `'` or between `"`
abbrev pub is_string : List ℕ → Bool
is_string [] = false
is_string (b ∷ bs) = is_quote b && is_closed b bs

-- all signs
abbrev pub signs : List (List ℕ)
signs =
    codes "@" ∷ codes "=" ∷ codes "[" ∷ codes "]" ∷ codes "(" ∷ codes ")" ∷ codes "{" ∷ codes "}" ∷ codes "," ∷ codes "." ∷
    codes "<=" ∷ codes "<" ∷ codes ">=" ∷ codes ">" ∷ codes "==" ∷ codes "!=" ∷ codes "||" ∷ codes "&&" ∷ codes "|" ∷ codes "^" ∷
    codes "&" ∷ codes "+" ∷ codes "-" ∷ codes "**" ∷ codes "*" ∷ codes "/" ∷ codes "%" ∷ codes "!" ∷ []

-- whether the text is one of these
abbrev pub is_one_of : List (List ℕ) → List ℕ → Bool
is_one_of [] text = false
is_one_of (s ∷ ss) text = bytes_eq s text || is_one_of ss text

abbrev pub is_sign : List ℕ → Bool
is_sign text = is_one_of signs text

abbrev pub is_dash : ℕ → Bool
is_dash b = b == 45

-- three or more `-`
abbrev pub is_split : List ℕ → Bool
is_split text = nat_le 3 (length text) && list_all is_dash text

-- the number that these decimal digits say behind those of n
abbrev pub number_from : ℕ → List ℕ → ℕ
number_from n [] = n
number_from n (b ∷ bs) = number_from (n * 10 + (b - 48)) bs

-- the number that decimal digits say
abbrev pub number_of : List ℕ → ℕ
number_of text = number_from 0 text

-- decimal 0 to 255 without leading zeros
abbrev pub is_version : List ℕ → Bool
is_version [] = false
is_version (b ∷ bs) = (list_all is_digit (b ∷ bs) && (not (b == 48) || is_nothing bs)) && nat_lt (number_of (b ∷ bs)) 256

-- names with a point between them
pub data IsPath : List ℕ → Type 0 where
  one : (name : List ℕ) → is_name name ≡ true → IsPath name
  more : {text : List ℕ} (name path : List ℕ) → is_name name ≡ true → IsPath path
      → text ≡ name ++ 46 ∷ path → IsPath text

-- names, a major and a minor version, points between them all; not version 0.0
pub record IsReference (text : List ℕ) : Type 0 where
  pub path : List ℕ
  pub major : List ℕ
  pub minor : List ℕ
  pub is_path : IsPath path
  pub is_major : is_version major ≡ true
  pub is_minor : is_version minor ≡ true
  pub some_version : 0 < number_of major + number_of minor
  pub is_text : text ≡ path ++ 46 ∷ (major ++ 46 ∷ minor)
