-- Names and numbers in texts.
use Rattle.std.specs.Prelude.{ℕ, Bool, true, false, List, [], ◌∷◌, ◌+◌, ◌*◌, ◌-◌, ◌==◌, ◌||◌, ◌&&◌}
use Rattle.std.specs.Prelude.{Option, Some, None, if◌then◌else◌, length, nat_lt, nat_eq, codes}
use Rattle.std.specs.List.{list_all, list_any, starts_with, ends_with}
use Rattle.std.specs.Char.{is_ascii_alphabetic, is_ascii_alphanumeric, is_ascii_digit}
use Rattle.std.specs.Char.{to_ascii_lowercase}

-- a letter, a digit or `_`
abbrev pub is_name_byte : ℕ → Bool
is_name_byte b = is_ascii_alphanumeric b || (b == 95)

-- a letter or `_`
abbrev pub is_first : ℕ → Bool
is_first b = is_ascii_alphabetic b || (b == 95)

-- a letter or `_`, and then letters, digits and `_`
abbrev pub is_name : List ℕ → Bool
is_name [] = false
is_name (b ∷ s) = is_first b && list_all is_name_byte s

-- a word, with its letters in either case
abbrev pub is_word : List ℕ → List ℕ → Bool
is_word [] [] = true
is_word [] (b ∷ s) = false
is_word (w ∷ word) [] = false
is_word (w ∷ word) (b ∷ s) = (to_ascii_lowercase b == w) && is_word word s

-- a word, with its letters in either case, and behind it one digit or more and nothing else
abbrev pub is_numbered : List ℕ → List ℕ → Bool
is_numbered [] [] = false
is_numbered [] (b ∷ s) = list_all is_ascii_digit (b ∷ s)
is_numbered (w ∷ word) [] = false
is_numbered (w ∷ word) (b ∷ s) = (to_ascii_lowercase b == w) && is_numbered word s

-- a name of two bytes or more that begins and ends with `_`
abbrev pub is_between_underscores : List ℕ → Bool
is_between_underscores name =
    nat_lt 1 (length name) && (starts_with nat_eq name (95 ∷ []) && ends_with nat_eq name (95 ∷ []))

-- a name that is kept for the language: a word of it, a numbered one, or one between `_` and `_`
abbrev pub is_reserved : List ℕ → Bool
is_reserved name =
    list_any (λ word. is_word word name) (codes "truncated" ∷ codes "saturated" ∷ codes "true" ∷ codes "false" ∷ codes "bool" ∷ codes "void" ∷ codes "byte" ∷ codes "utf8" ∷ [])
    || (list_any (λ word. is_numbered word name) (codes "uint" ∷ codes "int" ∷ codes "float" ∷ codes "void" ∷ []) || is_between_underscores name)

-- the number whose decimal digits are those of n and then these
abbrev pub decimal_from : ℕ → List ℕ → Option ℕ
decimal_from n [] = Some n
decimal_from n (b ∷ s) = if nat_lt b 48 || nat_lt 57 b then None else decimal_from (n * 10 + (b - 48)) s

-- the number of a word of decimal digits without leading zeros
abbrev pub number_of : List ℕ → Option ℕ
number_of [] = None
number_of (b ∷ []) = decimal_from 0 (b ∷ [])
number_of (b ∷ c ∷ s) = if b == 48 then None else decimal_from 0 (b ∷ c ∷ s)

-- a number that is at most the greatest one
abbrev pub at_most : ℕ → Option ℕ → Option ℕ
at_most most None = None
at_most most (Some n) = if nat_lt most n then None else Some n

-- the number of a word, where it has one from 0 to the greatest one
abbrev pub number_to : ℕ → List ℕ → Option ℕ
number_to most word = at_most most (number_of word)
