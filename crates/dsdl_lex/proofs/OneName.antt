-- The names and versions of the grammar are those of types.
use Rattle.std.proofs.Common.{◌≡◌, ℕ, ◌+◌, ◌-◌, ◌*◌, Bool, true, false, not, ◌||◌, ◌&&◌, ◌==◌, cond, List, [], ◌∷◌, Some, None, refl, sym, ap, ◌∙◌, arith}
use Rattle.std.specs.Prelude.{nat_le, nat_lt}
use Rattle.std.specs.List.{list_all}
use Rattle.std.proofs.lemmas.Bool.Decides.{nat_tests}
use Rattle.dsdl_lex.specs.Bytes.{is_letter, is_digit, is_word}
use Rattle.dsdl_lex.specs.Texts.{is_name, is_version, number_from, number_of}
use Rattle.dsdl_names.specs.Words as names

-- ---- names
letters : (a b c : Bool) → (a || b || c) ≡ ((b || a) || c)
letters true true c = refl
letters true false c = refl
letters false true c = refl
letters false false c = refl

or_true : (b : Bool) → (b || true) ≡ true
or_true true = refl
or_true false = refl

words : (d a b c : Bool) → ((a || b || c) || d) ≡ (((d || b) || a) || c)
words true a b c = or_true (a || b || c)
words false true b c = ap (λ t. t || c) (sym (or_true b))
words false false true true = refl
words false false true false = refl
words false false false true = refl
words false false false false = refl

same_letter : (b : ℕ) → is_letter b ≡ names.is_first b
same_letter b = letters (nat_le 97 b && nat_le b 122) (nat_le 65 b && nat_le b 90) (b == 95)

same_word : (b : ℕ) → is_word b ≡ names.is_name_byte b
same_word b = words (is_digit b) (nat_le 97 b && nat_le b 122) (nat_le 65 b && nat_le b 90) (b == 95)

same_words : (bs : List ℕ) → list_all is_word bs ≡ list_all names.is_name_byte bs
same_words [] = refl
same_words (b ∷ bs) = ap (λ t. t && list_all is_word bs) (same_word b) ∙ ap (λ t. names.is_name_byte b && t) (same_words bs)

pub same_name : (name : List ℕ) → is_name name ≡ names.is_name name
same_name [] = refl
same_name (b ∷ bs) = ap (λ t. t && list_all is_word bs) (same_letter b) ∙ ap (λ t. names.is_first b && t) (same_words bs)

-- ---- versions
outside : (b : ℕ) → (nat_lt b 48 || nat_lt 57 b) ≡ not (is_digit b)
outside b = grind (arith, nat_tests)

same_decimal : (n : ℕ) (s : List ℕ) → names.decimal_from n s ≡ cond (list_all is_digit s) (Some (number_from n s)) None
same_decimal n [] = refl
same_decimal n (b ∷ s) =
    ap (λ t. cond t None (names.decimal_from (n * 10 + (b - 48)) s)) (outside b)
    ∙ of_test (is_digit b) (same_decimal (n * 10 + (b - 48)) s)
  where
    m : ℕ
    m = n * 10 + (b - 48)

    of_test : (t : Bool) → names.decimal_from m s ≡ cond (list_all is_digit s) (Some (number_from m s)) None
        → cond (not t) None (names.decimal_from m s) ≡ cond (t && list_all is_digit s) (Some (number_from m s)) None
    of_test true h = h
    of_test false h = refl

in_byte : (n : ℕ) → names.at_most 255 (Some n) ≡ cond (nat_lt n 256) (Some n) None
in_byte n = grind (arith, nat_tests)

one_digit : (d z : Bool) (n : ℕ) → names.at_most 255 (cond d (Some n) None) ≡ cond ((d && (z || true)) && nat_lt n 256) (Some n) None
one_digit true true n = in_byte n
one_digit true false n = in_byte n
one_digit false z n = refl

more_digits : (d z : Bool) (n : ℕ) → names.at_most 255 (cond z None (cond d (Some n) None)) ≡ cond ((d && (not z || false)) && nat_lt n 256) (Some n) None
more_digits true true n = refl
more_digits true false n = in_byte n
more_digits false true n = refl
more_digits false false n = refl

pub same_version : (text : List ℕ) → names.number_to 255 text ≡ cond (is_version text) (Some (number_of text)) None
same_version [] = refl
same_version (b ∷ []) =
    ap (names.at_most 255) (same_decimal 0 (b ∷ []))
    ∙ one_digit (list_all is_digit (b ∷ [])) (not (b == 48)) (number_of (b ∷ []))
same_version (b ∷ c ∷ s) =
    ap (λ o. names.at_most 255 (cond (b == 48) None o)) (same_decimal 0 (b ∷ c ∷ s))
    ∙ more_digits (list_all is_digit (b ∷ c ∷ s)) (b == 48) (number_of (b ∷ c ∷ s))
