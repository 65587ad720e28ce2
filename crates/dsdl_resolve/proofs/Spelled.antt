-- The names of the grammar are those of types' names.
use Rattle.std.proofs.Common.{◌≡◌, ℕ, Bool, true, false, ◌||◌, ◌&&◌, List, [], ◌∷◌, refl, sym, ap, ◌∙◌}
use Rattle.std.specs.Prelude.{◌==◌, nat_le}
use Rattle.std.specs.List.{list_all}
use Rattle.dsdl_lex.specs.Bytes.{is_letter, is_digit}
use Rattle.dsdl_lex.specs.Bytes as lex
use Rattle.dsdl_lex.specs.Texts as texts
use Rattle.dsdl_names.specs.Words.{is_name, is_name_byte, is_first}

letters : (a b c : Bool) → (a || b || c) ≡ ((b || a) || c)
letters true true c = refl
letters true false c = refl
letters false true c = refl
letters false false c = refl

or_true : (b : Bool) → (b || true) ≡ true
or_true true = refl
or_true false = refl

words : (d a b c : Bool) → ((a || b || c) || d) ≡ (((d || b) || a) || c)
words true a b c = or_true (a || b || c)
words false true b c = ap (λ t. t || c) (sym (or_true b))
words false false true true = refl
words false false true false = refl
words false false false true = refl
words false false false false = refl

same_letter : (b : ℕ) → is_letter b ≡ is_first b
same_letter b = letters (nat_le 97 b && nat_le b 122) (nat_le 65 b && nat_le b 90) (b == 95)

same_word : (b : ℕ) → lex.is_word b ≡ is_name_byte b
same_word b = words (is_digit b) (nat_le 97 b && nat_le b 122) (nat_le 65 b && nat_le b 90) (b == 95)

same_words : (bs : List ℕ) → list_all lex.is_word bs ≡ list_all is_name_byte bs
same_words [] = refl
same_words (b ∷ bs) = ap (λ t. t && list_all lex.is_word bs) (same_word b) ∙ ap (λ t. is_name_byte b && t) (same_words bs)

pub same_name : (name : List ℕ) → texts.is_name name ≡ is_name name
same_name [] = refl
same_name (b ∷ bs) = ap (λ t. t && list_all lex.is_word bs) (same_letter b) ∙ ap (λ t. is_first b && t) (same_words bs)
