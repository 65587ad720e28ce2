-- Texts and what the definitions say of them, computed.
use Rattle.std.proofs.Common.{◌≡◌, ℕ, Bool, true, ◌&&◌, not, List, [], ◌∷◌, refl, codes}
use Rattle.std.specs.List.{list_all}
use Rattle.dsdl_lex.specs.NumberText.{is_number}
use Rattle.dsdl_lex.specs.Texts.{is_name, is_string, is_sign, is_split, is_version}
use Rattle.dsdl_lex.specs.Tokens.{is_blank_end, ends_in_point}

-- the test holds of each of the first texts, and of none of the second
abbrev Tells : (List ℕ → Bool) → List (List ℕ) → List (List ℕ) → Type 0
Tells test these others = (list_all test these && list_all (λ text. not (test text)) others) ≡ true

is_number_rows : Tells is_number
    (codes "0" ∷ codes "007" ∷ codes "1_000" ∷ codes "0x_FF" ∷ codes "0XfF_0" ∷ codes "0b1_0" ∷ codes "0o17" ∷ codes "1." ∷ codes "1.5" ∷ codes ".5" ∷ codes "1_0.2_5e-3" ∷ codes "1E+10" ∷ codes ".5e1" ∷ codes "0e5" ∷ codes "0.5" ∷ codes "00_1" ∷ [])
    (codes "" ∷ codes "_1" ∷ codes "1_" ∷ codes "1__0" ∷ codes "0x" ∷ codes "0x_" ∷ codes "0b2" ∷ codes "0o8" ∷ codes "1.e5" ∷ codes "1._5" ∷ codes "1e" ∷ codes "1e+" ∷ codes "1e_5" ∷ codes "." ∷ codes "._5" ∷ codes "0x1.5" ∷ codes "1.5." ∷ codes "0b__1" ∷ codes "0_x1" ∷ codes "+1" ∷ [])
is_number_rows = refl

is_name_rows : Tells is_name
    (codes "_" ∷ codes "uint8" ∷ codes "A_0" ∷ [])
    (codes "" ∷ codes "8a" ∷ codes "a.b" ∷ codes "a-b" ∷ [])
is_name_rows = refl

is_string_rows : Tells is_string
    (codes "''" ∷ codes "'a # b'" ∷ [])
    (codes "'" ∷ codes "'a" ∷ codes "a'" ∷ codes "'a'b'" ∷ codes "'a\\'" ∷ [])
is_string_rows = refl

is_sign_rows : Tells is_sign
    (codes "@" ∷ codes "<=" ∷ codes "**" ∷ codes "." ∷ codes "!=" ∷ codes "%" ∷ [])
    (codes "" ∷ codes "---" ∷ codes "=>" ∷ codes "***" ∷ codes "$" ∷ codes "<=>" ∷ [])
is_sign_rows = refl

is_split_rows : Tells is_split
    (codes "---" ∷ codes "------" ∷ [])
    (codes "--" ∷ codes "--a" ∷ codes "-- -" ∷ [])
is_split_rows = refl

is_version_rows : Tells is_version
    (codes "0" ∷ codes "9" ∷ codes "255" ∷ codes "100" ∷ [])
    (codes "" ∷ codes "00" ∷ codes "01" ∷ codes "256" ∷ codes "1000" ∷ codes "a" ∷ [])
is_version_rows = refl

is_blank_end_rows : Tells is_blank_end
    (codes "" ∷ codes " " ∷ codes "# x" ∷ codes " # x" ∷ [])
    (codes "a" ∷ codes " a" ∷ [])
is_blank_end_rows = refl

ends_in_point_rows : Tells ends_in_point
    (codes "1." ∷ codes "." ∷ [])
    (codes "" ∷ codes "1" ∷ codes "1.0" ∷ [])
ends_in_point_rows = refl
