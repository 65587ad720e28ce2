-- The number of a part of a version, digit by digit.
use Rattle.std.proofs.Common.{◌≡◌, ℕ, ◌+◌, ◌-◌, ◌*◌, ◌<◌, ◌≤◌, true, List, [], ◌∷◌, length, drop, get_or, refl, ap, ◌∙◌, subst, arith}
use Rattle.std.specs.List.{list_all}
use Rattle.std.proofs.lemmas.Bool.{and_parts, false≢true, ltb-true}
use Rattle.std.proofs.lemmas.Bool.Decides.{nat_tests}
use Rattle.std.proofs.lemmas.List.{drop_more}
use Rattle.dsdl_lex.specs.Bytes.{is_digit}
use Rattle.dsdl_lex.specs.Texts.{number_from, number_of, is_version}

grows : (n : ℕ) (bs : List ℕ) → n ≤ number_from n bs
grows n [] = omega arith
grows n (b ∷ bs) = omega (arith, grows (n * 10 + (b - 48)) bs)

-- the digits from i on, behind those of n
pub record DigitsLeft (digits : List ℕ) (n i : ℕ) : Type 0 where
  pub same : number_of digits ≡ number_from n (drop i digits)
  pub are_digits : list_all is_digit (drop i digits) ≡ true
  pub small : number_of digits < 256

pub all_left : (digits : List ℕ) → is_version digits ≡ true → DigitsLeft digits 0 0
all_left [] e = absurd (false≢true e)
all_left (b ∷ s) e =
    let (form, small) = and_parts _ _ e in
    record { same = refl; are_digits = (and_parts (list_all is_digit (b ∷ s)) _ form).0; small = ltb-true (number_of (b ∷ s)) 256 small }

-- the next digit
pub record NextDigit (digits : List ℕ) (n i : ℕ) : Type 0 where
  pub low : 48 ≤ get_or digits i 0
  pub small : n * 10 + (get_or digits i 0 - 48) < 256
  pub left : DigitsLeft digits (n * 10 + (get_or digits i 0 - 48)) (i + 1)

digit_low : (b : ℕ) → is_digit b ≡ true → 48 ≤ b
digit_low b e = grind (arith, nat_tests)

pub next_digit : (digits : List ℕ) (n i : ℕ) → i < length digits → DigitsLeft digits n i → NextDigit digits n i
next_digit digits n i lt d =
    let more = drop_more digits i 0 lt in
    let (first, rest) = and_parts (is_digit (get_or digits i 0)) (list_all is_digit (drop (i + 1) digits)) (subst (λ l. list_all is_digit l ≡ true) more d.are_digits) in
    let same : number_of digits ≡ number_from (n * 10 + (get_or digits i 0 - 48)) (drop (i + 1) digits) = d.same ∙ ap (number_from n) more in
    record {
      low = digit_low (get_or digits i 0) first;
      small = omega (arith, d.small, same, grows (n * 10 + (get_or digits i 0 - 48)) (drop (i + 1) digits));
      left = record { same = same; are_digits = rest; small = d.small };
    }
