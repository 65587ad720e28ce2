-- Numbers that are written in decimal are read back.
use Rattle.std.proofs.Common.{◌≡◌, ◌∙◌, ◌==◌, ◌⊎◌, inl, inr, ℕ, ◌+◌, ◌-◌, ◌*◌, ◌/◌, ◌%◌, ◌^◌, ◌<◌, ◌≤◌, false, List, [], ◌∷◌, ◌++◌, Some, None, length, refl, sym, ap, append_assoc, append-nil, length-append, decimal, arith, subst}
use Rattle.std.specs.Prelude.{if◌then◌else◌}
use Rattle.std.proofs.lemmas.Bool.Decides.{nat_tests}
use Rattle.std.proofs.lemmas.Fmt.{decimal_by_steps, length-decimal-le}
use Rattle.node_plan.specs.declared.words.Number.TheVariants as number
use Rattle.node_plan.specs.Migrate.{numbers_text}
use Rattle.node_plan.specs.Words.{decimal_from, mtu_in, mtu_of, number_in, number_of, ranged}
use Rattle.node_plan.proofs.JoinedLemmas.{Free, free-append}
use Rattle.node_plan.proofs.NumberLemmas.{digit-yes}

last_digit : (n : ℕ) (s : List ℕ) → decimal_from (n / 10) ((48 + n % 10) ∷ s) ≡ decimal_from n s
last_digit n s =
    let e : n / 10 * 10 + (48 + n % 10 - 48) ≡ n = omega arith in
    digit-yes (48 + n % 10) (n / 10) s (omega arith) (omega arith) ∙ ap (λ m. decimal_from m s) e

decimal_read : (n : ℕ) → n < 2 ^ 64 → (s : List ℕ) → decimal_from 0 (decimal n ++ s) ≡ decimal_from n s
decimal_read = decimal_by_steps (λ n ds. (s : List ℕ) → decimal_from 0 (ds ++ s) ≡ decimal_from n s)
    (λ n h s. let e : 0 * 10 + (48 + n - 48) ≡ n = omega arith in digit-yes (48 + n) 0 s (omega arith) (omega arith) ∙ ap (λ m. decimal_from m s) e)
    (λ n ds h rest s. ap (decimal_from 0) (append_assoc ds ((48 + n % 10) ∷ []) s) ∙ (rest ((48 + n % 10) ∷ s) ∙ last_digit n s))

decimal_value : (n : ℕ) → n < 2 ^ 64 → decimal_from 0 (decimal n) ≡ Some n
decimal_value n h = ap (decimal_from 0) (sym (append-nil (decimal n))) ∙ decimal_read n h []

-- the first digit isn't 0
abbrev Leads : List ℕ → Type 0
Leads [] = ⊥
Leads (b ∷ s) = (b == 48) ≡ false

not_zero : (n : ℕ) → 0 < n → ((48 + n) == 48) ≡ false
not_zero n h = grind (arith, nat_tests)

leads-append : (s t : List ℕ) → Leads s → Leads (s ++ t)
leads-append [] t h = absurd h
leads-append (b ∷ s) t h = h

decimal_leads : (n : ℕ) → n < 2 ^ 64 → 0 < n → Leads (decimal n)
decimal_leads = decimal_by_steps (λ n ds. 0 < n → Leads ds) (λ n h some. not_zero n some) (λ n ds h rest some. leads-append ds ((48 + n % 10) ∷ []) (rest (omega arith)))

number_of-leads : (s : List ℕ) → Leads s → number_of s ≡ decimal_from 0 s
number_of-leads [] h = absurd h
number_of-leads (b ∷ []) h = refl
number_of-leads (b ∷ c ∷ s) h = ap (λ test. if test then None else decimal_from 0 (b ∷ c ∷ s)) h

-- a number of a range
in_range : (low high n : ℕ) → low ≤ n → n ≤ high → ranged low high (Some n) ≡ number.Within n
in_range low high n l h = grind (arith, nat_tests)

number_in-decimal : (low high n : ℕ) → low ≤ n → n ≤ high → 0 < n → n < 2 ^ 64 → number_in low high (decimal n) ≡ number.Within n
number_in-decimal low high n l h some fits =
    ap (ranged low high) (number_of-leads (decimal n) (decimal_leads n fits some) ∙ decimal_value n fits) ∙ in_range low high n l h

mtu_in-decimal : (m : ℕ) → (m ≡ 8) ⊎ (m ≡ 64) → mtu_in (decimal m) ≡ number.Within m
mtu_in-decimal m (inl e) = subst (λ n. mtu_in (decimal n) ≡ number.Within n) (sym e) (ap mtu_of (number_in-decimal 0 64 8 (omega arith) (omega arith) (omega arith) (omega arith)))
mtu_in-decimal m (inr e) = subst (λ n. mtu_in (decimal n) ≡ number.Within n) (sym e) (ap mtu_of (number_in-decimal 0 64 64 (omega arith) (omega arith) (omega arith) (omega arith)))

-- no digit is a byte below them
other_byte : (c n : ℕ) → c < 48 → ((48 + n) == c) ≡ false
other_byte c n h = grind (arith, nat_tests)

decimal_free : (c : ℕ) → c < 48 → (n : ℕ) → n < 2 ^ 64 → Free c (decimal n)
decimal_free c low = decimal_by_steps (λ n ds. Free c ds) (λ n h. (other_byte c n low, tt))
    (λ n ds h rest. free-append c ds ((48 + n % 10) ∷ []) rest (other_byte c (n % 10) low, tt))

-- what holds of the MTU and the rate of a plan's bus
pub record AreNumbers (m r : ℕ) : Type 0 where
  pub mtu : mtu_in (decimal m) ≡ number.Within m
  pub rate : number_in 1 4096 (decimal r) ≡ number.Within r
  pub mtu_word : Free 32 (decimal m)
  pub rate_word : Free 32 (decimal r)
  pub line : Free 10 (numbers_text m r)
  pub short : length (numbers_text m r) ≤ 8

pub are_numbers : (m r : ℕ) → (m ≡ 8) ⊎ (m ≡ 64) → 1 ≤ r → r ≤ 4096 → AreNumbers m r
are_numbers m r one some low =
    let small : m ≤ 64 = grind arith in
    let wide : length (decimal m) ≤ 2 = length-decimal-le 2 m (omega arith) (omega arith) (omega arith) in
    let long : length (decimal r) ≤ 4 = length-decimal-le 4 r (omega arith) (omega arith) (omega arith) in record {
      mtu = mtu_in-decimal m one;
      rate = number_in-decimal 1 4096 r some low (omega arith) (omega arith);
      mtu_word = decimal_free 32 (omega arith) m (omega arith);
      rate_word = decimal_free 32 (omega arith) r (omega arith);
      line = (refl, free-append 10 (decimal m) (32 ∷ decimal r) (decimal_free 10 (omega arith) m (omega arith)) (refl, decimal_free 10 (omega arith) r (omega arith)));
      short = omega (arith, length-append (decimal m) (32 ∷ decimal r), wide, long);
    }
