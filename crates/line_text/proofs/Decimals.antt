-- The digits of a number, and how many it has.
use Rattle.std.proofs.Common.{◌≡◌, ◌∙◌, ℕ, zero, suc, ◌+◌, ◌*◌, ◌/◌, ◌%◌, ◌^◌, ◌<◌, ◌≤◌, List, [], ◌∷◌, ◌++◌, length, decimal, refl, ap, arith, length-append, append_assoc}
use Rattle.std.proofs.Math.Nat.{pow-succ'}
use Rattle.std.proofs.lemmas.Fmt.{decimal_digit, decimal_step}
use Rattle.line_text.specs.Text.{digit}

above_zero : (k : ℕ) → 1 ≤ 10 ^ k
above_zero zero = omega arith
above_zero (suc k) = let e = pow-succ' 10 k in let h = above_zero k in omega (arith, e, h)

-- a number of k digits behind the first
pub length-decimal : (k n : ℕ) → 10 ^ k ≤ n → n < 10 * 10 ^ k → n < 2 ^ 64 → length (decimal n) ≡ k + 1
length-decimal zero n h l b = ap length (decimal_digit n (omega arith))
length-decimal (suc k) n h l b =
    let e = pow-succ' 10 k in
    let one = above_zero k in
    let rest : length (decimal (n / 10)) ≡ k + 1 = length-decimal k (n / 10) (omega (arith, e)) (omega (arith, e)) (omega arith) in
    ap length (decimal_step n (omega (arith, e, one)) b) ∙ omega (arith, rest, length-append (decimal (n / 10)) ((48 + n % 10) ∷ []))

-- the last k digits of a number in front of a text
abbrev pub last : ℕ → ℕ → List ℕ → List ℕ
last zero n rest = rest
last (suc k) n rest = last k (n / 10) (digit n ∷ rest)

-- a number of k digits behind the first is its digits
pub decimal_last : (k n : ℕ) (rest : List ℕ) → 10 ^ k ≤ n → n < 10 * 10 ^ k → n < 2 ^ 64 → decimal n ++ rest ≡ last (suc k) n rest
decimal_last zero n rest h l b =
    let one : n % 10 ≡ n = omega arith in
    rw (decimal_digit n (omega arith), one) refl
decimal_last (suc k) n rest h l b =
    let e = pow-succ' 10 k in
    let one = above_zero k in
    rw (decimal_step n (omega (arith, e, one)) b, append_assoc) (decimal_last k (n / 10) (digit n ∷ rest) (omega (arith, e)) (omega (arith, e)) (omega arith))
