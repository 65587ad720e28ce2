-- Numbers that are written in decimal are read back.
use Rattle.std.proofs.Common.{◌≡◌, ◌∙◌, ℕ, ◌+◌, ◌-◌, ◌*◌, ◌/◌, ◌%◌, ◌^◌, ◌<◌, ◌≤◌, ◌||◌, ltb, List, [], ◌∷◌, ◌++◌, Some, None, length, refl, sym, ap, append_assoc, append-nil, length-append, decimal, arith}
use Rattle.std.proofs.lemmas.Bool.{cond-false, or_from, le-ltb}
use Rattle.std.proofs.lemmas.Fmt.{decimal_by_steps, length-decimal-le}
use Rattle.line_text.specs.Text.{digit, six_digits}
use Rattle.frame_log.specs.Line.{decimal_from}
use Rattle.log_text.proofs.Each.{Each, IsDigit, each_append}

-- one digit more
read_digit : (n b : ℕ) (s : List ℕ) → IsDigit b → decimal_from n (b ∷ s) ≡ decimal_from (n * 10 + (b - 48)) s
read_digit n b s h =
    cond-false (ltb b 48 || ltb 57 b) None (decimal_from (n * 10 + (b - 48)) s)
    (or_from (ltb b 48) (ltb 57 b) (le-ltb b 48 h.0) (le-ltb 57 b h.1))

last_digit : (n : ℕ) (s : List ℕ) → decimal_from (n / 10) ((48 + n % 10) ∷ s) ≡ decimal_from n s
last_digit n s =
    let e : n / 10 * 10 + (48 + n % 10 - 48) ≡ n = omega arith in
    read_digit (n / 10) (48 + n % 10) s (omega arith, omega arith) ∙ ap (λ m. decimal_from m s) e

pub decimal_read : (n : ℕ) → n < 2 ^ 64 → (s : List ℕ) → decimal_from 0 (decimal n ++ s) ≡ decimal_from n s
decimal_read = decimal_by_steps (λ n ds. (s : List ℕ) → decimal_from 0 (ds ++ s) ≡ decimal_from n s)
    (λ n h s. let e : 0 * 10 + (48 + n - 48) ≡ n = omega arith in read_digit 0 (48 + n) s (omega arith, omega arith) ∙ ap (λ m. decimal_from m s) e)
    (λ n ds h rest s. ap (decimal_from 0) (append_assoc ds ((48 + n % 10) ∷ []) s) ∙ (rest ((48 + n % 10) ∷ s) ∙ last_digit n s))

pub decimal_value : (n : ℕ) → n < 2 ^ 64 → decimal_from 0 (decimal n) ≡ Some n
decimal_value n h = ap (decimal_from 0) (sym (append-nil (decimal n))) ∙ decimal_read n h []

pub decimal_digits : (n : ℕ) → n < 2 ^ 64 → Each IsDigit (decimal n)
decimal_digits = decimal_by_steps (λ n ds. Each IsDigit ds) (λ n h. ((omega arith, omega arith), tt)) (λ n ds h rest. each_append IsDigit ds ((48 + n % 10) ∷ []) rest ((omega arith, omega arith), tt))

pub decimal_some : (n : ℕ) → n < 2 ^ 64 → 1 ≤ length (decimal n)
decimal_some = decimal_by_steps (λ n ds. 1 ≤ length ds) (λ n h. omega arith) (λ n ds h rest. omega (arith, length-append ds ((48 + n % 10) ∷ [])))

pub decimal_short : (n : ℕ) → n < 10 ^ 12 → length (decimal n) ≤ 12
decimal_short n h = length-decimal-le 12 n (omega arith) h (omega arith)

pub six_each : (n : ℕ) → Each IsDigit (six_digits n)
six_each n = ((omega arith, omega arith), ((omega arith, omega arith), ((omega arith, omega arith), ((omega arith, omega arith), ((omega arith, omega arith), ((omega arith, omega arith), tt))))))

next_digit : (m n : ℕ) (s : List ℕ) → m ≡ n / 10 → decimal_from m (digit n ∷ s) ≡ decimal_from n s
next_digit m n s e = ap (λ k. decimal_from k (digit n ∷ s)) e ∙ last_digit n s

pub six_value : (n : ℕ) → n < 1000000 → decimal_from 0 (six_digits n) ≡ Some n
six_value n h =
    let one = digit n ∷ [] in
    let two = digit (n / 10) ∷ one in
    let three = digit (n / 100) ∷ two in
    let four = digit (n / 1000) ∷ three in
    let five = digit (n / 10000) ∷ four in
    next_digit 0 (n / 100000) five (omega arith)
    ∙ (next_digit (n / 100000) (n / 10000) four (omega arith)
    ∙ (next_digit (n / 10000) (n / 1000) three (omega arith)
    ∙ (next_digit (n / 1000) (n / 100) two (omega arith)
    ∙ (next_digit (n / 100) (n / 10) one (omega arith)
    ∙ next_digit (n / 10) n [] refl))))
