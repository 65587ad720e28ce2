use Rattle.std.proofs.Common.{◌≡◌, ◌/◌, ◌%◌, [], ◌∷◌, refl, arith}
use Rattle.std.proofs.lemmas.Fmt.{decimal_digit}
use Rattle.line_text.proofs.Decimals.{decimal_last}
use Rattle.line_text.proofs.number_word.number_word.Goals as goal

pub returns-then-number-lt10-clause-text : goal.returns-then-number-lt10-clause-text
returns-then-number-lt10-clause-text c =
    let n = c.args.number in
    let one : n % 100 % 10 ≡ n = omega arith in
    rw (c.two_digits-d.ensures, decimal_digit n c.if-number-lt10.true, one) refl

pub returns-then-number-lt100-clause-text : goal.returns-then-number-lt100-clause-text
returns-then-number-lt100-clause-text c =
    let n = c.args.number in
    let e0 : n % 100 % 10 ≡ n % 10 = omega arith in
    let e1 : n % 100 / 10 % 10 ≡ n / 10 % 10 = omega arith in
    rw (c.two_digits-d.ensures, decimal_last 1 n (32 ∷ []) (omega arith) (omega arith) (omega arith), e0, e1) refl

pub returns-then-number-lt1000-clause-text : goal.returns-then-number-lt1000-clause-text
returns-then-number-lt1000-clause-text c =
    let n = c.args.number in
    let e0 : n % 100 % 10 ≡ n % 10 = omega arith in
    let e1 : n % 100 / 10 % 10 ≡ n / 10 % 10 = omega arith in
    let e2 : n / 100 % 100 % 10 ≡ n / 10 / 10 % 10 = omega arith in
    rw (c.two_digits-d.ensures, c.two_digits-c.ensures, decimal_last 2 n (32 ∷ []) (omega arith) (omega arith) (omega arith), e0, e1, e2) refl

pub returns-then-number-lt10000-clause-text : goal.returns-then-number-lt10000-clause-text
returns-then-number-lt10000-clause-text c =
    let n = c.args.number in
    let e0 : n % 100 % 10 ≡ n % 10 = omega arith in
    let e1 : n % 100 / 10 % 10 ≡ n / 10 % 10 = omega arith in
    let e2 : n / 100 % 100 % 10 ≡ n / 10 / 10 % 10 = omega arith in
    let e3 : n / 100 % 100 / 10 % 10 ≡ n / 10 / 10 / 10 % 10 = omega arith in
    rw (c.two_digits-d.ensures, c.two_digits-c.ensures, decimal_last 3 n (32 ∷ []) (omega arith) (omega arith) (omega arith), e0, e1, e2, e3) refl

pub returns-then-number-lt100000-clause-text : goal.returns-then-number-lt100000-clause-text
returns-then-number-lt100000-clause-text c =
    let n = c.args.number in
    let e0 : n % 100 % 10 ≡ n % 10 = omega arith in
    let e1 : n % 100 / 10 % 10 ≡ n / 10 % 10 = omega arith in
    let e2 : n / 100 % 100 % 10 ≡ n / 10 / 10 % 10 = omega arith in
    let e3 : n / 100 % 100 / 10 % 10 ≡ n / 10 / 10 / 10 % 10 = omega arith in
    let e4 : n / 10000 % 100 % 10 ≡ n / 10 / 10 / 10 / 10 % 10 = omega arith in
    rw (c.two_digits-d.ensures, c.two_digits-c.ensures, c.two_digits-b.ensures, decimal_last 4 n (32 ∷ []) (omega arith) (omega arith) (omega arith), e0, e1, e2, e3, e4) refl

pub returns-then-number-lt1000000-clause-text : goal.returns-then-number-lt1000000-clause-text
returns-then-number-lt1000000-clause-text c =
    let n = c.args.number in
    let e0 : n % 100 % 10 ≡ n % 10 = omega arith in
    let e1 : n % 100 / 10 % 10 ≡ n / 10 % 10 = omega arith in
    let e2 : n / 100 % 100 % 10 ≡ n / 10 / 10 % 10 = omega arith in
    let e3 : n / 100 % 100 / 10 % 10 ≡ n / 10 / 10 / 10 % 10 = omega arith in
    let e4 : n / 10000 % 100 % 10 ≡ n / 10 / 10 / 10 / 10 % 10 = omega arith in
    let e5 : n / 10000 % 100 / 10 % 10 ≡ n / 10 / 10 / 10 / 10 / 10 % 10 = omega arith in
    rw (c.two_digits-d.ensures, c.two_digits-c.ensures, c.two_digits-b.ensures, decimal_last 5 n (32 ∷ []) (omega arith) (omega arith) (omega arith), e0, e1, e2, e3, e4, e5) refl

pub returns-clause-text : goal.returns-clause-text
returns-clause-text c =
    let n = c.args.number in
    let e0 : n % 100 % 10 ≡ n % 10 = omega arith in
    let e1 : n % 100 / 10 % 10 ≡ n / 10 % 10 = omega arith in
    let e2 : n / 100 % 100 % 10 ≡ n / 10 / 10 % 10 = omega arith in
    let e3 : n / 100 % 100 / 10 % 10 ≡ n / 10 / 10 / 10 % 10 = omega arith in
    let e4 : n / 10000 % 100 % 10 ≡ n / 10 / 10 / 10 / 10 % 10 = omega arith in
    let e5 : n / 10000 % 100 / 10 % 10 ≡ n / 10 / 10 / 10 / 10 / 10 % 10 = omega arith in
    let e6 : n / 10000 / 100 % 10 ≡ n / 10 / 10 / 10 / 10 / 10 / 10 % 10 = omega arith in
    rw (c.two_digits-d.ensures, c.two_digits-c.ensures, c.two_digits-b.ensures, c.two_digits-a.ensures, decimal_last 6 n (32 ∷ []) (omega arith) (omega arith) (omega arith), e0, e1, e2, e3, e4, e5, e6) refl
