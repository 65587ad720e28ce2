use Rattle.std.proofs.Common.{◌≡◌, ◌∙◌, ℕ, ◌+◌, ◌-◌, ◌/◌, ◌%◌, ◌<◌, ◌≤◌, ◌^◌, Bool, nat_lt, cond, List, [], ◌∷◌, ◌++◌, codes, decimal, sym, ap, refl, arith, append_assoc}
use Rattle.std.proofs.lemmas.Bool.{ltb-false, ltb-true}
use Rattle.std.proofs.lemmas.Fmt.{decimal_digit, decimal_step}
use Rattle.line_text.specs.Buffer.{text_of}
use Rattle.log_explain.specs.Words.{tens}
use Rattle.log_explain.proofs.ten_lines.TenLines.put.Goals as goal

-- the digits of a line: those of its ten, and its own
digits_are : (start line : ℕ) → start % 10 ≡ 0 → start ≤ line → line < start + 10 → line < 2 ^ 64 → tens start ++ (48 + (line - start)) ∷ [] ≡ decimal line
digits_are start line whole from upto low = go (nat_lt start 10) refl
  where
    few : start < 10 → (48 + (line - start)) ∷ [] ≡ decimal line
    few s = let zero : start ≡ 0 = omega (arith, s, whole) in let small : line < 10 = omega (arith, zero, upto) in
        ap (λ (d : ℕ). (48 + d) ∷ []) (let e : line - start ≡ line = omega (arith, zero) in e) ∙ sym (decimal_digit line small)

    many : 10 ≤ start → decimal (start / 10) ++ (48 + (line - start)) ∷ [] ≡ decimal line
    many s = let front : start / 10 ≡ line / 10 = omega (arith, whole, from, upto) in
        let digit : line - start ≡ line % 10 = omega (arith, whole, from, upto) in
        let large : 10 ≤ line = omega (arith, s, from) in
        (λ i. decimal (front i) ++ (48 + digit i) ∷ []) ∙ sym (decimal_step line large low)

    go : (b : Bool) → nat_lt start 10 ≡ b → (cond b [] (decimal (start / 10))) ++ (48 + (line - start)) ∷ [] ≡ decimal line
    go Bool.true e = few (ltb-true start 10 e)
    go Bool.false e = many (ltb-false start 10 e)

-- a line put behind a text
behind : (old word front : List ℕ) (digit : ℕ) (number : List ℕ) → front ++ digit ∷ [] ≡ number → (old ++ (word ++ front)) ++ digit ∷ 32 ∷ [] ≡ old ++ (word ++ (number ++ 32 ∷ []))
behind old word front digit number e =
    append_assoc old (word ++ front) (digit ∷ 32 ∷ [])
    ∙ ap (λ t. old ++ t) (append_assoc word front (digit ∷ 32 ∷ [])
    ∙ ap (λ t. word ++ t) (sym (append_assoc front (digit ∷ []) (32 ∷ [])) ∙ ap (λ t. t ++ 32 ∷ []) e))

pub returns-clause-text : goal.returns-clause-text
returns-clause-text c =
    let ten = c.come_to.new.self in
    let line = c.args.line in
    let digits = digits_are ten.start line ten.whole c.come_to.ensures.from c.come_to.ensures.upto c.ranges.line.fits in
    c.put-2.ensures.text
    ∙ (ap (λ t. t ++ (48 + (line - ten.start)) ∷ 32 ∷ []) (c.put.ensures.text ∙ ap (λ t. text_of c.args.text.now ++ t) ten.front_is)
    ∙ behind (text_of c.args.text.now) (codes "frame ") (tens ten.start) (48 + (line - ten.start)) (decimal line) digits)
