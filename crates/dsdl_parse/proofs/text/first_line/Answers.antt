use Rattle.std.proofs.Common.{◌≡◌, ◌+◌, ◌-◌, ◌==◌, ℕ, ◌<◌, drop, false, length, sym, ◌∙◌, arith, length-drop}
use Rattle.std.proofs.lemmas.List.{take_all}
use Rattle.std.proofs.lemmas.Bool.{eqb-false}
use Rattle.dsdl_parse.proofs.FirstLines.{ended_line, open_line}
use Rattle.dsdl_parse.proofs.text.first_line.Goals as goal

some_byte : (n : ℕ) → (n == 0) ≡ false → 0 < n
some_byte n e = let h = eqb-false n 0 e in omega arith

pub returns-in-Some : goal.returns-in-Some
returns-in-Some c =
    let i = c.in-Some.end in
    ended_line c.args.text.now _ _ i c.in-Some.ensures.0.high c.in-Some.ensures.1 (λ k lt. c.in-Some.ensures.0.before k (omega arith) lt) c.without_return.ensures
    (take_all (length c.args.text.now - (i + 1)) (drop (i + 1) c.args.text.now) (omega (arith, length-drop (i + 1) c.args.text.now)))

pub returns-in-None : goal.returns-in-None
returns-in-None c = open_line c.args.text.now (some_byte (length c.args.text.now) (sym c.is_empty.ensures ∙ c.if-is_empty.false)) (λ k lt. c.in-None.ensures k (omega arith) lt)
