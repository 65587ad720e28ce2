use Rattle.std.proofs.Common.{◌≡◌, ◌∙◌, suc, pos, negsuc, drop, sym, ap, arith, rules}
use Rattle.std.specs.Fmt.{decimal}
use Rattle.value_text.specs.Ends.{top}
use Rattle.value_text.proofs.Numerals.{no_sign_first, below}
use Rattle.value_text.proofs.scan.number_of.Goals as goal

pub returns-then-peek-eq45-clause-reads : goal.returns-then-peek-eq45-clause-reads
returns-then-peek-eq45-clause-reads c (pos n) h e = absurd (no_sign_first n h (ap top (sym e) ∙ sym c.peek.ensures ∙ c.if-peek-eq45.true))
returns-then-peek-eq45-clause-reads c (negsuc n) h e =
    let d : c.behind.result.now ≡ decimal (suc n) = c.behind.ensures ∙ ap (drop 1) e in
    let m : c.magnitude.result ≡ suc n = c.magnitude.ensures (suc n) (below n h) d in
    let k : c.min.result ≡ suc n = omega (arith, c.min.ensures, m, h) in
    let r : c.from.result ≡ pos (suc n) = c.from.ensures ∙ ap pos k in
    rw r (search rules)
