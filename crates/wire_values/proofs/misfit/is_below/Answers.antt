use Rattle.std.proofs.Common.{◌∙◌, ◌^◌, ◌<◌, nat_lt, eq-eqb, sym, ap, arith}
use Rattle.std.proofs.lemmas.Bool.{lt-ltb}
use Rattle.wire_values.proofs.misfit.is_below.Goals as goal

pub returns-then-bits-eq64 : goal.returns-then-bits-eq64
returns-then-bits-eq64 c =
    let e = c.if-bits-eq64.true in
    let small : c.args.number < 2 ^ 64 = omega arith in
    eq-eqb c.args.bits 64 e ∙ sym (lt-ltb c.args.number (2 ^ 64) small) ∙ ap (λ w. nat_lt c.args.number (2 ^ w)) (sym e)
