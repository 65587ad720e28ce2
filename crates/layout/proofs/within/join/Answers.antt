use Rattle.std.proofs.Common.{◌≡◌, sym, subst, ◌⊎◌, IfOk, Ok}
use Rattle.std.proofs.lemmas.Result.{IfOk-weaker}
use Rattle.bit_length.specs.Lengths.{Has, Same, Joins}
use Rattle.layout.specs.Sets.{HasIn}
use Rattle.layout.proofs.within.join.Goals as goal

pub returns-in-Some : goal.returns-in-Some
returns-in-Some c =
    let b = c.args.b.now in
    subst (λ o. IfOk c.short.result (λ s. Same (Has s) (λ n. HasIn o n ⊎ Has b n))) (sym c.in-Some.is)
    (IfOk-weaker c.short.result (λ s. c.join.result ≡ Ok s) (λ s. Same (Has s) (Joins (Has c.in-Some.a) (Has b)))
    (λ s e. subst (λ r. IfOk r (λ t. Same (Has t) (Joins (Has c.in-Some.a) (Has b)))) e c.join.ensures.members) c.short.ensures)
