use Rattle.std.proofs.lemmas.Result.{IfOk-weaker}
use Rattle.bit_length.specs.Lengths.{Has, Only}
use Rattle.layout.proofs.Behind.{sums_along}
use Rattle.layout.proofs.Sets.{same_trans}
use Rattle.layout.proofs.within.moved.Goals as goal

pub sum-requires : goal.sum-requires
sum-requires c = λ n x. c.requires.short n ((sums_along (Has c.args.a) (Has c.in_ok-only.field-0) (Only c.args.bits) c.in_ok-only.ensures n).0 x)

pub returns : goal.returns
returns c =
    IfOk-weaker c.sum-2.result _ _
    (λ s sum. same_trans sum (sums_along (Has c.args.a) (Has c.in_ok-only.field-0) (Only c.args.bits) c.in_ok-only.ensures))
    c.sum-2.ensures
