use Rattle.std.proofs.Common.{◌∙◌}
use Rattle.std.proofs.lemmas.Int.{to_z-of_z}
use Rattle.std.specs.Int.{w128}
use Rattle.cy_ratio.proofs.OrderLemmas.{by_numerators}
use Rattle.cy_ratio.proofs.order.compare.Goals as goal

pub returns-then-b-d : goal.returns-then-b-d
returns-then-b-d c =
    let a = to_z-of_z w128 c.args.a c.ranges.a in
    let b = to_z-of_z w128 c.args.c c.ranges.c in
    c.cmp.ensures ∙ rw (a, b) (by_numerators c.args.a c.args.c c.args.b c.args.d c.requires.0 c.if-b-d.true)
