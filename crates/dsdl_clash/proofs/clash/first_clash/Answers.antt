use Rattle.std.proofs.Common.{sym, ◌∙◌}
use Rattle.dsdl_clash.proofs.ClashLemmas.{first_here, first_later}
use Rattle.dsdl_clash.specs.Kinds.{clash_of}
use Rattle.dsdl_clash.proofs.clash.first_clash.Goals as goal

pub returns-then-clashes_with_earlier : goal.returns-then-clashes_with_earlier
returns-then-clashes_with_earlier c =
    first_here (clash_of c.args.by) c.args.definitions.now c.loop-at.at c.loop-at-test.true c.loop-at.invariant
    (λ d. sym c.if-clashes_with_earlier.true ∙ c.clashes_with_earlier.ensures d)

pub loop-at-preserved : goal.loop-at-preserved
loop-at-preserved c =
    first_later (clash_of c.args.by) c.args.definitions.now c.loop-at.at c.loop-at-test.true c.loop-at.invariant
    (λ d. sym c.if-clashes_with_earlier.false ∙ c.clashes_with_earlier.ensures d)
