use Rattle.std.proofs.Common.{◌≡◌, ◌∙◌, sym, subst, ap, arith, false}
use Rattle.node_plan.specs.Draft.{has_bus}
use Rattle.node_plan.specs.IsPlan.{IsDraft}
use Rattle.node_plan.proofs.DraftLemmas.{IsDraft-bus}
use Rattle.node_plan.proofs.draft.Draft.add_bus.Goals as goal

pub returns-clause-sound : goal.returns-clause-sound
returns-clause-sound c =
    let new : has_bus c.args.bus.name c.args.self.now.buses ≡ false = ap (has_bus c.args.bus.name) (sym c.as_slice.ensures.value) ∙ sym c.has_bus.ensures ∙ c.if-has_bus.false in
    subst (λ buses. IsDraft (record c.args.self.now { buses = buses })) (sym c.push.ensures)
    (IsDraft-bus c.args.self.now c.args.bus c.requires.sound c.requires.fits (omega arith) new)
