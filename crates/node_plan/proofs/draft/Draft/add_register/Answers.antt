use Rattle.std.proofs.Common.{◌≡◌, ◌∙◌, sym, subst, ap, arith, false}
use Rattle.node_plan.specs.Draft.{has_register}
use Rattle.node_plan.specs.IsPlan.{IsDraft}
use Rattle.node_plan.proofs.DraftLemmas.{IsDraft-register}
use Rattle.node_plan.proofs.draft.Draft.add_register.Goals as goal

pub returns-in-Ok-clause-sound : goal.returns-in-Ok-clause-sound
returns-in-Ok-clause-sound c =
    let new : has_register c.args.register.name c.args.self.now.registers ≡ false = ap (has_register c.args.register.name) (sym c.as_slice.ensures) ∙ sym c.has_register.ensures ∙ c.if-has_register.false in
    subst (λ registers. IsDraft (record c.args.self.now { registers = registers })) (sym c.in-Ok.ensures.ok)
    (IsDraft-register c.args.self.now c.args.register c.requires.sound c.requires.fits (omega arith) new)
