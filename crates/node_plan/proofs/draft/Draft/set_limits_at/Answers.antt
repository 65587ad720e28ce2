use Rattle.std.proofs.Common.{◌≡◌, ◌∙◌, true, Some, sym, subst}
use Rattle.std.specs.Prelude.{slice_get}
use Rattle.std_types.specs.declared.registers.Register.{Register}
use Rattle.node_plan.specs.IsPlan.{IsDraft}
use Rattle.node_plan.specs.Registers.{can_limit}
use Rattle.node_plan.proofs.DraftLemmas.{IsDraft-limits, register_at}
use Rattle.node_plan.proofs.draft.Draft.set_limits_at.Goals as goal

pub returns-clause-sound : goal.returns-clause-sound
returns-clause-sound c =
    let r : Register = c.index-as_slice-place.result in
    let held : slice_get c.args.self.now.registers c.args.place ≡ Some r = register_at c.as_slice.result.now c.args.self.now.registers c.args.place r c.as_slice.ensures c.requires.held c.index-as_slice-place.is in
    let can : can_limit c.args.limits r.value ≡ true = sym c.can_limit.ensures ∙ c.if-not-can_limit.false in
    subst (λ registers. IsDraft (record c.args.self.now { registers = registers })) (sym (c.limit_at.ensures r held))
    (IsDraft-limits c.args.self.now c.args.place c.args.limits r c.requires.sound held can)
