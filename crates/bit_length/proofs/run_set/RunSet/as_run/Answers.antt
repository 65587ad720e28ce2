use Rattle.std.proofs.Common.{◌≡◌, [], length, sym, ◌∙◌}
use Rattle.std.proofs.lemmas.Bool.{eqb-true}
use Rattle.std.proofs.lemmas.List.{nil_from_length}
use Rattle.bit_length.proofs.SetLemmas.{one_run}
use Rattle.bit_length.proofs.run_set.RunSet.as_run.Goals as goal

pub returns-then-is_empty-clause-members : goal.returns-then-is_empty-clause-members
returns-then-is_empty-clause-members c =
    let others = c.self.inside.others.items in
    let listed = c.as_slice.result.now in
    let none : others ≡ [] = sym c.as_slice.ensures.value ∙ nil_from_length listed (eqb-true (length listed) 0 (sym c.is_empty.ensures ∙ c.if-is_empty.true)) in
    one_run c.self.inside.step c.args.step others c.self.inside.last c.args.self.now c.self.invariant c.self.view_is none c.if-self-step.false
