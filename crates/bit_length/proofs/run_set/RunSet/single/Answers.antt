use Rattle.std.proofs.Common.{◌≡◌, [], length, sym, ◌∙◌}
use Rattle.std.proofs.lemmas.Bool.{eqb-true}
use Rattle.std.proofs.lemmas.List.{nil_from_length}
use Rattle.bit_length.proofs.SetLemmas.{one_member}
use Rattle.bit_length.proofs.run_set.RunSet.single.Goals as goal

pub returns-then-self-clause-member : goal.returns-then-self-clause-member
returns-then-self-clause-member c =
    let others = c.self.inside.others.items in
    let listed = c.as_slice.result.now in
    let none : others ≡ [] = sym c.as_slice.ensures.value ∙ nil_from_length listed (eqb-true (length listed) 0 (sym c.is_empty.ensures ∙ c.if-not-is_empty.false)) in
    one_member c.self.inside.step c.member.result others c.self.inside.last c.args.self.now c.self.invariant c.self.view_is none c.if-self.true c.member.ensures.value
