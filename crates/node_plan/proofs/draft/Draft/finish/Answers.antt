use Rattle.std.proofs.Common.{subst, sym}
use Rattle.node_plan.specs.IsPlan.{IsPlan}
use Rattle.node_plan.proofs.DraftLemmas.{IsPlan-with, some_item}
use Rattle.node_plan.proofs.draft.Draft.finish.Goals as goal

pub returns-clause-sound : goal.returns-clause-sound
returns-clause-sound c = subst IsPlan (sym c.plan_with.ensures)
    (IsPlan-with c.args.self c.in_ok-node.node c.requires (c.requires.node c.in_ok-node.node c.in_ok-node.was) (some_item c.args.self.buses c.if-is_empty.ensures.1))
