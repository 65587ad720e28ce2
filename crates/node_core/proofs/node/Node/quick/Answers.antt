use Rattle.std.proofs.Common.{refl, sym}
use Rattle.tail_frame.specs.Frames.{frame_of, seen}
use Rattle.node_core.proofs.Messages.{for_of, message_asks}
use Rattle.node_core.proofs.Steps.{frame_stands, stands_as_before}
use Rattle.node_core.proofs.node.Node.quick.Goals as goal

pub returns-in_err-index-clause-none : goal.returns-in_err-index-clause-none
returns-in_err-index-clause-none c = λ _. stands_as_before c.args.self.now c.hear_at.new.self c.hear_at.ensures.plan (c.in_err-index.ensures.none refl)

pub returns-clause-stands : goal.returns-clause-stands
returns-clause-stands c =
    frame_stands c.args.self.now c.hear_at.new.self c.args.rec.now _ c.hear_at.ensures.plan c.in_ok-frame.ensures.value c.in_ok-index.ensures.stands

pub returns-clause-asks : goal.returns-clause-asks
returns-clause-asks c =
    message_asks c.args.self.now c.args.rec.now _ c.in_ok-frame.ensures.value
    (c.requires.leads c.args.self.now.plan.node (seen c.in_ok-frame.frame) (sym c.in_ok-frame.ensures.value)).kind

pub returns-clause-of : goal.returns-clause-of
returns-clause-of c =
    for_of c.args.self.now.plan.node (frame_of c.args.rec.now) _ c.in_ok-frame.ensures.value

pub hear_at-requires-clause-place : goal.hear_at-requires-clause-place
hear_at-requires-clause-place c =
    (c.requires.leads c.args.self.now.plan.node (seen c.in_ok-frame.frame) (sym c.in_ok-frame.ensures.value)).at
