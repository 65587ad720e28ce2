use Rattle.std.proofs.Common.{◌≡◌, ◌∙◌, ◌∷◌, inl, inr, length, take, ap}
use Rattle.std.proofs.Math.Seq.{take-length}
use Rattle.node_core.specs.Stands.{TakesOrNot}
use Rattle.node_core.specs.Steps.{Kept}
use Rattle.report_lines.specs.Lent.{told_lines}
use Rattle.node_core.proofs.Frames.{cut_again, did_step, in_front}
use Rattle.node_core.proofs.Places.{kept_stay}
use Rattle.node_core.proofs.Steps.{on_err}
use Rattle.node_core.proofs.node.Node.frame.Goals as goal

pub returns-in-Err-clause-behind : goal.returns-in-Err-clause-behind
returns-in-Err-clause-behind g c =
    let old = c.args.lines.now in
    let back : c.cut_back.new.self ≡ old =
    c.cut_back.ensures ∙ (ap (λ n. take n c.answer.new.lines) c.len-before.ensures ∙ cut_again old _ c.push_told.new.lines c.answer.new.lines c.in_ok-push_told.ensures.ok c.in-Err.ensures.err) in
    ap (take (length old)) back ∙ take-length old

pub returns-in-Err-clause-err : goal.returns-in-Err-clause-err
returns-in-Err-clause-err g c =
    c.cut_back.ensures
    ∙ (ap (λ n. take n c.answer.new.lines) c.len-before.ensures
    ∙ cut_again c.args.lines.now _ c.push_told.new.lines c.answer.new.lines c.in_ok-push_told.ensures.ok c.in-Err.ensures.err)

pub returns-in-Ok-clause-behind : goal.returns-in-Ok-clause-behind
returns-in-Ok-clause-behind g c =
    in_front c.args.lines.now (told_lines c.told-told.result) c.push_told.new.lines _ c.answer.new.lines c.in_ok-push_told.ensures.ok c.in-Ok.ensures.did.lines_are

pub returns-in-Ok-clause-stands : goal.returns-in-Ok-clause-stands
returns-in-Ok-clause-stands g c = λ past s. c.in-Ok.ensures.stands (c.args.rec.now ∷ past) (c.in_ok-came.ensures.stands past s)

pub returns-in-Ok-clause-did : goal.returns-in-Ok-clause-did
returns-in-Ok-clause-did g c =
    did_step c.args.self.now c.step.new.self c.answer.new.self c.args.rec.now c.in_ok-came.came (told_lines c.told-told.result) c.in_ok-request.request
    c.in_ok-came.ensures.plan c.in_ok-came.ensures.keeps c.in_ok-request.ensures.request c.in_ok-came.ensures.request
    (λ past s. c.told-told.ensures.line ∙ c.in_ok-came.ensures.lines past s)
    (g.T.Tree.files c.args.tree.now) c.args.lines.now c.push_told.new.lines c.answer.new.lines c.in-Ok.failed c.in_ok-push_told.ensures.ok c.in-Ok.ensures.did

pub returns-in_err-came-clause-memory : goal.returns-in_err-came-clause-memory
returns-in_err-came-clause-memory g c =
    on_err (TakesOrNot c.args.rec.now c.args.self.now c.step.new.self) c.from_residual.result (λ past s. inl (c.in_err-came.ensures.err past s))

-- the record was taken
pub returns-in_err-request-clause-memory : goal.returns-in_err-request-clause-memory
returns-in_err-request-clause-memory g c =
    on_err (TakesOrNot c.args.rec.now c.args.self.now c.step.new.self) c.from_residual-in_err-request.result (λ past s. inr (c.in_ok-came.ensures.stands past s))

pub returns-in_err-push_told-clause-memory : goal.returns-in_err-push_told-clause-memory
returns-in_err-push_told-clause-memory g c =
    on_err (TakesOrNot c.args.rec.now c.args.self.now c.step.new.self) c.from_residual-in_err-push_told.result (λ past s. inr (c.in_ok-came.ensures.stands past s))

pub returns-in-Err-clause-memory : goal.returns-in-Err-clause-memory
returns-in-Err-clause-memory g c = λ past s. inr (c.in-Err.ensures.stands (c.args.rec.now ∷ past) (c.in_ok-came.ensures.stands past s))

-- a bus has its list, whatever came

pub returns-in_err-came-clause-queues : goal.returns-in_err-came-clause-queues
returns-in_err-came-clause-queues g c = kept_stay c.args.self.now c.step.new.self c.step.ensures.plan c.step.ensures.keeps

pub returns-in_err-request-clause-queues : goal.returns-in_err-request-clause-queues
returns-in_err-request-clause-queues g c = kept_stay c.args.self.now c.step.new.self c.step.ensures.plan c.step.ensures.keeps

pub returns-in_err-push_told-clause-queues : goal.returns-in_err-push_told-clause-queues
returns-in_err-push_told-clause-queues g c = kept_stay c.args.self.now c.step.new.self c.step.ensures.plan c.step.ensures.keeps

pub returns-in-Ok-clause-queues : goal.returns-in-Ok-clause-queues
returns-in-Ok-clause-queues g c = λ h. c.answer.ensures.queues (kept_stay c.args.self.now c.step.new.self c.step.ensures.plan c.step.ensures.keeps h)

pub returns-in-Err-clause-queues : goal.returns-in-Err-clause-queues
returns-in-Err-clause-queues g c = λ h. c.answer.ensures.queues (kept_stay c.args.self.now c.step.new.self c.step.ensures.plan c.step.ensures.keeps h)

-- and where memory was wanting, nothing of the reply

pub returns-in_err-came-clause-unsent : goal.returns-in_err-came-clause-unsent
returns-in_err-came-clause-unsent g c = on_err _ c.from_residual.result (ap (λ (k : Kept). k.queues) c.step.ensures.keeps)

pub returns-in_err-request-clause-unsent : goal.returns-in_err-request-clause-unsent
returns-in_err-request-clause-unsent g c = on_err _ c.from_residual-in_err-request.result (ap (λ (k : Kept). k.queues) c.step.ensures.keeps)

pub returns-in_err-push_told-clause-unsent : goal.returns-in_err-push_told-clause-unsent
returns-in_err-push_told-clause-unsent g c = on_err _ c.from_residual-in_err-push_told.result (ap (λ (k : Kept). k.queues) c.step.ensures.keeps)

pub returns-in-Err-clause-unsent : goal.returns-in-Err-clause-unsent
returns-in-Err-clause-unsent g c = c.in-Err.ensures.unsent ∙ ap (λ (k : Kept). k.queues) c.step.ensures.keeps
