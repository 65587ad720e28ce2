use Rattle.std.proofs.Common.{◌∙◌, ◌++◌, List, ℕ, ap}
use Rattle.log_loop.proofs.Plain.{plain_heard}
use Rattle.log_explain.specs.Explained.{last_text, step_text}
use Rattle.log_explain.proofs.Texts.{on_ok}
use Rattle.log_explain.proofs.explaining.ExplainingListener.hear.Goals as goal

pub returns-in-Nowhere-clause-heard : goal.returns-in-Nowhere-clause-heard
returns-in-Nowhere-clause-heard c = plain_heard (λ first. step_text first.node.plan) (λ first. last_text first.node.plan) _ _ _ _ _ _ (λ first past h.
    let both = c.hear_nowhere.ensures.heard first.node.plan past h in
    (both.0, both.1 ∙ ap (λ (t : List ℕ). t ++ step_text first.node.plan c.args.rec.now past) c.reserve.ensures.text))

pub returns-in-AtPort-clause-heard : goal.returns-in-AtPort-clause-heard
returns-in-AtPort-clause-heard c = on_ok _ _ c.hear_message.result (λ hears. plain_heard (λ first. step_text first.node.plan) (λ first. last_text first.node.plan) _ _ _ _ _ _ (λ first past h.
    let both = hears first.node.plan past h in
    (both.0, both.1 ∙ ap (λ (t : List ℕ). t ++ step_text first.node.plan c.args.rec.now past) c.reserve.ensures.text))) c.hear_message.ensures.heard

pub returns-in-Service-clause-heard : goal.returns-in-Service-clause-heard
returns-in-Service-clause-heard c = on_ok _ _ c.hear_by.result (λ hears. plain_heard (λ first. step_text first.node.plan) (λ first. last_text first.node.plan) _ _ _ _ _ _ (λ first past h.
    let both = hears first.node.plan past h in
    (both.0, both.1 ∙ ap (λ (t : List ℕ). t ++ step_text first.node.plan c.args.rec.now past) c.reserve.ensures.text))) c.hear_by.ensures.heard
