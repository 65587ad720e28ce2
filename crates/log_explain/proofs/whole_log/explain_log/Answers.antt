use Rattle.std.proofs.Common.{◌≡◌, ◌∙◌, ℕ, List, Option, ap, subst}
use Rattle.tail_frame.specs.declared.logged.Record.{Record}
use Rattle.node_plan.specs.declared.plan.Plan.{Plan}
use Rattle.log_loop.proofs.Listened.{listened_none}
use Rattle.log_loop.proofs.Plain.{plain_comes}
use Rattle.log_loop.specs.Gone.{any_stages}
use Rattle.log_loop.specs.Listened.{HasListened}
use Rattle.log_loop.specs.declared.ended.Ended.TheVariants as end
use Rattle.node_core.specs.declared.node.Node.{Node}
use Rattle.log_explain.specs.Explained.{explain_voice, last_text, names_of, step_text}
use Rattle.log_explain.proofs.Nodes.{begun, few_first}
use Rattle.log_loop.proofs.Weaker.{has_listened}
use Rattle.log_explain.proofs.whole_log.explain_log.Goals as goal

none_listened : (plan : Plan) (told before : Option (List ℕ)) → HasListened (names_of plan) (explain_voice plan) (any_stages Record) told told end.NoMemory before before
none_listened plan told before = listened_none (names_of plan) (explain_voice plan) (any_stages Record) (plain_comes (step_text plan) (last_text plan)) told before tt

pub returns-in_default-clause-listened : goal.returns-in_default-clause-listened
returns-in_default-clause-listened g c = none_listened c.args.plan (g.L.Source.left c.args.input.now) (g.O.Sink.written c.args.out.now)

pub returns-in_default-new-clause-listened : goal.returns-in_default-new-clause-listened
returns-in_default-new-clause-listened g c = none_listened c.args.plan (g.L.Source.left c.args.input.now) (g.O.Sink.written c.args.out.now)

pub listen-requires-clause-heard : goal.listen-requires-clause-heard
listen-requires-clause-heard g c =
    begun c.args.plan c.in-Ok-new.explaining c.in-Ok.node c.in-Ok-new.ensures.node c.in-Ok.ensures.plan (c.in-Ok-new.ensures.names ∙ c.names_of-own.ensures) c.in-Ok.ensures.stands
    (c.in-Ok-new.ensures.counted (few_first c.in-Ok.node c.in-Ok.ensures.stands)) c.in-Ok-new.ensures.records

pub returns-clause-listened : goal.returns-clause-listened
returns-clause-listened g c =
    let left = g.L.Source.left c.args.input.now in
    let new = g.L.Source.left c.listen.new.input in
    let before = g.O.Sink.written c.args.out.now in
    let after = g.O.Sink.written c.listen.new.out in
    let own = c.in-Ok-new.explaining.node.plan in
    let is : own ≡ c.args.plan = ap (λ (n : Node). n.plan) c.in-Ok-new.ensures.node ∙ c.in-Ok.ensures.plan in
    subst (λ (p : Plan). HasListened (names_of c.args.plan) (explain_voice p) (any_stages Record) left new c.listen.result before after) is
    (subst (λ (names : List (List ℕ)). HasListened names (explain_voice own) (any_stages Record) left new c.listen.result before after) c.names_of-names.ensures
    (has_listened c.names_of-names.result (explain_voice own) _ left new c.listen.result before after c.listen.ensures.listened))
