use Rattle.std.proofs.Common.{◌∙◌, ℕ, List, subst}
use Rattle.tail_frame.specs.declared.logged.Record.{Record}
use Rattle.log_loop.specs.Gone.{any_stages}
use Rattle.log_loop.specs.Listened.{HasListened}
use Rattle.bus_survey.specs.Surveyed.{survey_voice}
use Rattle.log_loop.proofs.Weaker.{has_listened}
use Rattle.bus_survey.proofs.whole_log.survey.Goals as goal

pub returns-clause-listened : goal.returns-clause-listened
returns-clause-listened g c =
    let left = g.L.Source.left c.args.input.now in
    let new = g.L.Source.left c.listen.new.input in
    let before = g.O.Sink.written c.args.out.now in
    let after = g.O.Sink.written c.listen.new.out in
    let names = c.args.names.now in
    let own = c.new-surveying.result.names in
    subst (λ own. HasListened names (survey_voice own) (any_stages Record) left new c.listen.result before after) (c.new-surveying.ensures.names ∙ c.copy_of.ensures)
    (subst (λ (names : List (List ℕ)). HasListened names (survey_voice own) (any_stages Record) left new c.listen.result before after) c.copy_of-2.ensures
    (has_listened c.copy_of-2.result (survey_voice own) _ left new c.listen.result before after c.listen.ensures.listened))
