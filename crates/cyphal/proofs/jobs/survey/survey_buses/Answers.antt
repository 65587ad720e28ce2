use Rattle.bus_survey.specs.Surveyed.{survey_voice}
use Rattle.cyphal.specs.Words.{names_of}
use Rattle.cyphal.proofs.statuses.Reach.{ends_as_log}
use Rattle.cyphal.proofs.jobs.survey.survey_buses.Goals as goal

pub returns-clause-answer : goal.returns-clause-answer
returns-clause-answer g c h =
    let names = names_of c.args.buses in
    ends_as_log names (survey_voice names) _ _ c.surveyed.result _ _ c.status_of.result c.status_of.ensures h c.surveyed.ensures.listened
