-- `survey BUSES`: what each of these buses and each flow on them carries, over the log of the
-- input.
use Rattle.std.specs.Prelude.{ℕ, List}
use Rattle.bus_survey.specs.Surveyed.{survey_voice}
use Rattle.cyphal.specs.Job.{Job}
use Rattle.cyphal.specs.jobs.Reach.{heard_job}

abbrev pub survey_job : List (List ℕ) → Job
survey_job names = heard_job names (survey_voice names)
