-- What the words ask for.
use Rattle.std.specs.Prelude.{◌≡◌, ◌⊎◌, ℕ, true, false, List, Option, Some, None}
use Rattle.node_run.specs.declared.status.Status.TheVariants as status
use Rattle.cyphal.specs.Words.{Command, command_of}
use Rattle.cyphal.specs.Cause.{Outside}
use Rattle.cyphal.specs.Job.{Told, Outcome, Job, NotDone}
use Rattle.cyphal.specs.MayEnd.{of_words}
use Rattle.cyphal.specs.jobs.{job_of}

-- words that are no command ask for their refusal alone
abbrev pub no_job : Job
no_job = record {
  calls_tree = false;
  needs = λ files. 0;
  takes_input = false;
  serves = false;
  may_end = of_words;
  is_told = λ told. true;
  expects = λ told stat. stat ≡ status.Usage;
  did = λ told came. ⊥;
}

abbrev pub job_asked : Option Command → Job
job_asked None = no_job
job_asked (Some command) = job_of command

-- what the words ask for
abbrev pub job_for : List (List ℕ) → Job
job_for words = job_asked (command_of words)

-- what was done: nothing, or what the words ask for
abbrev pub WasDone : {L : Type 0} → List (List ℕ) → Told → Outcome → Outside L → Outside L → Type 0
WasDone words told came old new = NotDone told came old new ⊎ (job_for words).did told came
