-- What is said of a command that was carried out.
use Rattle.std.specs.Prelude.{◌≡◌, ◌⊎◌, ◌≤◌, true, false}
use Rattle.node_run.specs.Ran.{no_numbers}
use Rattle.node_run.specs.declared.status.Status.{Status}
use Rattle.cyphal.specs.Cause.{Outside, HasCauseOver}
use Rattle.cyphal.specs.Job.{Told, Outcome, Job, is_fault, NotDone}
use Rattle.cyphal.specs.declared.counted.Counted.{Counted}

-- it ended as its job asks, with one of its statuses, for that reason, and did nothing, or what its
-- job says
pub record IsCarriedOut {L : Type 0} (job : Job) (told : Told) (came : Outcome)
    (old new : Outside L) : Type 0 where
  pub answer : is_fault came.status ≡ false → job.expects told came.status
  pub among : job.may_end came.status ≡ true
  pub cause : HasCauseOver job.takes_input job.serves came.status old new
  pub ran : NotDone told came old new ⊎ job.did told came
  pub held : came.reported.numbers.held ≤ came.reported.numbers.bound

-- a command that ended so, and counted nothing
abbrev pub uncounted : Status → Counted
uncounted stat = record { status = stat; numbers = no_numbers }
