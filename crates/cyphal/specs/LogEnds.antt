-- How the log of the input ends a command that hears it.
use Rattle.std.specs.Prelude.{◌≡◌, ℕ, List, Option, Some, None, IfSome}
use Rattle.frame_log.specs.Log.{log_of}
use Rattle.frame_log.specs.declared.error.LogError.{LogError}
use Rattle.node_run.specs.Ran.{refused}
use Rattle.node_run.specs.declared.status.Status.{Status}
use Rattle.node_run.specs.declared.status.Status.TheVariants as status

-- the status of a log that ends so
abbrev pub ending : Option LogError → Status
ending None = status.Ok
ending (Some error) = refused error

-- the status is that of the log of these buses that the input has, where the input is told
abbrev pub EndsAsLog : List (List ℕ) → Option (List ℕ) → Status → Type 0
EndsAsLog names input stat = IfSome input (λ bytes. stat ≡ ending (log_of names bytes).refusal)
