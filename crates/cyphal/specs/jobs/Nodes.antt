-- `nodes BUSES`: who comes and goes on these buses, over the log of the input.
use Rattle.std.specs.Prelude.{ℕ, List}
use Rattle.node_reach.specs.Watched.{nodes_voice}
use Rattle.cyphal.specs.Job.{Job}
use Rattle.cyphal.specs.jobs.Reach.{heard_job}

abbrev pub nodes_job : List (List ℕ) → Job
nodes_job names = heard_job names nodes_voice
