-- `monitor NODE` and `allocate NODE`: what hears the log of the input without a plan, and what it
-- says.
use Rattle.std.specs.Prelude.{◌≡◌, ℕ, true, false, List, is_some}
use Rattle.tail_frame.specs.declared.logged.Record.{Record}
use Rattle.log_loop.specs.Gone.{any_stages}
use Rattle.log_loop.specs.Listened.{HasListened as Listened}
use Rattle.log_loop.specs.Voice.{Voice}
use Rattle.log_loop.specs.declared.ended.Ended.{Ended}
use Rattle.node_reach.specs.Allocated.{allocate_voice}
use Rattle.node_reach.specs.Buses.{bus_names}
use Rattle.node_reach.specs.Monitored.{monitor_voice}
use Rattle.node_run.specs.Ran.{status_of}
use Rattle.node_run.specs.ValueLines.{Flow}
use Rattle.node_run.specs.declared.status.Status.{Status}
use Rattle.cyphal.specs.Job.{Job, ReportsNothing, flow_of}
use Rattle.cyphal.specs.MayEnd.{of_log}
use Rattle.cyphal.specs.LogEnds.{EndsAsLog}
use Rattle.cyphal.specs.declared.jobs.reach.Hearing.{Hearing}
use Rattle.cyphal.specs.declared.jobs.reach.Hearing.TheVariants as hearing

-- what the node with this node-ID says of a log
abbrev pub voice_of : Hearing → ℕ → Voice Record
voice_of hearing.Monitor own = monitor_voice own
voice_of hearing.Allocate own = allocate_voice own

-- The log of an input, of these buses, was heard until it ended so, and what was written is what a
-- voice says of its records: all of it, or the beginning that the end says; where the input failed,
-- exactly what it says of the lines that were taken whole; and however it ended, it was written
-- before much more was taken.
pub record HasListened (names : List (List ℕ)) (said : Voice Record) (stat : Status)
    (told : Flow) : Type 0 where
  pub ended : Ended
  pub is : stat ≡ status_of ended
  pub listened : Listened names said (any_stages Record)
      told.left told.new ended told.before told.after

-- it ends as the log does
abbrev pub heard_job : List (List ℕ) → Voice Record → Job
heard_job names said = record {
  calls_tree = false;
  needs = λ files. 0;
  takes_input = true;
  serves = false;
  may_end = of_log;
  is_told = λ told. is_some told.input;
  expects = λ told stat. EndsAsLog names told.input stat;
  did = λ told came.
      HasListened names said came.status (flow_of told came) × ReportsNothing came;
}

-- the buses are those that are heard without a plan
abbrev pub reach_job : Voice Record → Job
reach_job said = heard_job bus_names said
