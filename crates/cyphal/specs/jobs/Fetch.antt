-- `fetch NODE SERVER PATH`: a file of another node, over the log of the input.
use Rattle.node_reach.specs.Buses.{bus_names}
use Rattle.node_reach.specs.Fetched.{fetch_voice}
use Rattle.node_reach.specs.FetchedFile.{WritesFile}
use Rattle.node_reach.specs.declared.client.Client.{Client}
use Rattle.node_run.specs.ValueLines.{Flow}
use Rattle.node_run.specs.declared.status.Status.{Status}
use Rattle.cyphal.specs.Job.{Job, ReportsNothing, flow_of}
use Rattle.cyphal.specs.jobs.Reach.{HasListened, reach_job}

-- The log was heard, and what was written is what the client says of it. Where the log was heard to
-- its end, its replies are those of a server that answers from one file, and the end behind all of
-- them is Done, the last line is that of this very file.
pub record HasFetched (client : Client) (stat : Status) (told : Flow) : Type 0 where
  pub listened : HasListened bus_names (fetch_voice client) stat told
  pub fetched : WritesFile client told.left listened.ended told.before told.after

-- it ends as the log does
abbrev pub fetch_job : Client → Job
fetch_job client = record (reach_job (fetch_voice client)) {
  did = λ told came.
      HasFetched client came.status (flow_of told came) × ReportsNothing came;
}
