-- What is written where a file was fetched whole.
use Rattle.std.specs.Prelude.{◌≡◌, ◌++◌, ℕ, List, Option, Some}
use Rattle.cy_outside.specs.Written.{behind}
use Rattle.file_client.specs.Laws.{IsFair, end_after}
use Rattle.file_client.specs.declared.event.FetchOut.TheVariants.{Done}
use Rattle.frame_log.specs.Log.{Log, log_of}
use Rattle.log_loop.specs.Voice.{said, newest_first}
use Rattle.log_loop.specs.declared.ended.Ended.{Ended}
use Rattle.log_loop.specs.declared.ended.Ended.TheVariants as end
use Rattle.node_reach.specs.Buses.{bus_names}
use Rattle.node_reach.specs.Fetched.{events, file_limit, file_line, fetch_voice}
use Rattle.node_reach.specs.declared.client.Client.{Client}

-- each reply of a log is fair for a file, and behind all its events the client has ended with the
-- whole file
pub record IsFetched (client : Client) (file : List ℕ) (log : Log) : Type 0 where
  pub fair : IsFair file file_limit (events client (newest_first log))
  pub done : end_after file_limit (events client (newest_first log)) ≡ Some Done

-- where the told log of an input fetches a file so, the line of that very file was written last
abbrev pub WritesFile : Client → Option (List ℕ) → Ended → Option (List ℕ) → Option (List ℕ)
    → Type 0
WritesFile client told ended before after =
    (bytes file : List ℕ) → told ≡ Some bytes → ended ≡ end.Ok → IsFetched client file (log_of bus_names bytes)
    → after ≡ behind before (said (fetch_voice client) (newest_first (log_of bus_names bytes)) ++ file_line file)
