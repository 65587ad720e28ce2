-- A client that hears a log.
use Rattle.std.specs.Prelude.{◌≡◌, ℕ, List, Option, None, option_map}
use Rattle.file_client.specs.Fetch.{Event}
use Rattle.file_client.specs.Laws.{end_after}
use Rattle.file_client.specs.Stands.{Stands}
use Rattle.tail_frame.specs.declared.logged.Record.{Record}
use Rattle.node_reach.specs.Ears.{Hears}
use Rattle.node_reach.specs.Fetched.{file_limit, file_ears, reply_by, reply_at, events}
use Rattle.node_reach.specs.Ticks.{start_of, last_tick}
use Rattle.node_reach.specs.declared.asking.Asking.{Asking}
use Rattle.node_reach.specs.declared.client.Client.{Client}
use Rattle.node_reach.specs.declared.ear.Ear.{Ear}
use Rattle.node_reach.specs.declared.fetching.Fetching.{Fetching}
use Rattle.node_reach.specs.declared.responses.Response.{Response}

-- the event that a response is
abbrev pub event_in : Response → Event
event_in response = reply_by response.tid response.reply

-- this is the reply of a server that ends at the next record
abbrev pub TellsReply : Ear → ℕ → Record → Option Response → Type 0
TellsReply ear server rec response =
    (own : ℕ) (past : List Record) → Hears (file_ears own) ear past → option_map event_in response ≡ reply_at own server rec past

-- these events came to it
abbrev pub HasAsked : List Event → Asking → Type 0
HasAsked past now = Stands file_limit past now.fetch

-- it came to the last tick of these records
pub record HasTicked (now : Fetching) (past : List Record) : Type 0 where
  pub first : now.first ≡ start_of past
  pub tick : now.tick ≡ last_tick past

-- no end came: it knows the last tick and the sessions of these records
pub record Waits (now : Fetching) (past : List Record) : Type 0 where
  pub ticked : HasTicked now past
  pub hears : Hears (file_ears now.asking.client.own) now.responses.ear past

-- it heard these records; behind an end it no longer listens
pub record Fetches (client : Client) (now : Fetching) (past : List Record) : Type 0 where
  pub same : now.asking.client ≡ client
  pub asked : HasAsked (events client past) now.asking
  pub waits : end_after file_limit (events client past) ≡ None → Waits now past
