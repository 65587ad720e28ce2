-- What a `Fetch` keeps, and the events that it stands for.
use Rattle.std.specs.Prelude.{◌≡◌, ⊤, ℕ, ◌≤◌, ◌<◌, List, length, take}
use Rattle.file_client.specs.Fetch.{Event, reply, late, State, tid_of, offset_of, fetched}
use Rattle.file_client.specs.declared.event.FetchEvent.{FetchEvent}
use Rattle.file_client.specs.declared.event.FetchEvent.TheVariants as heard
use Rattle.file_client.specs.declared.fetch.Fetch.{Fetch}

-- an event with its bytes
abbrev pub event_of : FetchEvent → Event
event_of (heard.Reply tid code bytes) = reply tid code bytes.now
event_of heard.Late = late

-- a reply has at most 256 bytes
abbrev pub IsShort : Event → Type 0
IsShort (reply tid code bytes) = length bytes ≤ 256
IsShort late = ⊤

-- what is kept is this state, of a client that takes at most `limit` bytes
pub record Keeps (limit : ℕ) (s : State) (f : Fetch) : Type 0 where
  pub limit_is : length f.buffer ≡ limit
  pub count : f.count ≡ offset_of s
  pub file : take f.count f.buffer ≡ s.file
  pub tid : f.tid ≡ tid_of s
  pub lates : f.lates ≡ s.lates
  pub end : f.end ≡ s.end
  -- some request was made
  pub asked : 0 < length s.asked

-- what is kept is what these events give
abbrev pub Stands : ℕ → List Event → Fetch → Type 0
Stands limit past f = Keeps limit (fetched limit past) f
