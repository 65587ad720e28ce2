-- What a client that fetches a file does at each event. Lists of events have the newest first.
use Rattle.std.specs.Prelude.{ℕ, ◌+◌, ◌-◌, ◌%◌, ◌==◌, ◌<◌, nat_lt, if◌then◌else◌, Bool, true, false}
use Rattle.std.specs.Prelude.{List, [], ◌∷◌, ◌++◌, length, Option, Some, None, ⊤}
use Rattle.file_client.specs.declared.event.FetchOut.{FetchOut}
use Rattle.file_client.specs.declared.event.FetchOut.TheVariants.{Ask, Wait, Done, Refused, GaveUp}
use Rattle.file_client.specs.declared.event.FetchOut.TheVariants.{TooLong}

-- what comes: a reply of the server, or that the request that is out is late
pub data Event : Type 0 where
  reply : (tid code : ℕ) (bytes : List ℕ) → Event
  late : Event

-- whether an answer is an end, and whether this is none or an end
abbrev pub is_end : FetchOut → Bool
is_end (Ask tid offset) = false
is_end Wait = false
is_end Done = true
is_end (Refused code) = true
is_end (GaveUp offset) = true
is_end (TooLong n) = true

abbrev pub is_end_if_any : Option FetchOut → Bool
is_end_if_any None = true
is_end_if_any (Some out) = is_end out

-- a request that is made has a transfer-ID of 0 to 31
abbrev pub AsksInRange : FetchOut → Type 0
AsksInRange (Ask tid offset) = tid < 32
AsksInRange Wait = ⊤
AsksInRange Done = ⊤
AsksInRange (Refused code) = ⊤
AsksInRange (GaveUp offset) = ⊤
AsksInRange (TooLong n) = ⊤

pub record State : Type 0 where
  -- the offset of each request, the newest first
  pub asked : List ℕ
  -- the bytes of the file so far
  pub file : List ℕ
  -- how often a request was late since the offset changed
  pub lates : ℕ
  pub end : Option FetchOut

-- request 0, at offset 0, is out
abbrev pub begin : State
begin = record { asked = 0 ∷ []; file = []; lates = 0; end = None }

-- the transfer-ID of the last request: that of request r is r modulo 32
abbrev pub tid_of : State → ℕ
tid_of s = (length s.asked - 1) % 32

abbrev pub offset_of : State → ℕ
offset_of s = length s.file

-- the next request is made, at the offset of the bytes so far
abbrev pub ask : State → State × FetchOut
ask s =
    let next = record s { asked = offset_of s ∷ s.asked } in
    (next, Ask (tid_of next) (offset_of next))

-- the end comes
abbrev pub finish : State → FetchOut → State × FetchOut
finish s out = (record s { end = Some out }, out)

-- the eighth Late at one offset is the end
abbrev pub on_late : State → State × FetchOut
on_late s =
    if s.lates + 1 == 8 then finish s (GaveUp (offset_of s))
    else ask (record s { lates = s.lates + 1 })

-- bytes come at the offset: fewer than 256 are the last of the file
abbrev pub on_piece : ℕ → State → List ℕ → State × FetchOut
on_piece limit s bytes =
    if nat_lt limit (offset_of s + length bytes) then finish s (TooLong (offset_of s + length bytes))
    else if nat_lt (length bytes) 256 then finish (record s { file = s.file ++ bytes }) Done
    else ask (record s { file = s.file ++ bytes; lates = 0 })

-- a reply without error brings bytes
abbrev pub on_answer : ℕ → State → ℕ → List ℕ → State × FetchOut
on_answer limit s code bytes = if code == 0 then on_piece limit s bytes else finish s (Refused code)

-- a reply counts where it has the transfer-ID of the request that is out
abbrev pub on_reply : ℕ → State → ℕ → ℕ → List ℕ → State × FetchOut
on_reply limit s tid code bytes = if tid == tid_of s then on_answer limit s code bytes else (s, Wait)

abbrev pub on_event : ℕ → State → Event → State × FetchOut
on_event limit s (reply tid code bytes) = on_reply limit s tid code bytes
on_event limit s late = on_late s

-- after an end each event is answered by it, and nothing changes
abbrev pub step_after : ℕ → Option FetchOut → State → Event → State × FetchOut
step_after limit None s e = on_event limit s e
step_after limit (Some out) s e = (s, out)

abbrev pub step : ℕ → State → Event → State × FetchOut
step limit s e = step_after limit s.end s e

-- the state after these events, of a client that takes at most `limit` bytes
abbrev pub fetched : ℕ → List Event → State
fetched limit [] = begin
fetched limit (e ∷ past) = (step limit (fetched limit past) e).0

-- the answer to an event
abbrev pub answer : ℕ → Event → List Event → FetchOut
answer limit e past = (step limit (fetched limit past) e).1
