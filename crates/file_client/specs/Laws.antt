-- What is fetched, over every list of events, and over those in which a server answers from one
-- file.
use Rattle.std.specs.Prelude.{◌≡◌, ◌≢◌, ⊤, ℕ, ◌+◌, ◌-◌, ◌%◌, ◌<◌, ◌≤◌, ◌==◌, if◌then◌else◌, List}
use Rattle.std.specs.Prelude.{[], ◌∷◌, length, take, drop, slice_index, Option, Some, None}
use Rattle.file_client.specs.Fetch.{Event, reply, late, State, tid_of, offset_of, fetched, answer}
use Rattle.file_client.specs.declared.event.FetchOut.{FetchOut}
use Rattle.file_client.specs.declared.event.FetchOut.TheVariants.{Ask, Wait, Done, Refused, GaveUp}
use Rattle.file_client.specs.declared.event.FetchOut.TheVariants.{TooLong}

-- a fair reply has code 0 and the bytes of the file at the offset of a request made before, and
-- that request's transfer-ID; `newer` requests, fewer than 32, were made after it
pub record IsFairReply (file : List ℕ) (s : State) (tid code : ℕ) (bytes : List ℕ) : Type 0 where
  pub newer : ℕ
  pub code_is : code ≡ 0
  pub recent : newer < 32
  pub made : newer < length s.asked
  pub tid_is : tid ≡ (length s.asked - 1 - newer) % 32
  pub bytes_are : bytes ≡ take 256 (drop (slice_index s.asked newer) file)

abbrev pub IsFairEvent : List ℕ → State → Event → Type 0
IsFairEvent file s (reply tid code bytes) = IsFairReply file s tid code bytes
IsFairEvent file s late = ⊤

-- each reply is fair at its time
abbrev pub IsFair : List ℕ → ℕ → List Event → Type 0
IsFair file limit [] = ⊤
IsFair file limit (e ∷ past) = IsFairEvent file (fetched limit past) e × IsFair file limit past

-- the number of bytes after these events
abbrev pub offset_after : ℕ → List Event → ℕ
offset_after limit past = offset_of (fetched limit past)

-- the transfer-ID of the request that is out after these events
abbrev pub tid_after : ℕ → List Event → ℕ
tid_after limit past = tid_of (fetched limit past)

abbrev pub end_after : ℕ → List Event → Option FetchOut
end_after limit past = (fetched limit past).end

abbrev pub one_if_late : Event → ℕ
one_if_late (reply tid code bytes) = 0
one_if_late late = 1

-- how many Lates came since the offset changed, or since the start
abbrev pub lates_since : ℕ → List Event → ℕ
lates_since limit [] = 0
lates_since limit (e ∷ past) =
    if offset_after limit (e ∷ past) == offset_after limit past then one_if_late e + lates_since limit past else 0

-- a reply without error to the request that is out, whose bytes pass the limit
pub record PassesLimit (limit : ℕ) (past : List Event) (e : Event) (n : ℕ) : Type 0 where
  pub bytes : List ℕ
  pub is_reply : e ≡ reply (tid_after limit past) 0 bytes
  pub length_is : n ≡ offset_after limit past + length bytes
  pub above : limit < n

-- the end that an answer is
abbrev pub end_of : FetchOut → Option FetchOut
end_of (Ask tid offset) = None
end_of Wait = None
end_of Done = Some Done
end_of (Refused code) = Some (Refused code)
end_of (GaveUp offset) = Some (GaveUp offset)
end_of (TooLong n) = Some (TooLong n)

-- a fair list that ends with Done
pub record FairToDone (file : List ℕ) (limit : ℕ) : Type 0 where
  pub past : List Event
  pub fair : IsFair file limit past
  pub done : end_after limit past ≡ Some Done

pub record FetchLaws : Type 0 where
  -- of a fair list the bytes are a front of the file, and at Done the file
  pub front : (file : List ℕ) (limit : ℕ) (past : List Event) → IsFair file limit past
      → (fetched limit past).file ≡ take (offset_after limit past) file
  pub whole : (file : List ℕ) (limit : ℕ) (past : List Event) → IsFair file limit past
      → end_after limit past ≡ Some Done → (fetched limit past).file ≡ file
  -- every file within the limit can be fetched: some fair list ends with Done
  pub can_be_fetched : (file : List ℕ) (limit : ℕ) → length file ≤ limit → FairToDone file limit
  -- of a fair list nothing is refused, and only a file above the limit is too long
  pub never_refused : (file : List ℕ) (limit : ℕ) (e : Event) (past : List Event) (code : ℕ)
      → IsFair file limit (e ∷ past) → answer limit e past ≢ Refused code
  pub long_file : (file : List ℕ) (limit : ℕ) (e : Event) (past : List Event) (n : ℕ)
      → IsFair file limit (e ∷ past) → answer limit e past ≡ TooLong n → limit < length file
  -- of any list, before an end: the client gives up exactly at the eighth Late since the offset
  -- changed
  pub gave_up : (limit : ℕ) (e : Event) (past : List Event) (offset : ℕ)
      → end_after limit past ≡ None → answer limit e past ≡ GaveUp offset
      → (e ≡ late) × (lates_since limit (e ∷ past) ≡ 8) × (offset ≡ offset_after limit past)
  pub gives_up : (limit : ℕ) (past : List Event) → end_after limit past ≡ None
      → lates_since limit (late ∷ past) ≡ 8
      → answer limit late past ≡ GaveUp (offset_after limit past)
  -- and a file is too long exactly where the bytes of a reply pass the limit
  pub was_too_long : (limit : ℕ) (e : Event) (past : List Event) (n : ℕ)
      → end_after limit past ≡ None → answer limit e past ≡ TooLong n → PassesLimit limit past e n
  pub is_too_long : (limit : ℕ) (e : Event) (past : List Event) (n : ℕ)
      → end_after limit past ≡ None → PassesLimit limit past e n → answer limit e past ≡ TooLong n
  -- the end is read off each answer; after an end each event is answered by it, and nothing changes
  pub end_is : (limit : ℕ) (e : Event) (past : List Event)
      → end_after limit (e ∷ past) ≡ end_of (answer limit e past)
  pub stays : (limit : ℕ) (e : Event) (past : List Event) (out : FetchOut)
      → end_after limit past ≡ Some out
      → (answer limit e past ≡ out) × (fetched limit (e ∷ past) ≡ fetched limit past)
