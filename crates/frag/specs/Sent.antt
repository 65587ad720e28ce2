-- Sent lists, and logs that they explain. The records of a key are a list with the newest first.
use Rattle.std.specs.Prelude.{◌≡◌, ℕ, true, ◌==◌, ◌+◌, ◌<◌, ◌≤◌, ◌⊎◌, List, [], ◌∷◌, ◌++◌, length}
use Rattle.std.specs.Prelude.{get_or, None}
use Rattle.can_id.specs.Identifiers.{IsIdent, bits, key_of, priority_of, destination_of}
use Rattle.can_id.specs.declared.ident.Ident.{Ident}
use Rattle.can_id.specs.declared.key.Key.{Key}
use Rattle.tail_frame.specs.Chains.{KeyRecord, AtEach, chain_bytes, closes_at, without_crc}
use Rattle.tail_frame.specs.declared.logged.Record.{Record}
use Rattle.transfer_crc.specs.Crc.{crc_of}
use Rattle.frag.specs.Wire.{IsFrameSize, padded, last_frame, is_even, body_at, frame_at}
use Rattle.frag.specs.declared.sent.Pair.{Pair}
use Rattle.frag.specs.declared.sent.Sent.{Sent}
use Rattle.frag.specs.declared.sent.Transfer.{Transfer}

-- a pair isn't after another
abbrev pub IsUpTo : Pair → Pair → Type 0
IsUpTo a b = (a.j < b.j) ⊎ ((a.j ≡ b.j) × (a.i ≤ b.i))

abbrev pub nothing : Transfer
nothing = record { priority = 0; tid = 0; moment = 0; destination = None; payload = [] }

-- the transfer at a place of the list
abbrev pub transfer_at : Sent → ℕ → Transfer
transfer_at sent j = get_or sent.transfers j nothing

-- the frame size on a bus
abbrev pub size_on : Sent → ℕ → ℕ
size_on sent bus = get_or sent.sizes bus 8

-- the number of the last frame of a transfer on a bus
abbrev pub last_on_bus : Sent → ℕ → ℕ → ℕ
last_on_bus sent j bus = last_frame (size_on sent bus) (transfer_at sent j).payload

-- the pair of the record at a place
abbrev pub pair_at : List Pair → ℕ → Pair
pair_at origin n = get_or origin n (record { j = 0; i = 0 })

-- a transfer's payload with the padding that it has on a bus
abbrev pub data_on : Sent → ℕ → ℕ → List ℕ
data_on sent j bus = padded (size_on sent bus) (transfer_at sent j).payload

-- frame sizes are 8 or 64, priorities 0 to 7, transfer-IDs 0 to 31, and moments never fall
pub record IsSentList (sent : Sent) : Type 0 where
  pub sizes : (bus : ℕ) → IsFrameSize (size_on sent bus)
  pub ranges : (j : ℕ) → j < length sent.transfers
      → ((transfer_at sent j).priority < 8) × ((transfer_at sent j).tid < 32)
  pub moments : (a b : ℕ) → a ≤ b → b < length sent.transfers
      → (transfer_at sent a).moment ≤ (transfer_at sent b).moment

-- the identifier has the key, the priority and the destination of a transfer of a key
pub record IsIdentOf (key : Key) (x : Transfer) (ident : Ident) : Type 0 where
  pub ranges : IsIdent ident
  pub has_key : key_of ident ≡ key
  pub has_priority : priority_of ident ≡ x.priority
  pub has_destination : destination_of ident ≡ x.destination

-- identifier and data of a record are those of frame i of a transfer of a key, in frames of size m
pub record IsWireFrame (key : Key) (x : Transfer) (m i : ℕ) (rec : Record) : Type 0 where
  pub within : i ≤ last_frame m x.payload
  pub ident : Ident
  pub ident_of : IsIdentOf key x ident
  pub identifier : rec.ident ≡ bits ident
  pub bytes : rec.bytes ≡ frame_at m x.payload x.tid i

-- the same of a record of the key, by its fields
pub record IsFrame (x : Transfer) (m i : ℕ) (r : KeyRecord) : Type 0 where
  pub within : i ≤ last_frame m x.payload
  pub priority : r.priority ≡ x.priority
  pub tid : r.tid ≡ x.tid
  pub start : r.start ≡ (i == 0)
  pub end : r.end ≡ (i == last_frame m x.payload)
  pub toggle : r.toggle ≡ is_even i
  pub body : r.body ≡ body_at m x.payload i

-- r is the frame that the pair names, sent before it and less than the timeout ago
pub record IsSent (timeout : ℕ) (sent : Sent) (o : Pair) (r : KeyRecord) : Type 0 where
  pub known : o.j < length sent.transfers
  pub frame : IsFrame (transfer_at sent o.j) (size_on sent r.bus) o.i r
  pub since : (transfer_at sent o.j).moment ≤ r.moment
  pub until : r.moment < (transfer_at sent o.j).moment + timeout

-- origin names the pair of the record at each place; among the records of one bus the pairs never
-- fall
pub record IsExplainedAt (timeout : ℕ) (sent : Sent) (origin : ℕ → Pair) (r : KeyRecord)
    (past : List KeyRecord) : Type 0 where
  pub is_sent : IsSent timeout sent (origin (length past)) r
  pub in_order : AtEach (λ e older. e.bus ≡ r.bus → IsUpTo (origin (length older)) (origin (length past))) past

-- each record is a frame of the sent list
abbrev pub Explained : ℕ → Sent → (ℕ → Pair) → List KeyRecord → Type 0
Explained timeout sent origin records = AtEach (IsExplainedAt timeout sent origin) records

-- the moments of a log never fall
abbrev pub InTime : List KeyRecord → Type 0
InTime records = AtEach (λ r past. AtEach (λ e _. e.moment ≤ r.moment) past) records

-- the start frames on a's bus among these have one transfer-ID
abbrev pub IsClear : KeyRecord → List KeyRecord → Type 0
IsClear a between = (tid : ℕ) × AtEach (λ e _. e.start ≡ true → e.bus ≡ a.bus → e.tid ≡ tid) between

-- no chance match: a clear chain that closes at q, and whose bytes have the CRC 0, has the data of
-- the transfer of its last record
abbrev pub NoChanceAt : Sent → (ℕ → Pair) → KeyRecord → List KeyRecord → Type 0
NoChanceAt sent origin q past =
    (a : KeyRecord) (between older : List KeyRecord) → past ≡ between ++ a ∷ older → a.start ≡ true → closes_at a between q ≡ true → IsClear a between
    → crc_of (chain_bytes a (q ∷ between)) ≡ 0
    → without_crc (chain_bytes a (q ∷ between)) ≡ data_on sent (origin (length past)).j q.bus

abbrev pub NoChance : Sent → (ℕ → Pair) → List KeyRecord → Type 0
NoChance sent origin records = AtEach (NoChanceAt sent origin) records
