-- Sent lists and the records of a log as they were received: by identifier and data. The records
-- have the newest first.
use Rattle.std.specs.Prelude.{◌≡◌, ℕ, ◌+◌, ◌<◌, ◌≤◌, List, [], ◌∷◌, length, Some, ⊤}
use Rattle.can_id.specs.Identifiers.{key_of, destination_of}
use Rattle.can_id.specs.declared.key.Key.{Key}
use Rattle.tail_frame.specs.Chains.{KeyRecord}
use Rattle.tail_frame.specs.Frames.{FrameOf, frame_of, key_record}
use Rattle.tail_frame.specs.declared.logged.Record.{Record}
use Rattle.frag.specs.Wire.{IsFrameSize}
use Rattle.frag.specs.Sent.{IsUpTo, transfer_at, size_on, pair_at, IsSentList, IsWireFrame, IsFrame}
use Rattle.frag.specs.Sent.{Explained, NoChance}
use Rattle.frag.specs.declared.sent.Pair.{Pair}
use Rattle.frag.specs.declared.sent.Sent.{Sent}
use Rattle.frag.specs.declared.sent.Transfer.{Transfer}

-- P of each record and what came before it
abbrev pub EachRecord : (Record → List Record → Type 0) → List Record → Type 0
EachRecord P [] = ⊤
EachRecord P (rec ∷ past) = P rec past × EachRecord P past

-- identifier and data are those of the frame that the pair names, received after it was sent and
-- less than the timeout later
pub record IsWireSent (timeout : ℕ) (sent : Sent) (o : Pair) (rec : Record) : Type 0 where
  pub known : o.j < length sent.transfers
  pub frame : IsWireFrame sent.key (transfer_at sent o.j) (size_on sent rec.bus) o.i rec
  pub since : (transfer_at sent o.j).moment ≤ rec.moment
  pub until : rec.moment < (transfer_at sent o.j).moment + timeout

-- origin names the pair of the record at each place; among the records of one bus the pairs never
-- fall
pub record IsWireExplainedAt (timeout : ℕ) (sent : Sent) (origin : ℕ → Pair) (rec : Record)
    (past : List Record) : Type 0 where
  pub is_sent : IsWireSent timeout sent (origin (length past)) rec
  pub in_order : EachRecord (λ e older. e.bus ≡ rec.bus → IsUpTo (origin (length older)) (origin (length past))) past

abbrev pub WireExplained : ℕ → Sent → (ℕ → Pair) → List Record → Type 0
WireExplained timeout sent origin recs = EachRecord (IsWireExplainedAt timeout sent origin) recs

-- a sent list of a key with a pair for each of these records explains them, by identifier and data,
-- and the same records of the key have no chance match
pub record WireExplainsOf (timeout : ℕ) (sent : Sent) (key : Key) (origin : List Pair)
    (recs : List Record) (records : List KeyRecord) : Type 0 where
  pub sent_list : IsSentList sent
  pub of_key : sent.key ≡ key
  pub one_each : length origin ≡ length recs
  pub explained : WireExplained timeout sent (pair_at origin) recs
  pub no_chance : NoChance sent (pair_at origin) records

-- a record of a log is a record of a key
pub record IsRecordOf (rec : Record) (r : KeyRecord) : Type 0 where
  pub frame : FrameOf
  pub is_frame : frame_of rec ≡ Some frame
  pub taken_apart : r ≡ key_record frame

-- and each of these is one of those
abbrev pub AreRecordsOf : List Record → List KeyRecord → Type 0
AreRecordsOf [] [] = ⊤
AreRecordsOf (rec ∷ recs) (r ∷ records) = IsRecordOf rec r × AreRecordsOf recs records
AreRecordsOf _ _ = ⊥

-- a frame of a transfer is seen: it isn't discarded, has the key and the destination, and is that
-- frame by its fields
pub record IsSeen (key : Key) (x : Transfer) (m i : ℕ) (rec : Record) (f : FrameOf) : Type 0 where
  pub is_frame : frame_of rec ≡ Some f
  pub has_key : key_of f.ident ≡ key
  pub has_destination : destination_of f.ident ≡ x.destination
  pub part : IsFrame x m i (key_record f)

-- each frame of a transfer of a key with a source is seen
abbrev pub FramesAreSeen : Type 0
FramesAreSeen =
    (key : Key) (source : ℕ) (x : Transfer) (m i : ℕ) (rec : Record) → key.source ≡ Some source → IsFrameSize m → x.tid < 32
    → IsWireFrame key x m i rec → (f : FrameOf) × IsSeen key x m i rec f

-- a sent list that explains records by identifier and data explains them by their fields
abbrev pub ExplainedByFields : Type 0
ExplainedByFields =
    (timeout : ℕ) (sent : Sent) (source : ℕ) (origin : ℕ → Pair) (recs : List Record) (records : List KeyRecord) → sent.key.source ≡ Some source
    → IsSentList sent → AreRecordsOf recs records → WireExplained timeout sent origin recs → Explained timeout sent origin records
