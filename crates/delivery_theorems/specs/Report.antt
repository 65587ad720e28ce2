-- The same in the words of a report: its lines on a key in order, and lines of the log in place of
-- places.
use Rattle.std.specs.Prelude.{◌≡◌, ℕ, ◌==◌, ◌<◌, ◌⊎◌, if◌then◌else◌, List, [], ◌∷◌, ◌++◌, length}
use Rattle.std.specs.Prelude.{take, map, reverse, Some, ⊤}
use Rattle.tail_frame.specs.Chains.{KeyRecord}
use Rattle.transfer_crc.specs.Crc.{crc_of}
use Rattle.rx_table.specs.Received.{Delivery, received}
use Rattle.rx_table.specs.Keys.{SessionKey, KeyedFrame, history, IsLog}
use Rattle.frag.specs.Sent.{transfer_at, data_on, IsSentList, Explained, NoChance}
use Rattle.frag.specs.declared.sent.Pair.{Pair}
use Rattle.frag.specs.Sent.{pair_at}
use Rattle.frag.specs.declared.sent.Sent.{Sent}
use Rattle.delivery_theorems.specs.Due.{Due}

-- what a line reports of a delivery
pub record Rx : Type 0 where
  pub moment : ℕ
  pub bus : ℕ
  pub priority : ℕ
  pub tid : ℕ
  pub first : ℕ
  pub last : ℕ
  pub payload : List ℕ

-- the moment is that of the first record, the priority that of the last; the payload is cut to the
-- extent
abbrev pub rx_of : ℕ → Delivery → Rx
rx_of extent d = record {
  moment = d.first.moment;
  bus = d.first.bus;
  priority = d.last.priority;
  tid = d.first.tid;
  first = d.first.line;
  last = d.last.line;
  payload = take extent d.content;
}

-- what is reported of a key, in order; the records have the newest first
abbrev pub reported : ℕ → ℕ → List KeyRecord → List Rx
reported timeout extent records = map (rx_of extent) (reverse (received crc_of timeout records).delivered)

-- the pair of the record on a line
abbrev pub pair_on : List Pair → List KeyRecord → ℕ → Pair
pair_on origin [] line = record { j = 0; i = 0 }
pair_on origin (r ∷ past) line = if r.line == line then pair_at origin (length past) else pair_on origin past line

-- P of each number
abbrev pub EachNumber : (ℕ → Type 0) → List ℕ → Type 0
EachNumber P [] = ⊤
EachNumber P (n ∷ ns) = P n × EachNumber P ns

-- numbers that rise strictly
abbrev pub Rise : List ℕ → Type 0
Rise [] = ⊤
Rise (n ∷ ns) = EachNumber (λ k. n < k) ns × Rise ns

-- P of each line
abbrev pub EachRx : (Rx → Type 0) → List Rx → Type 0
EachRx P [] = ⊤
EachRx P (rx ∷ rxs) = P rx × EachRx P rxs

-- P of one line
abbrev pub AnyRx : (Rx → Type 0) → List Rx → Type 0
AnyRx P [] = ⊥
AnyRx P (rx ∷ rxs) = P rx ⊎ AnyRx P rxs

-- a line reports the transfer whose frame stands on its last line, which is one of the sent list:
-- priority, transfer-ID, and the first bytes of its data, as many as the extent
pub record IsSentRx (extent : ℕ) (sent : Sent) (origin : List Pair) (records : List KeyRecord)
    (rx : Rx) : Type 0 where
  pub known : (pair_on origin records rx.last).j < length sent.transfers
  pub priority : rx.priority ≡ (transfer_at sent (pair_on origin records rx.last).j).priority
  pub tid : rx.tid ≡ (transfer_at sent (pair_on origin records rx.last).j).tid
  pub payload : rx.payload ≡ take extent (data_on sent (pair_on origin records rx.last).j rx.bus)

-- each line reports a sent transfer, and the positions of these in the sent list rise strictly
pub record SelectedRx (extent : ℕ) (sent : Sent) (origin : List Pair) (records : List KeyRecord)
    (rxs : List Rx) : Type 0 where
  pub sent_ones : EachRx (IsSentRx extent sent origin records) rxs
  pub in_order : Rise (map (λ rx. (pair_on origin records rx.last).j) rxs)

-- a sent list of a key with a pair for each of the key's records explains these, and there is no
-- chance match
pub record Explains (timeout : ℕ) (sent : Sent) (key : SessionKey) (origin : List Pair)
    (records : List KeyRecord) : Type 0 where
  pub sent_list : IsSentList sent
  pub of_key : sent.key ≡ record { kind = key.kind; port = key.port; source = Some key.source }
  pub one_each : length origin ≡ length records
  pub explained : Explained timeout sent (pair_at origin) records
  pub no_chance : NoChance sent (pair_at origin) records

-- a transfer is due that ends at q
pub record IsDue (timeout : ℕ) (sent : Sent) (origin : List Pair) (records : List KeyRecord)
    (q : KeyRecord) : Type 0 where
  pub j : ℕ
  pub p : KeyRecord
  pub older : List KeyRecord
  pub past : List KeyRecord
  pub newer : List KeyRecord
  pub split : records ≡ newer ++ q ∷ past
  pub due : Due timeout sent (pair_at origin) j p older q past

-- once: what is reported of a key is selected
abbrev pub OnceInReport : Type 0
OnceInReport =
    (timeout extent : ℕ) (sent : Sent) (key : SessionKey) (origin : List Pair) (log : List KeyedFrame) → IsLog log
    → Explains timeout sent key origin (history key log)
    → SelectedRx extent sent origin (history key log) (reported timeout extent (history key log))

-- and so is the beginning of it
abbrev pub OnceInPart : Type 0
OnceInPart =
    (timeout extent : ℕ) (sent : Sent) (key : SessionKey) (origin : List Pair) (log : List KeyedFrame) (front rest : List Rx) → IsLog log
    → Explains timeout sent key origin (history key log) → reported timeout extent (history key log) ≡ front ++ rest
    → SelectedRx extent sent origin (history key log) front

-- due: each due transfer is reported, on its last record's line
abbrev pub DueInReport : Type 0
DueInReport =
    (timeout extent : ℕ) (sent : Sent) (key : SessionKey) (origin : List Pair) (records : List KeyRecord) (q : KeyRecord)
    → Explains timeout sent key origin records → IsDue timeout sent origin records q
    → AnyRx (λ rx. rx.last ≡ q.line) (reported timeout extent records)

-- a log and a sent list that meet all of these premises
pub record Example : Type 0 where
  pub timeout : ℕ
  pub sent : Sent
  pub key : SessionKey
  pub origin : List Pair
  pub log : List KeyedFrame
  pub q : KeyRecord
  pub is_log : IsLog log
  pub explains : Explains timeout sent key origin (history key log)
  pub is_due : IsDue timeout sent origin (history key log) q
