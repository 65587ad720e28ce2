-- The deliveries of a key are transfers of its sent list, in order, each at most once. Lists have
-- the newest first.
use Rattle.std.specs.Prelude.{◌≡◌, ℕ, ◌<◌, List, [], ◌∷◌, ⊤}
use Rattle.tail_frame.specs.Chains.{KeyRecord}
use Rattle.transfer_crc.specs.Crc.{crc_of}
use Rattle.rx_table.specs.Received.{Delivery, received}
use Rattle.frag.specs.Sent.{transfer_at, data_on, IsSentList, InTime, Explained, NoChance}
use Rattle.frag.specs.declared.sent.Pair.{Pair}
use Rattle.frag.specs.declared.sent.Sent.{Sent}

-- P of each delivery
abbrev pub Each : (Delivery → Type 0) → List Delivery → Type 0
Each P [] = ⊤
Each P (d ∷ ds) = P d × Each P ds

-- a delivery has priority, transfer-ID and data of the transfer that origin names for its last
-- record
pub record IsOfSent (sent : Sent) (origin : ℕ → Pair) (d : Delivery) : Type 0 where
  pub priority : d.last.priority ≡ (transfer_at sent (origin d.place).j).priority
  pub tid : d.first.tid ≡ (transfer_at sent (origin d.place).j).tid
  pub content : d.content ≡ data_on sent (origin d.place).j d.first.bus

-- each is a sent transfer, and the positions of these in the sent list rise strictly
abbrev pub Selected : Sent → (ℕ → Pair) → List Delivery → Type 0
Selected sent origin [] = ⊤
Selected sent origin (d ∷ ds) = IsOfSent sent origin d × Each (λ e. (origin e.place).j < (origin d.place).j) ds × Selected sent origin ds

-- where a sent list explains the records and there is no chance match, the deliveries are selected
abbrev pub Once : Type 0
Once =
    (timeout : ℕ) (sent : Sent) (origin : ℕ → Pair) (records : List KeyRecord) → IsSentList sent → InTime records
    → Explained timeout sent origin records → NoChance sent origin records
    → Selected sent origin (received crc_of timeout records).delivered
