-- The deliveries of one key, from its records alone: a list with the newest first. `past` is what
-- came before a record, and the record's place is the length of that list.
use Rattle.std.specs.Prelude.{ℕ, Bool, true, not, ◌&&◌, ◌||◌, ◌==◌, if◌then◌else◌, List, [], ◌∷◌}
use Rattle.std.specs.Prelude.{length, Option, Some, None}
use Rattle.tail_frame.specs.Chains.{KeyRecord, chain_bytes, closes_at, without_crc}
use Rattle.redundancy.specs.Force.{heard, late}

-- a delivery: the records that it begins and ends with, the place of the last one, and the payload
-- before any cut
pub record Delivery : Type 0 where
  pub first : KeyRecord
  pub last : KeyRecord
  pub place : ℕ
  pub content : List ℕ

-- a begun start frame, and the records since, the newest first
pub record Run : Type 0 where
  pub first : KeyRecord
  pub since : List KeyRecord

-- the last begun start frame, and the deliveries so far, the newest first
pub record Got : Type 0 where
  pub begun : Option Run
  pub delivered : List Delivery

-- whether the transfer-ID is not that of the last delivery
abbrev pub is_fresh : ℕ → List Delivery → Bool
is_fresh tid [] = true
is_fresh tid (d ∷ ds) = not (d.first.tid == tid)

-- whether r is begun, after these deliveries: a start frame that is heard, and is late or has a
-- fresh transfer-ID
abbrev pub begins : ℕ → KeyRecord → List KeyRecord → List Delivery → Bool
begins timeout r past ds = r.start && (heard timeout r past && (late timeout r past || is_fresh r.tid ds))

module _ (crc : List ℕ → ℕ) (timeout : ℕ) where
  -- what is delivered where r is begun: r alone, if it is also an end
  abbrev pub alone : KeyRecord → List KeyRecord → List Delivery → List Delivery
  alone r past ds = if r.end then record { first = r; last = r; place = length past; content = r.body } ∷ ds else ds

  -- what is delivered at r since a run began: the run's chain, if it closes at r and its bytes have
  -- the CRC 0
  abbrev pub completed : KeyRecord → List KeyRecord → Run → List Delivery → List Delivery
  completed r past run ds =
      if closes_at run.first run.since r && (crc (chain_bytes run.first (r ∷ run.since)) == 0)
      then record { first = run.first; last = r; place = length past; content = without_crc (chain_bytes run.first (r ∷ run.since)) } ∷ ds
      else ds

  -- after a record that isn't begun
  abbrev pub not_begun : KeyRecord → List KeyRecord → Option Run → List Delivery → Got
  not_begun r past None ds = record { begun = None; delivered = ds }
  not_begun r past (Some run) ds = record { begun = Some (record { first = run.first; since = r ∷ run.since }); delivered = completed r past run ds }

  -- after r, from what was got before it
  abbrev pub after : KeyRecord → List KeyRecord → Got → Got
  after r past got =
      if begins timeout r past got.delivered
      then record { begun = Some (record { first = r; since = [] }); delivered = alone r past got.delivered }
      else not_begun r past got.begun got.delivered

  -- what these records give
  abbrev pub received : List KeyRecord → Got
  received [] = record { begun = None; delivered = [] }
  received (r ∷ past) = after r past (received past)
