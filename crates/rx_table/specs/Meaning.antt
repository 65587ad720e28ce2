-- A delivery in words of places alone.
use Rattle.std.specs.Prelude.{◌≡◌, ◌≢◌, ℕ, true, false, ◌⊎◌, List, [], ◌∷◌, ◌++◌, length, ⊤}
use Rattle.tail_frame.specs.Chains.{KeyRecord, chain_bytes, closes_at, without_crc}
use Rattle.rx_table.specs.Received.{Delivery, begins, received}
use Rattle.rx_table.specs.Steps.{is_bad}

-- P of each record after p, and of what came before it
abbrev pub Since : (KeyRecord → List KeyRecord → Type 0) → List KeyRecord → KeyRecord
    → List KeyRecord → Type 0
Since P [] p older = ⊤
Since P (r ∷ since) p older = P r (since ++ p ∷ older) × Since P since p older

module _ (crc : List ℕ → ℕ) (timeout : ℕ) where
  -- r is begun, after what was delivered before it
  abbrev pub IsBegun : KeyRecord → List KeyRecord → Type 0
  IsBegun r past = begins timeout r past (received crc timeout past).delivered ≡ true

  abbrev pub IsNotBegun : KeyRecord → List KeyRecord → Type 0
  IsNotBegun r past = begins timeout r past (received crc timeout past).delivered ≡ false

  -- the chain of p closes at the newest of these records, with these bytes
  abbrev pub Closes : KeyRecord → List KeyRecord → List ℕ → Type 0
  Closes p [] content = (p.end ≡ true) × (content ≡ p.body)
  Closes p (q ∷ since) content = (closes_at p since q ≡ true) × (crc (chain_bytes p (q ∷ since)) ≡ 0) × (content ≡ without_crc (chain_bytes p (q ∷ since)))

  -- a begun start frame p whose chain closes at q, with no begun record after p and up to q
  pub record IsDelivery (d : Delivery) (q : KeyRecord) (past : List KeyRecord) : Type 0 where
    pub since : List KeyRecord
    pub older : List KeyRecord
    pub split : q ∷ past ≡ since ++ d.first ∷ older
    pub begun : IsBegun d.first older
    pub no_other : Since IsNotBegun since d.first older
    pub closes : Closes d.first since d.content
    pub last : d.last ≡ q
    pub place : d.place ≡ length past

  -- a begun start frame whose chain closes at q, with no begun record after it and up to q, and
  -- whose bytes have another CRC than 0
  pub record IsBadCrc (q : KeyRecord) (past : List KeyRecord) : Type 0 where
    pub first : KeyRecord
    pub since : List KeyRecord
    pub older : List KeyRecord
    pub split : past ≡ since ++ first ∷ older
    pub begun : IsBegun first older
    pub no_other : Since IsNotBegun (q ∷ since) first older
    pub closes : closes_at first since q ≡ true
    pub unfit : crc (chain_bytes first (q ∷ since)) ≢ 0

  -- these are all bad CRCs
  abbrev pub BadCrcsAre : Type 0
  BadCrcsAre = (q : KeyRecord) (past : List KeyRecord) → (is_bad crc timeout q past ≡ true → IsBadCrc q past) × (IsBadCrc q past → is_bad crc timeout q past ≡ true)

  -- at each record at most one delivery ends, and these are all
  abbrev pub DeliveriesAre : Type 0
  DeliveriesAre =
      (q : KeyRecord) (past : List KeyRecord)
      → ((d : Delivery) → IsDelivery d q past → (received crc timeout (q ∷ past)).delivered ≡ d ∷ (received crc timeout past).delivered)
      × (((received crc timeout (q ∷ past)).delivered ≡ (received crc timeout past).delivered) ⊎ ((d : Delivery) × IsDelivery d q past × ((received crc timeout (q ∷ past)).delivered ≡ d ∷ (received crc timeout past).delivered)))
