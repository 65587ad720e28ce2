-- A transfer that comes whole on the bus in force, with a fresh transfer-ID, is delivered.
use Rattle.std.specs.Prelude.{◌≡◌, ℕ, true, ◌≤◌, ◌⊎◌, List, [], ◌∷◌, ◌++◌, length, Some}
use Rattle.tail_frame.specs.Chains.{KeyRecord}
use Rattle.transfer_crc.specs.Crc.{crc_of}
use Rattle.redundancy.specs.Force.{force, late}
use Rattle.rx_table.specs.Received.{Delivery, received, is_fresh}
use Rattle.frag.specs.Sent.{IsSentList, Explained}
use Rattle.frag.specs.declared.sent.Pair.{Pair}
use Rattle.frag.specs.Sent.{last_on_bus}
use Rattle.frag.specs.declared.sent.Sent.{Sent}

-- P of one of these deliveries
abbrev pub Any : (Delivery → Type 0) → List Delivery → Type 0
Any P [] = ⊥
Any P (d ∷ ds) = P d ⊎ Any P ds

-- P of each record from the newest one of seg down to p, and of what came before it
abbrev pub FromTo : (KeyRecord → List KeyRecord → Type 0) → List KeyRecord → KeyRecord
    → List KeyRecord → Type 0
FromTo P [] p older = P p older
FromTo P (r ∷ seg) p older = P r (seg ++ p ∷ older) × FromTo P seg p older

-- P of one of these
abbrev pub SomeFromTo : (KeyRecord → List KeyRecord → Type 0) → List KeyRecord → KeyRecord
    → List KeyRecord → Type 0
SomeFromTo P [] p older = P p older
SomeFromTo P (r ∷ seg) p older = P r (seg ++ p ∷ older) ⊎ SomeFromTo P seg p older

-- the record with these before it is on that bus, and is frame i of transfer j
abbrev pub Names : (ℕ → Pair) → ℕ → ℕ → ℕ → KeyRecord → List KeyRecord → Type 0
Names origin bus j i r before = (r.bus ≡ bus) × ((origin (length before)).j ≡ j) × ((origin (length before)).i ≡ i)

-- transfer j is due from p to q, where older came before p and past before q
pub record Due (timeout : ℕ) (sent : Sent) (origin : ℕ → Pair) (j : ℕ) (p : KeyRecord)
    (older : List KeyRecord) (q : KeyRecord) (past : List KeyRecord) : Type 0 where
  -- the records from p to q, without p
  pub seg : List KeyRecord
  pub between : q ∷ past ≡ seg ++ p ∷ older
  -- p is frame 0 of j, and q its first last frame on that bus from p on
  pub bus : q.bus ≡ p.bus
  pub begin_j : (origin (length older)).j ≡ j
  pub begin_i : (origin (length older)).i ≡ 0
  pub end_j : (origin (length past)).j ≡ j
  pub end_i : (origin (length past)).i ≡ last_on_bus sent j p.bus
  pub is_first : FromTo (λ r before. r.bus ≡ p.bus → (origin (length before)).j ≡ j → (origin (length before)).i ≡ last_on_bus sent j p.bus → length before ≡ length past) seg p older
  -- each frame of j stands on that bus from p to q
  pub stands : (i : ℕ) → i ≤ last_on_bus sent j p.bus
      → SomeFromTo (Names origin p.bus j i) seg p older
  -- the bus is in force from p to q
  pub in_force : FromTo (λ r before. force timeout (r ∷ before) ≡ Some p.bus) seg p older
  -- the last delivery before p, if there is one, has another transfer-ID, or p is late
  pub fresh : (is_fresh p.tid (received crc_of timeout older).delivered ≡ true) ⊎ (late timeout p older ≡ true)

-- a delivery ends at q
abbrev pub DueIsDelivered : Type 0
DueIsDelivered =
    (timeout : ℕ) (sent : Sent) (origin : ℕ → Pair) (records newer : List KeyRecord) (j : ℕ) (p : KeyRecord) (older : List KeyRecord) (q : KeyRecord) (past : List KeyRecord)
    → IsSentList sent → Explained timeout sent origin records → records ≡ newer ++ q ∷ past
    → Due timeout sent origin j p older q past
    → Any (λ d. (d.place ≡ length past) × (d.last ≡ q)) (received crc_of timeout records).delivered
