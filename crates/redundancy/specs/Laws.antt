-- The laws of the bus in force, and of heard and late records.
use Rattle.std.specs.Prelude.{◌≡◌, ℕ, true, false, ◌&&◌, ◌+◌, ◌<◌, unwrap_or, List, ◌∷◌, Option}
use Rattle.std.specs.Prelude.{Some, None}
use Rattle.tail_frame.specs.Chains.{KeyRecord}
use Rattle.redundancy.specs.Force.{last_on, hands_over, force, heard, last_heard, late}
use Rattle.redundancy.specs.Hear.{hear, answer_at}

-- something was heard exactly where a bus is in force
abbrev pub HeardIs : Option ℕ → Option ℕ → Type 0
HeardIs None o = o ≡ None
HeardIs (Some c) o = (t : ℕ) × (o ≡ Some t)

-- r is any record of a key, and past the records before it
pub record ForceLaws : Type 0 where
  -- a record that is heard is on the bus in force, and the other way round
  pub heard_force : (timeout : ℕ) (r : KeyRecord) (past : List KeyRecord)
      → heard timeout r past ≡ true → force timeout (r ∷ past) ≡ Some r.bus
  pub force_heard : (timeout : ℕ) (r : KeyRecord) (past : List KeyRecord)
      → force timeout (r ∷ past) ≡ Some r.bus → heard timeout r past ≡ true
  -- the last record on the bus in force is the last one heard
  pub last_on_heard : (timeout : ℕ) (past : List KeyRecord) (c : ℕ) → force timeout past ≡ Some c
      → last_on c past ≡ last_heard timeout past
  pub heard_is : (timeout : ℕ) (past : List KeyRecord)
      → HeardIs (force timeout past) (last_heard timeout past)
  -- a handover is a late start frame
  pub handover_late : (timeout : ℕ) (r : KeyRecord) (past : List KeyRecord) (c : ℕ)
      → force timeout past ≡ Some c → hands_over timeout c r past ≡ true
      → (r.start && late timeout r past) ≡ true
  -- the bus in force stays at a record that isn't a late start frame
  pub force_kept : (timeout : ℕ) (r : KeyRecord) (past : List KeyRecord) (c : ℕ)
      → force timeout past ≡ Some c → (r.start && late timeout r past) ≡ false
      → force timeout (r ∷ past) ≡ Some c
  -- and at a record that isn't heard
  pub unheard_force : (timeout : ℕ) (r : KeyRecord) (past : List KeyRecord)
      → heard timeout r past ≡ false → force timeout (r ∷ past) ≡ force timeout past
  -- a late record is heard, and more than the timeout after the last one heard
  pub late_heard : (timeout : ℕ) (r : KeyRecord) (past : List KeyRecord)
      → late timeout r past ≡ true → heard timeout r past ≡ true
  pub late_far : (timeout : ℕ) (r : KeyRecord) (past : List KeyRecord) → late timeout r past ≡ true
      → (t : ℕ) × (last_heard timeout past ≡ Some t) × (t + timeout < r.moment)

-- one frame is answered as the records say, from the bus in force and the moment last heard
abbrev pub HearingIs : Type 0
HearingIs = (timeout : ℕ) (r : KeyRecord) (past : List KeyRecord) → hear timeout (force timeout past) (unwrap_or (last_heard timeout past) 0) r.bus r.moment r.start ≡ answer_at timeout r past
