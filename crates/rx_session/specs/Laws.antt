-- The two forms of a session's step, `accept` and `advance`, say the same for all time.
use Rattle.std.specs.Prelude.{◌≡◌, ℕ, List, length, take, Option, Some, None, ⊤}
use Rattle.tail_frame.specs.Chains.{KeyRecord}
use Rattle.rx_session.specs.Session.{Part, Session, accept, advance}

-- two buffers begin with the same bytes, as many as a running reassembly has taken
abbrev pub FrontsAgree : Option Part → List ℕ → List ℕ → Type 0
FrontsAgree None a b = ⊤
FrontsAgree (Some p) a b = take p.taken a ≡ take p.taken b

-- two sessions differ at most in bytes of their buffers that no running reassembly has taken
pub record Agree (s t : Session) : Type 0 where
  pub bus : s.bus ≡ t.bus
  pub heard : s.heard ≡ t.heard
  pub last : s.last ≡ t.last
  pub part : s.part ≡ t.part
  pub size : length s.buffer ≡ length t.buffer
  pub front : FrontsAgree s.part s.buffer t.buffer

-- where one of two such sessions accepts a record, and the other advances by it, they are such
-- again and answer the same
abbrev pub StepsAgree : Type 0
StepsAgree =
    (crc_more : ℕ → List ℕ → ℕ) (crc_start timeout : ℕ) (s t : Session) (r : KeyRecord) → Agree s t
    → Agree (accept crc_more crc_start timeout s r).0 (advance crc_more crc_start timeout t r).0
    × ((accept crc_more crc_start timeout s r).1 ≡ (advance crc_more crc_start timeout t r).1)
