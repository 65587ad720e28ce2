-- Logs in which each transfer that begins on a bus ends there before another begins.
use Rattle.std.specs.Prelude.{◌≡◌, ℕ, ◌==◌, ◌+◌, ◌<◌, ◌⊎◌, if◌then◌else◌, List, [], ◌∷◌, length}
use Rattle.std.specs.Prelude.{Option, Some, None, ⊤}
use Rattle.tail_frame.specs.Chains.{KeyRecord}
use Rattle.tail_frame.specs.declared.logged.Record.{Record}
use Rattle.frag.specs.Raw.{EachRecord, IsWireSent, WireExplained, AreRecordsOf}
use Rattle.frag.specs.Sent.{last_on_bus, IsSentList, NoChance}
use Rattle.frag.specs.declared.sent.Pair.{Pair}
use Rattle.frag.specs.declared.sent.Sent.{Sent}

-- the pair of the newest record on a bus
abbrev pub newest_on : (ℕ → Pair) → ℕ → List Record → Option Pair
newest_on origin bus [] = None
newest_on origin bus (rec ∷ past) = if rec.bus == bus then Some (origin (length past)) else newest_on origin bus past

-- On a bus whose newest pair this is, a pair may come next: any where there is none; else the same
-- again, the next frame of the transfer, or behind its last frame any frame of a later transfer.
abbrev pub MayFollow : Sent → ℕ → Option Pair → Pair → Type 0
MayFollow sent bus None p = ⊤
MayFollow sent bus (Some o) p =
    (p ≡ o)
    ⊎ (((p ≡ record { j = o.j; i = o.i + 1 }) × (o.i < last_on_bus sent o.j bus))
    ⊎ ((o.i ≡ last_on_bus sent o.j bus) × (o.j < p.j)))

-- a record is the frame that its pair names, and that may come next on its bus
pub record IsNextSent (timeout : ℕ) (sent : Sent) (origin : ℕ → Pair) (rec : Record)
    (past : List Record) : Type 0 where
  pub is_sent : IsWireSent timeout sent (origin (length past)) rec
  pub may_follow : MayFollow sent rec.bus (newest_on origin rec.bus past) (origin (length past))

-- each is
abbrev pub Unbroken : ℕ → Sent → (ℕ → Pair) → List Record → Type 0
Unbroken timeout sent origin recs = EachRecord (IsNextSent timeout sent origin) recs

-- such a log is explained, and has no chance match
abbrev pub UnbrokenIsExplained : Type 0
UnbrokenIsExplained =
    (timeout : ℕ) (sent : Sent) (source : ℕ) (origin : ℕ → Pair) (recs : List Record) (records : List KeyRecord) → sent.key.source ≡ Some source
    → IsSentList sent → AreRecordsOf recs records → Unbroken timeout sent origin recs
    → WireExplained timeout sent origin recs × NoChance sent origin records
