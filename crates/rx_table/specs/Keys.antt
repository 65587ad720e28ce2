-- A log as a table of sessions sees it, and the records of one key in it.
use Rattle.std.specs.Prelude.{ℕ, Bool, true, false, ◌&&◌, ◌==◌, ◌<◌, ◌≤◌, if◌then◌else◌, List, []}
use Rattle.std.specs.Prelude.{◌∷◌, ⊤}
use Rattle.can_id.specs.declared.key.Kind.{Kind}
use Rattle.can_id.specs.declared.key.Kind.TheVariants.{Message, Request, Response}
use Rattle.tail_frame.specs.Chains.{KeyRecord}

-- what a session belongs to: a kind, the number of a subject or a service, and a source's node-ID
pub record SessionKey : Type 0 where
  pub kind : Kind
  pub port : ℕ
  pub source : ℕ

-- a frame that isn't discarded, has a source, and is for this node
pub record KeyedFrame : Type 0 where
  pub key : SessionKey
  pub rec : KeyRecord

abbrev pub same_kind : Kind → Kind → Bool
same_kind Message Message = true
same_kind Request Request = true
same_kind Response Response = true
same_kind _ _ = false

-- whether a frame is of this key
abbrev pub bears_on : SessionKey → KeyedFrame → Bool
bears_on key f = same_kind f.key.kind key.kind && ((f.key.port == key.port) && (f.key.source == key.source))

-- the records of a key, of a log with the newest frame first
abbrev pub history : SessionKey → List KeyedFrame → List KeyRecord
history key [] = []
history key (f ∷ log) = if bears_on key f then f.rec ∷ history key log else history key log

-- P of each frame
abbrev pub EachFrame : (KeyedFrame → Type 0) → List KeyedFrame → Type 0
EachFrame P [] = ⊤
EachFrame P (f ∷ log) = P f × EachFrame P log

-- the moments never fall, and the lines rise
abbrev pub IsLog : List KeyedFrame → Type 0
IsLog [] = ⊤
IsLog (f ∷ log) = EachFrame (λ e. (e.rec.moment ≤ f.rec.moment) × (e.rec.line < f.rec.line)) log × IsLog log
