-- Which lines have a text of their own.
use Rattle.std.specs.Prelude.{◌≡◌, ◌≢◌, ◌<◌, ◌^◌, ◌∷◌, [], ⊤, List, length, All, AllPairs, IsTrue}
use Rattle.std.specs.Option.{ForSome}
use Rattle.hex.specs.Hex.{IsBytes}
use Rattle.can_id.specs.declared.key.Key.{Key}
use Rattle.node_plan.specs.declared.plan.BusPlan.{BusPlan}
use Rattle.node_plan.specs.declared.plan.Plan.{Plan}
use Rattle.node_plan.specs.Names.{is_bus_name}
use Rattle.report_lines.specs.declared.line.Line.{Line}
use Rattle.report_lines.specs.declared.line.Line.TheVariants.{Rx, NoSession, Tx, Full}
use Rattle.report_lines.specs.declared.line.Rx.{Rx as Received}
use Rattle.report_lines.specs.declared.line.Refused.{Refused}
use Rattle.report_lines.specs.declared.line.Tx.{Tx as SentFrame}
use Rattle.report_lines.specs.declared.line.FullLine.{FullLine}
use Rattle.text_lines.specs.Text.{text}
use Rattle.session_lines.specs.Readings.{HasReading}

-- buses with names of letters, digits and `_`, of which no two are the same
pub record AreNamed (buses : List BusPlan) : Type 0 where
  pub names : All (λ bus. IsTrue (is_bus_name bus.name)) buses
  pub differ : AllPairs (λ a b. a.name ≢ b.name) buses

-- a key of a port of 16 bits
pub record IsKey (key : Key) : Type 0 where
  pub port : key.port < 2 ^ 16
  pub source : ForSome key.source (λ s. s < 256)

-- a transfer on a bus of the plan, with numbers of the widths that its fields have; what it says is
-- the reading of its payload by the type of its port
pub record IsReceived (plan : Plan) (rx : Received) : Type 0 where
  pub moment : rx.moment < 2 ^ 64
  pub bus : rx.bus < length plan.buses
  pub key : IsKey rx.key
  pub priority : rx.priority < 256
  pub tid : rx.tid < 256
  pub first : rx.first < 2 ^ 64
  pub last : rx.last < 2 ^ 64
  pub payload : IsBytes rx.payload
  pub reading : HasReading plan (Rx rx)

-- the same of a start frame that has no session
pub record IsRefused (plan : Plan) (refused : Refused) : Type 0 where
  pub moment : refused.moment < 2 ^ 64
  pub bus : refused.bus < length plan.buses
  pub key : IsKey refused.key
  pub line : refused.line < 2 ^ 64

-- a frame that left on a bus of the plan, with numbers of the widths that its fields have
pub record IsSentFrame (plan : Plan) (tx : SentFrame) : Type 0 where
  pub moment : tx.moment < 2 ^ 64
  pub bus : tx.bus < length plan.buses
  pub ident : tx.ident < 2 ^ 32
  pub bytes : IsBytes tx.bytes

-- the same of a bus of the plan that had no room
pub record IsFullBus (plan : Plan) (full : FullLine) : Type 0 where
  pub moment : full.moment < 2 ^ 64
  pub bus : full.bus < length plan.buses
  pub port : full.port < 2 ^ 16
  pub needed : full.needed < 2 ^ 64
  pub free : full.free < 2 ^ 64

abbrev pub IsLineOn : Plan → Line → Type 0
IsLineOn plan (Rx rx) = IsReceived plan rx
IsLineOn plan (NoSession refused) = IsRefused plan refused
IsLineOn plan (Tx tx) = IsSentFrame plan tx
IsLineOn plan (Full full) = IsFullBus plan full

abbrev pub AreLinesOn : Plan → List Line → Type 0
AreLinesOn plan [] = ⊤
AreLinesOn plan (line ∷ lines) = IsLineOn plan line × AreLinesOn plan lines

-- no two lists of lines have one text
abbrev pub TextTellsLines : Type 0
TextTellsLines =
    (plan : Plan) (a b : List Line) → AreNamed plan.buses → AreLinesOn plan a → AreLinesOn plan b
    → text plan.buses a ≡ text plan.buses b → a ≡ b
