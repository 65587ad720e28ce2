-- Value to value: what is sent as a value is reported as that value, also where the sender has a
-- newer or an older version of the type (Cyphal Specification, sections 3.7 and 3.8).
use Rattle.std.specs.Prelude.{◌≡◌, ℕ, true, List, ◌++◌, Option, Some, Contains}
use Rattle.dsdl_types.specs.Cast.{cast}
use Rattle.dsdl_types.specs.Fits.{Fits}
use Rattle.dsdl_types.specs.Laws.{encoding}
use Rattle.dsdl_types.specs.Newer.{Newer, as_new, as_old}
use Rattle.dsdl_types.specs.Schemas.{Sch}
use Rattle.dsdl_types.specs.Sound.{IsSound}
use Rattle.dsdl_types.specs.ValueOf.{value_of}
use Rattle.dsdl_types.specs.Values.{Val}
use Rattle.tail_frame.specs.Chains.{KeyRecord}
use Rattle.tail_frame.specs.declared.logged.Record.{Record}
use Rattle.rx_table.specs.Heard.{frames}
use Rattle.rx_table.specs.Keys.{SessionKey, IsLog}
use Rattle.rx_table.specs.Ports.{Port}
use Rattle.frag.specs.Sent.{transfer_at}
use Rattle.frag.specs.declared.sent.Pair.{Pair}
use Rattle.frag.specs.declared.sent.Sent.{Sent}
use Rattle.frag.specs.declared.sent.Transfer.{Transfer}
use Rattle.delivery_theorems.specs.Report.{Explains, IsDue, pair_on}
use Rattle.value_text.specs.Texts.{value_text}
use Rattle.node_plan.specs.IsPlan.{TypesKeepRules}
use Rattle.node_plan.specs.declared.plan.Plan.{Plan}
use Rattle.node_core.specs.Steps.{Step, lines, all_lines, records}
use Rattle.node_core.specs.Types.{type_on}
use Rattle.report_lines.specs.declared.line.Line.{Line}
use Rattle.report_lines.specs.declared.line.Line.TheVariants.{Rx}
use Rattle.report_lines.specs.declared.line.Reading.{Reading}
use Rattle.report_lines.specs.declared.line.Reading.TheVariants.{Good}
use Rattle.report_lines.specs.declared.line.Rx.{Rx as Received}
use Rattle.session_lines.specs.Reported.{is_key, of_key, IsSession}

-- how a sender's type stands to a port's: it is the same, or a newer or an older version of it
pub data AreVersions (sender port : Sch) : Type 0 where
  same : sender ≡ port → AreVersions sender port
  newer : Newer sender port → AreVersions sender port
  older : Newer port sender → AreVersions sender port

-- A sender's value as one of the port's type, with each number in the range of its type: the value
-- itself; where the sender's type is newer, without what only that type has; where it is older,
-- with zero for what only the port's type has.
abbrev pub as_received : (sender port : Sch) → AreVersions sender port → Val → Val
as_received sender port (same is) v = cast port v
as_received sender port (newer is) v = as_old sender port (cast sender v)
as_received sender port (older is) v = as_new port sender (cast sender v)

-- the reading that is a value of a type, with its text
abbrev pub value_reading : Sch → Val → Reading
value_reading s v = Good (value_of v) (value_text s v)

-- Where this payload is the serialized form of a value of the port's type, or of a newer or an
-- older version of it, the reading is this value, as one of the port's type.
abbrev pub SaysValue : Sch → List ℕ → Reading → Type 0
SaysValue port payload reading =
    (sender : Sch) (v : Val) (versions : AreVersions sender port)
    → IsSound sender → Fits sender v → payload ≡ encoding sender v
    → reading ≡ value_reading port (as_received sender port versions v)

-- the type of a session's port; a port of bytes has none
abbrev pub type_of : Plan → SessionKey → Option Sch
type_of plan key =
    type_on plan (record { kind = key.kind; port = key.port; source = Some key.source })

-- one of these lines is on a transfer of this session
pub record IsLineOf (key : SessionKey) (lines : List Line) (rx : Received) : Type 0 where
  pub stands : Contains lines (Rx rx)
  pub is_of_key : is_key key rx.key ≡ true

-- the sent transfer whose frame stands on a line of the log
abbrev pub sent_on : Sent → List Pair → List KeyRecord → ℕ → Transfer
sent_on sent origin records line = transfer_at sent (pair_on origin records line).j

-- these lines say of a session the values that its transfers were sent as
abbrev pub SayValues : SessionKey → Sch → Sent → List Pair → List KeyRecord → List Line → Type 0
SayValues key port sent origin records lines =
    (rx : Received) → IsLineOf key lines rx
    → SaysValue port (sent_on sent origin records rx.last).payload rx.reading

-- a due transfer that ends at q is on a line of its own session, which says the value that it was
-- sent as
pub record SaysDueValue (key : SessionKey) (port : Sch) (payload : List ℕ) (q : KeyRecord)
    (lines : List Line) : Type 0 where
  pub rx : Received
  pub line : IsLineOf key lines rx
  pub last : rx.last ≡ q.line
  pub says : SaysValue port payload rx.reading

-- of a plan whose types keep the rules, a session on a port of this type, whose records a sent list
-- explains
pub record IsSentTo (plan : Plan) (key : SessionKey) (past : List Record) (p : Port) (port : Sch)
    (sent : Sent) (origin : List Pair) : Type 0 where
  pub rules : TypesKeepRules plan
  pub session : IsSession plan key past p
  pub typed : type_of plan key ≡ Some port
  pub log : IsLog (frames plan.node past)
  pub explains : Explains plan.timeout sent key origin (of_key plan key past)

-- values: the lines of a log, and each front of them, say of each session the values that its
-- transfers were sent as
abbrev pub ValuesInReport : Type 0
ValuesInReport =
    (plan : Plan) (key : SessionKey) (steps : List Step) (p : Port) (port : Sch) (sent : Sent) (origin : List Pair)
    (front rest : List Line)
    → IsSentTo plan key (records steps) p port sent origin → all_lines plan steps ≡ front ++ rest
    → SayValues key port sent origin (of_key plan key (records steps)) front

-- and each due transfer is reported as the value that it was sent as, whatever lines come behind
-- those of the steps
abbrev pub DueValuesInReport : Type 0
DueValuesInReport =
    (plan : Plan) (key : SessionKey) (steps : List Step) (p : Port) (port : Sch) (sent : Sent) (origin : List Pair) (q : KeyRecord)
    (behind : List Line)
    → IsSentTo plan key (records steps) p port sent origin
    → (due : IsDue plan.timeout sent origin (of_key plan key (records steps)) q)
    → SaysDueValue key port (transfer_at sent due.j).payload q (lines plan steps ++ behind)
