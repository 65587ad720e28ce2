-- Once and due in the words of `explain`: the lines of a session that say `delivered`.
use Rattle.std.specs.Prelude.{◌≡◌, ℕ, ◌<◌, if◌then◌else◌, List, [], ◌∷◌, ◌++◌, length, map, Some}
use Rattle.std.specs.List.{All, Contains}
use Rattle.tail_frame.specs.Chains.{KeyRecord}
use Rattle.rx_table.specs.Keys.{SessionKey}
use Rattle.rx_table.specs.Ports.{Port}
use Rattle.frag.specs.Sent.{transfer_at}
use Rattle.frag.specs.declared.sent.Pair.{Pair}
use Rattle.frag.specs.declared.sent.Sent.{Sent}
use Rattle.delivery_theorems.specs.Report.{IsDue, Rise, pair_on}
use Rattle.node_plan.specs.declared.plan.Plan.{Plan}
use Rattle.session_lines.specs.Reported.{IsSession}
use Rattle.log_explain.specs.Counts.{is_delivered}
use Rattle.log_explain.specs.Explained.{listens_by}
use Rattle.log_explain.specs.Lines.{lines, of_session, sessions}
use Rattle.log_explain.specs.Sessions.{Session}
use Rattle.log_explain.specs.declared.line.FrameLine.{FrameLine}
use Rattle.cyphal.specs.Headline.{ExplainsIn, logged_in, of_session_in}

-- those of these lines that say `delivered`, the first one first; the lines have the newest first
abbrev pub delivered : List FrameLine → List FrameLine
delivered [] = []
delivered (line ∷ past) = delivered past ++ (if is_delivered line.reason then line ∷ [] else [])

-- those of a session, of the lines on the records of the input
abbrev pub delivered_in : Plan → List ℕ → SessionKey → List FrameLine
delivered_in plan bytes key =
    delivered (of_session key (lines (listens_by plan) (logged_in plan bytes)))

-- a session that is told is one of the plan, and counts as many deliveries as lines say `delivered`
pub record IsToldSession (plan : Plan) (bytes : List ℕ) (s : Session) : Type 0 where
  pub port : Port
  pub session : IsSession plan s.key (logged_in plan bytes) port
  pub delivered : s.tally.delivered ≡ length (delivered_in plan bytes s.key)

-- each session that is told behind the lines on the records is
abbrev pub SessionsAreTold : Plan → List ℕ → Type 0
SessionsAreTold plan bytes =
    All (IsToldSession plan bytes) (sessions (listens_by plan) (logged_in plan bytes))

-- the place in the sent list of the transfer whose frame stands on a line of the log
abbrev pub sent_on : List Pair → List KeyRecord → FrameLine → ℕ
sent_on origin records line = (pair_on origin records line.line).j

-- a line is on a frame of a sent transfer: it has the key of these, and the transfer-ID of this one
pub record IsOfSent (sent : Sent) (origin : List Pair) (records : List KeyRecord)
    (line : FrameLine) : Type 0 where
  pub known : sent_on origin records line < length sent.transfers
  pub transfer : line.transfer ≡
      Some (record { key = sent.key; tid = (transfer_at sent (sent_on origin records line)).tid })

-- each of these lines is, and the places of their transfers in the sent list rise strictly: so they
-- come in its order, each at most once
pub record AreSentOnce (sent : Sent) (origin : List Pair) (records : List KeyRecord)
    (told : List FrameLine) : Type 0 where
  pub sent_ones : All (IsOfSent sent origin records) told
  pub in_order : Rise (map (sent_on origin records) told)

-- one of these lines is on that line of the log, and of the transfer at that place of the sent list
pub record IsAmong (origin : List Pair) (records : List KeyRecord) (told : List FrameLine)
    (number j : ℕ) : Type 0 where
  pub line : FrameLine
  pub stands : Contains told line
  pub number_is : line.line ≡ number
  pub transfer_is : sent_on origin records line ≡ j

-- once: the lines of a session that say `delivered` are of sent transfers, in the order of the sent
-- list, each at most once
abbrev pub DeliveredOnce : Plan → List ℕ → Type 0
DeliveredOnce plan bytes =
    (key : SessionKey) (p : Port) (sent : Sent) (origin : List Pair)
    → IsSession plan key (logged_in plan bytes) p → ExplainsIn plan bytes sent key origin
    → AreSentOnce sent origin (of_session_in plan bytes key) (delivered_in plan bytes key)

-- due: each transfer of a session that came whole on the bus in force with a fresh transfer-ID has
-- such a line, on its last frame
abbrev pub DueDelivered : Plan → List ℕ → Type 0
DueDelivered plan bytes =
    (key : SessionKey) (p : Port) (sent : Sent) (origin : List Pair) (q : KeyRecord)
    → IsSession plan key (logged_in plan bytes) p → ExplainsIn plan bytes sent key origin
    → (due : IsDue plan.timeout sent origin (of_session_in plan bytes key) q)
    → IsAmong origin (of_session_in plan bytes key) (delivered_in plan bytes key) q.line due.j
