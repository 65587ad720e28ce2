-- What a report says of one session.
use Rattle.std.specs.Prelude.{◌≡◌, ℕ, Bool, true, false, ◌&&◌, ◌==◌, if◌then◌else◌, List, [], ◌∷◌}
use Rattle.std.specs.Prelude.{◌++◌, Option, Some, None}
use Rattle.can_id.specs.declared.key.Key.{Key}
use Rattle.tail_frame.specs.Chains.{KeyRecord}
use Rattle.tail_frame.specs.declared.logged.Record.{Record}
use Rattle.rx_table.specs.Admitted.{has, admitted}
use Rattle.rx_table.specs.Keys.{SessionKey, KeyedFrame, same_kind, history}
use Rattle.rx_table.specs.Ports.{Port, port_at}
use Rattle.delivery_theorems.specs.Report.{Rx as RxOf, reported}
use Rattle.node_plan.specs.declared.plan.Plan.{Plan}
use Rattle.report_lines.specs.declared.line.Line.{Line}
use Rattle.report_lines.specs.declared.line.Line.TheVariants.{Rx, NoSession, Tx, Full}
use Rattle.report_lines.specs.declared.line.Rx.{Rx as RxLine}
use Rattle.rx_table.specs.Heard.{frames}
use Rattle.node_core.specs.Heard.{ports_of}
use Rattle.node_core.specs.Steps.{Step, records, lines, emptying, all_lines}

abbrev pub is_source : Option ℕ → ℕ → Bool
is_source None source = false
is_source (Some s) source = s == source

-- whether a line's key is that of a session; an anonymous message is of none
abbrev pub is_key : SessionKey → Key → Bool
is_key key k = same_kind k.kind key.kind && ((k.port == key.port) && is_source k.source key.source)

abbrev pub without_key : RxLine → RxOf
without_key rx = record { moment = rx.moment; bus = rx.bus; priority = rx.priority; tid = rx.tid; first = rx.first; last = rx.last; payload = rx.payload }

-- what a line reports of a key; what is sent is no report
abbrev pub of_line : SessionKey → Line → List RxOf
of_line key (Rx rx) = if is_key key rx.key then without_key rx ∷ [] else []
of_line key (NoSession refused) = []
of_line key (Tx tx) = []
of_line key (Full full) = []

-- the transfers of a key in a report
abbrev pub rxs : SessionKey → List Line → List RxOf
rxs key [] = []
rxs key (line ∷ lines) = of_line key line ++ rxs key lines

-- the records of a key
abbrev pub of_key : Plan → SessionKey → List Record → List KeyRecord
of_key plan key past = history key (frames plan.node past)

-- whether a source has a session on a port
abbrev pub has_session : Port → ℕ → List KeyedFrame → Bool
has_session p source log = has source (admitted p.kind p.port p.sources log)

-- the port of a key is the plan's, and the source is admitted on it
pub record IsSession (plan : Plan) (key : SessionKey) (past : List Record) (p : Port) : Type 0 where
  pub port : port_at key.kind key.port (ports_of plan) ≡ Some p
  pub admitted_there : has_session p key.source (frames plan.node past) ≡ true

-- the lines of each session are what its records deliver
abbrev pub Reported : Type 0
Reported =
    (plan : Plan) (key : SessionKey) (steps : List Step) (p : Port) → IsSession plan key (records steps) p
    → rxs key (lines plan steps) ≡ reported plan.timeout p.extent (of_key plan key (records steps))

-- what leaves behind the last step reports nothing
abbrev pub EmptyingIsQuiet : Type 0
EmptyingIsQuiet =
    (plan : Plan) (key : SessionKey) (steps : List Step) → rxs key (emptying plan steps) ≡ []

-- so all lines of a log report what those of its steps do
abbrev pub StepsReportAll : Type 0
StepsReportAll =
    (plan : Plan) (key : SessionKey) (steps : List Step)
    → rxs key (all_lines plan steps) ≡ rxs key (lines plan steps)
