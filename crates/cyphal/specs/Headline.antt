-- The headline: of each session only sent transfers are reported, in order and at most once, and
-- each transfer that is due is; what was sent as a value is reported as that value; and what is
-- written is the text of this report.
use Rattle.std.specs.Prelude.{◌≡◌, ◌++◌, ℕ, true, List, Option, Some, None}
use Rattle.tail_frame.specs.Chains.{KeyRecord}
use Rattle.tail_frame.specs.declared.logged.Record.{Record}
use Rattle.rx_table.specs.Keys.{SessionKey}
use Rattle.rx_table.specs.Ports.{Port}
use Rattle.dsdl_types.specs.Schemas.{Sch}
use Rattle.frag.specs.Sent.{transfer_at}
use Rattle.frag.specs.declared.sent.Pair.{Pair}
use Rattle.frag.specs.declared.sent.Sent.{Sent}
use Rattle.delivery_theorems.specs.Raw.{WireExplains}
use Rattle.delivery_theorems.specs.Report.{AnyRx, SelectedRx, IsDue}
use Rattle.cy_outside.specs.Files.{Files}
use Rattle.frame_log.specs.Log.{Log, log_of}
use Rattle.node_plan.specs.declared.plan.Plan.{Plan}
use Rattle.report_lines.specs.declared.line.Line.{Line}
use Rattle.rx_table.specs.Heard.{heard_as}
use Rattle.node_core.specs.Steps.{AreServed, Met, met_records, steps, without_files}
use Rattle.session_lines.specs.Reported.{rxs, of_key, IsSession}
use Rattle.session_lines.specs.Values.{type_of, SayValues, SaysDueValue}
use Rattle.node_run.specs.declared.form.Form.{Form}
use Rattle.node_run.specs.Ran.{Reported, names_of, newest_first, due_lines, IsWritten, IsBegun}
use Rattle.node_run.specs.declared.status.Status.{Status}
use Rattle.cyphal.specs.Words.{Run, command_of}
use Rattle.cyphal.specs.Job.{Told, Outcome, is_settled}
use Rattle.cyphal.specs.Plans.{PlanAt}

-- the words name a form, and a root in whose namespace a file gives this plan, and the input has
-- these bytes
pub record Asked (words : List (List ℕ)) (told : Told) (plan : Plan) (bytes : List ℕ) : Type 0 where
  pub form : Form
  pub root : List ℕ
  pub path : List ℕ
  pub command : command_of words ≡ Some (Run form root path)
  pub tree : Files
  pub is_tree : told.files ≡ Some tree
  pub is_plan : PlanAt root path (Some tree) plan
  pub is_input : told.input ≡ Some bytes

-- the records of the input that count, the newest first
abbrev pub logged_in : Plan → List ℕ → List Record
logged_in plan bytes = newest_first (log_of (names_of plan) bytes)

-- the records of a session among them
abbrev pub of_session_in : Plan → List ℕ → SessionKey → List KeyRecord
of_session_in plan bytes key = of_key plan key (logged_in plan bytes)

-- each record of a session is, by identifier and data, the frame of the sent list that its pair in
-- `origin` names, received less than the timeout after it was sent; on each bus these pairs never
-- fall; and there is no chance match
abbrev pub ExplainsIn : Plan → List ℕ → Sent → SessionKey → List Pair → Type 0
ExplainsIn plan bytes sent key origin =
    WireExplains (heard_as plan.node) plan.timeout sent key origin (logged_in plan bytes)

-- the log of the input
abbrev pub log_in : Plan → List ℕ → Log
log_in plan bytes = log_of (names_of plan) bytes

-- these are its records, each with what the tree told of a file there: what its files say, or that
-- it failed
pub record AreMet (plan : Plan) (tree : Files) (bytes : List ℕ) (mets : List Met) : Type 0 where
  pub of_log : met_records mets ≡ logged_in plan bytes
  pub served : AreServed (Some tree) plan (steps plan mets)

-- the lines of the log with these records: those of its steps, and where it was read to its end
-- those on the frames that then leave
abbrev pub lines_of : Plan → List ℕ → List Met → List Line
lines_of plan bytes mets = due_lines plan (steps plan mets) (log_in plan bytes).refusal

-- the text of its lines in a form is written, and where it was read to its end the last line
abbrev pub HasReport : Form → Plan → List ℕ → List Met → Option (List ℕ) → Option (List ℕ) → Type 0
HasReport form plan bytes mets before after =
    IsWritten form plan (steps plan mets) (log_in plan bytes).refusal before after

-- a beginning of it is written
abbrev pub BeginsReport : Form → Plan → List ℕ → List Met → Option (List ℕ) → Option (List ℕ)
    → Type 0
BeginsReport form plan bytes mets before after =
    IsBegun form plan (steps plan mets) (log_in plan bytes).refusal before after

-- once: what these lines say of a session are sent transfers, in the order of the sent list, each
-- at most once, cut to the extent
abbrev pub OnceIn : Plan → List ℕ → List Line → Type 0
OnceIn plan bytes lines =
    (key : SessionKey) (p : Port) (sent : Sent) (origin : List Pair)
    → IsSession plan key (logged_in plan bytes) p → ExplainsIn plan bytes sent key origin
    → SelectedRx p.extent sent origin (of_session_in plan bytes key) (rxs key lines)

-- due: each transfer of a session that came whole on the bus in force with a fresh transfer-ID is
-- among these lines, with the line of its last frame
abbrev pub DueIn : Plan → List ℕ → List Line → Type 0
DueIn plan bytes lines =
    (key : SessionKey) (p : Port) (sent : Sent) (origin : List Pair) (q : KeyRecord)
    → IsSession plan key (logged_in plan bytes) p → ExplainsIn plan bytes sent key origin
    → IsDue plan.timeout sent origin (of_session_in plan bytes key) q
    → AnyRx (λ rx. rx.last ≡ q.line) (rxs key lines)

-- values: where a transfer of a session was sent as a value of its port's type, or of a newer or an
-- older version of it, these lines say this value
abbrev pub ValuesIn : Plan → List ℕ → List Line → Type 0
ValuesIn plan bytes lines =
    (key : SessionKey) (p : Port) (port : Sch) (sent : Sent) (origin : List Pair)
    → IsSession plan key (logged_in plan bytes) p → type_of plan key ≡ Some port
    → ExplainsIn plan bytes sent key origin
    → SayValues key port sent origin (of_session_in plan bytes key) lines

-- and each transfer that is due is among these lines as the value that it was sent as
abbrev pub DueValuesIn : Plan → List ℕ → List Line → Type 0
DueValuesIn plan bytes lines =
    (key : SessionKey) (p : Port) (port : Sch) (sent : Sent) (origin : List Pair) (q : KeyRecord)
    → IsSession plan key (logged_in plan bytes) p → type_of plan key ≡ Some port
    → ExplainsIn plan bytes sent key origin
    → (due : IsDue plan.timeout sent origin (of_session_in plan bytes key) q)
    → SaysDueValue key port (transfer_at sent due.j).payload q lines

-- The headline over what is written in a form. The records of the log are met, each with what the
-- tree told of a file there; a plan that serves no files asks for none, so its log has one list of
-- lines. Where all that counts of the input was run, what is written is the text of the lines of
-- the log with these, and a beginning of it however the run ended. These lines, and each front of
-- them, say of a session only what was sent, at most once, each value as it was sent; and all of
-- them say what is due.
pub record Headline (form : Form) (plan : Plan) (tree : Files) (bytes : List ℕ) (stat : Status)
    (before after : Option (List ℕ)) : Type 0 where
  pub mets : List Met
  pub are : AreMet plan tree bytes mets
  pub plain : plan.serve ≡ None → mets ≡ without_files (logged_in plan bytes)
  pub written : is_settled stat ≡ true → HasReport form plan bytes mets before after
  pub begun : BeginsReport form plan bytes mets before after
  pub once : (front rest : List Line) → lines_of plan bytes mets ≡ front ++ rest
      → OnceIn plan bytes front
  pub due : DueIn plan bytes (lines_of plan bytes mets)
  pub values : (front rest : List Line) → lines_of plan bytes mets ≡ front ++ rest
      → ValuesIn plan bytes front
  pub due_values : DueValuesIn plan bytes (lines_of plan bytes mets)

-- of words that ask for a run of a told plan over a told input
abbrev pub HeadlineOf : List (List ℕ) → Told → Outcome → Type 0
HeadlineOf words told came =
    (plan : Plan) (bytes : List ℕ) (a : Asked words told plan bytes)
    → Headline a.form plan a.tree bytes came.status told.written came.written

-- the lines that were put, where the sink of lines tells them
abbrev pub HasPut : Reported → List Line → Type 0
HasPut reported mine =
    (before : List Line) × (reported.old ≡ Some before) × (reported.new ≡ Some (before ++ mine))

-- once, of the lines of a report, however the run ended
abbrev pub OnceOf : List (List ℕ) → Told → List Line → Type 0
OnceOf words told mine =
    (plan : Plan) (bytes : List ℕ) → Asked words told plan bytes → OnceIn plan bytes mine

-- due, of the lines of a report where all that counts of the input was run
abbrev pub DueOf : List (List ℕ) → Told → Status → List Line → Type 0
DueOf words told stat mine =
    (plan : Plan) (bytes : List ℕ) → Asked words told plan bytes → is_settled stat ≡ true
    → DueIn plan bytes mine

-- values, of the lines of a report, however the run ended
abbrev pub ValuesOf : List (List ℕ) → Told → List Line → Type 0
ValuesOf words told mine =
    (plan : Plan) (bytes : List ℕ) → Asked words told plan bytes → ValuesIn plan bytes mine

-- and those that are due, where all that counts of the input was run
abbrev pub DueValuesOf : List (List ℕ) → Told → Status → List Line → Type 0
DueValuesOf words told stat mine =
    (plan : Plan) (bytes : List ℕ) → Asked words told plan bytes → is_settled stat ≡ true
    → DueValuesIn plan bytes mine

-- each of these, of the lines that a sink of lines tells
abbrev pub OncePut : List (List ℕ) → Told → Outcome → Type 0
OncePut words told came = (mine : List Line) → HasPut came.reported mine → OnceOf words told mine

abbrev pub DuePut : List (List ℕ) → Told → Outcome → Type 0
DuePut words told came =
    (mine : List Line) → HasPut came.reported mine → DueOf words told came.status mine

abbrev pub ValuesPut : List (List ℕ) → Told → Outcome → Type 0
ValuesPut words told came =
    (mine : List Line) → HasPut came.reported mine → ValuesOf words told mine

abbrev pub DueValuesPut : List (List ℕ) → Told → Outcome → Type 0
DueValuesPut words told came =
    (mine : List Line) → HasPut came.reported mine → DueValuesOf words told came.status mine
