-- What holds of the steps of a node, and of the frames that wait.
use Rattle.std.specs.Prelude.{◌≡◌, ℕ, Bool, true, List, [], ◌∷◌, ◌++◌, map, Option, Some, None}
use Rattle.cy_outside.specs.Files.{Files as TreeFiles}
use Rattle.tail_frame.specs.declared.logged.Record.{Record}
use Rattle.node_plan.specs.IsPlan.{IsPlan}
use Rattle.node_plan.specs.Ports.{services}
use Rattle.node_plan.specs.declared.plan.Plan.{Plan}
use Rattle.register_service.specs.Kept.{AreKept}
use Rattle.register_service.specs.RegisterMap.{Request as RegisterRequest, Access as RegisterAccess}
use Rattle.register_service.specs.RegisterMap.{Listing as RegisterListing, after}
use Rattle.node_core.specs.Files.{is_failed}
use Rattle.node_core.specs.Queues.{Queue, drained, leaving, waiting}
use Rattle.node_core.specs.Sending.{may_hold}
use Rattle.node_core.specs.Steps.{AreServed, Heard, IsServedAt, Met, Step, all_lines, end_numbers}
use Rattle.node_core.specs.Steps.{got, kept, lines, lines_behind, lines_on, met_records, numbers}
use Rattle.node_core.specs.Steps.{records, request_at, steps, without_files}
use Rattle.node_core.specs.declared.file_reply.FileReply.{FileReply}
use Rattle.node_core.specs.declared.question.Question.{Question}
use Rattle.node_core.specs.declared.question.Question.TheVariants.{Access, Listing}
use Rattle.node_core.specs.declared.request.Request.{Request}

-- the records of the steps of a log are the log
abbrev pub RecordsOfSteps : Type 0
RecordsOfSteps = (plan : Plan) (past : List Met) → records (steps plan past) ≡ met_records past

-- the lines of steps are those of the older ones, and behind them those of the newer
abbrev pub LinesJoin : Type 0
LinesJoin = (plan : Plan) (newer older : List Step)
    → lines plan (newer ++ older) ≡ lines plan older ++ lines_behind plan newer older

-- where nothing waits, nothing leaves, and the lists stay
abbrev pub NothingLeaves : Type 0
NothingLeaves = (moment : ℕ) (qs : List Queue) → waiting qs ≡ 0
    → (leaving moment qs ≡ []) × (map drained qs ≡ qs)

-- where nothing waits behind the last step, nothing is emptied
abbrev pub NothingEmptied : Type 0
NothingEmptied = (plan : Plan) (all : List Step) → waiting (kept plan all).queues ≡ 0
    → (all_lines plan all ≡ lines plan all) × (end_numbers plan all ≡ numbers plan all)

-- a node that publishes no heartbeat and answers no service
pub record IsMute (plan : Plan) : Type 0 where
  pub silent : plan.silent ≡ true
  pub no_service : services plan ≡ []

-- nothing ever waits at such a node
abbrev pub MuteKeepNothing : Type 0
MuteKeepNothing = (plan : Plan) (past : List Met) → IsMute plan
    → (kept plan (steps plan past) ≡ kept plan [])
    × (waiting (kept plan (steps plan past)).queues ≡ 0)

-- and its lines are on what it receives
abbrev pub MuteReceive : Type 0
MuteReceive = (plan : Plan) (m : Met) (past : List Met) → IsMute plan
    → lines_on plan m past ≡ got plan m.rec (met_records past)

-- a node that serves no files asks its tree nothing: its steps are those of the records alone
abbrev pub NothingServed : Type 0
NothingServed = (told : Option TreeFiles) (plan : Plan) (past : List Met) → plan.serve ≡ None
    → AreServed told plan (steps plan past) → past ≡ without_files (met_records past)

-- where the tree failed in these
abbrev pub failures_of : List Met → List Bool
failures_of mets = map (λ m. is_failed m.file) mets

-- where a tree tells its files, what it told in a log is decided by them and by where it failed
abbrev pub ServedOnce : Type 0
ServedOnce = (files : TreeFiles) (plan : Plan) (a b : List Met)
    → met_records a ≡ met_records b → failures_of a ≡ failures_of b
    → AreServed (Some files) plan (steps plan a) → AreServed (Some files) plan (steps plan b) → a ≡ b

-- whatever is asked behind a log, there is something that the tree may tell
abbrev pub SomethingServed : Type 0
SomethingServed = (told : Option TreeFiles) (plan : Plan) (rec : Record) (past : List Step)
    → (file : FileReply) × IsServedAt told plan (Heard rec file) past

-- what a request asks of the registers, if anything
abbrev pub asks_of : Question → List RegisterRequest
asks_of (Access request) = RegisterAccess request.name request.value ∷ []
asks_of (Listing request) = RegisterListing request.index ∷ []
asks_of other = []

abbrev pub asked_by : Option Request → List RegisterRequest
asked_by None = []
asked_by (Some r) = asks_of r.question

-- what these steps ask of the registers, the newest first
abbrev pub asked : Plan → List Step → List RegisterRequest
asked plan [] = []
asked plan (step ∷ past) = asked_by (request_at plan step past) ++ asked plan past

-- the registers hold what a map of the plan's registers holds after all that was asked, with the
-- plan's limits
abbrev pub RegistersAre : Type 0
RegistersAre = (plan : Plan) (all : List Step)
    → (kept plan all).registers ≡ after (may_hold plan) plan.registers (asked plan all)

-- they stay registers of a node, each within its limits, whatever is asked
abbrev pub RegistersStay : Type 0
RegistersStay = (plan : Plan) (all : List Step) → IsPlan plan → AreKept (kept plan all).registers
