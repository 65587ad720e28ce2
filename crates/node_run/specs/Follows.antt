-- What follows a record: the reply to the request that it ended, and the frames that leave.
use Rattle.std.specs.Prelude.{◌≡◌, ◌++◌, ℕ, List, Option, OnErr, OnOk, Result, length}
use Rattle.cy_outside.specs.Files.{Files}
use Rattle.tail_frame.specs.declared.logged.Record.{Record}
use Rattle.node_plan.specs.declared.plan.Plan.{Plan}
use Rattle.node_core.specs.Came.{came_lines, came_request}
use Rattle.node_core.specs.Files.{IsServed}
use Rattle.node_core.specs.Keeps.{answered, keeps, reply_by}
use Rattle.report_lines.specs.LineSinks.{BeginsList}
use Rattle.node_core.specs.Queues.{fulls, leaving}
use Rattle.node_core.specs.Steps.{Heard, Kept, left}
use Rattle.node_core.specs.declared.came.Came.{Came}
use Rattle.node_core.specs.declared.file_reply.FileReply.{FileReply}
use Rattle.report_lines.specs.declared.line.Line.{Line}
use Rattle.node_core.specs.declared.node.Node.{Node}
use Rattle.node_core.specs.declared.request.Request.{Request}
use Rattle.node_core.specs.Types.{type_on}
use Rattle.node_run.specs.Failures.{Failures, FailsAs, FailsUntold}
use Rattle.node_run.specs.Forms.{Style}
use Rattle.node_run.specs.Goes.{State, state_in, with_sent}
use Rattle.node_run.specs.Leaves.{IsSameNode}
use Rattle.node_run.specs.Listens.{IsOver, Views, failures_in}
use Rattle.node_run.specs.Tells.{HasTold}
use Rattle.node_run.specs.declared.log.running.Running.{Running}

-- a request, if there is one, and what the tree told of a file for it
pub record Asked : Type 0 where
  pub request : Option Request
  pub file : FileReply

abbrev pub asked : Option Request → FileReply → Asked
asked request file = record { request = request; file = file }

-- the lines on the frames that leave behind a request, if there is one, once it was answered
abbrev pub frames_behind : Plan → ℕ → Asked → Kept → List Line
frames_behind plan moment asked k = leaving moment (answered plan asked.request asked.file k).queues

-- and before them those on the buses that have no room for its reply
abbrev pub following : Plan → ℕ → Asked → Kept → List Line
following plan moment asked k =
    fulls moment (reply_by plan asked.request asked.file k) k.queues
    ++ frames_behind plan moment asked k

-- a request, if there is one, was answered at a moment, and frames left behind it: the lines on
-- that are told, and the frames are counted
pub record Follows (asked : Asked) (moment : ℕ) (old new : State)
    (before after : List ℕ) : Type 0 where
  pub keeps_are : let k = keeps old.node in
      keeps new.node ≡ left (answered old.node.plan asked.request asked.file k)
  pub told : let due = following old.node.plan moment asked (keeps old.node) in
      HasTold old.style (type_on old.node.plan) due before after old.told new.told
  pub counted : let sent = frames_behind old.node.plan moment asked (keeps old.node) in
      new.numbers ≡ with_sent old.numbers (length sent)

-- it broke off: the first of its lines were told, and nothing is counted
pub record FollowsInPart (asked : Asked) (moment : ℕ) (old new : State) : Type 0 where
  pub told : let due = following old.node.plan moment asked (keeps old.node) in
      BeginsList due old.told new.told
  pub uncounted : new.numbers ≡ old.numbers

-- a request of a record, if there is one, was answered by what the tree told of a file, and frames
-- left behind it
pub record HasFollowed (told : Option Files) (rec : Record) (request : Option Request)
    (old new : State) (before after : List ℕ) (f : Failures) : Type 0 where
  pub file : FileReply
  pub served : IsServed told old.node.plan request file
  pub follows : Follows (asked request file) rec.moment old new before after
  pub fails : FailsAs file (Heard rec file) f

-- it broke off, by what the tree told of a file
pub record FollowedInPart (told : Option Files) (moment : ℕ) (request : Option Request)
    (old new : State) : Type 0 where
  pub file : FileReply
  pub served : IsServed told old.node.plan request file
  pub part : FollowsInPart (asked request file) moment old new

-- it broke off, by what the tree told of a file or by whatever it may tell
pub record BrokeFollowing (told : Option Files) (rec : Record) (request : Option Request)
    (old new : State) (f : Failures) : Type 0 where
  pub part : (file : FileReply) → IsServed told old.node.plan request file
      → FollowedInPart told rec.moment request old new
  pub untold : FailsUntold f

-- a run stays what it was, but for what it keeps, tells and counts
pub record IsSameRun {W K T : Type 0} (style : W → Style) (files : T → Option Files)
    (old new : Running W K T) : Type 0 where
  pub over : IsOver style files old new
  pub node : IsSameNode old.node.now new.node.now
  pub records : new.tally.numbers.records ≡ old.tally.numbers.records
  pub number : new.clock.number ≡ old.clock.number
  pub next : new.clock.next ≡ old.clock.next

-- the request that a record ended which came to this at a node
abbrev pub request_ended : Node → Record → Came → Option Request
request_ended node rec came = came_request came (came_lines node rec came)

-- what follows a record of a run: a request, if there is one, is answered and frames leave, or for
-- want of memory the run breaks off in that
pub record IsFollowed {W K T E : Type 0} (v : Views W K T) (rec : Record) (request : Option Request)
    (old new : Running W K T) (before after : List ℕ) (result : Result (Unit {0}) E) : Type 0 where
  pub same : IsSameRun v.style v.files old new
  pub ok : let f = failures_in v.failed v.faults v.calls old new in
      OnOk result (HasFollowed (v.files old.tree.now) rec request
      (state_in v.style v.lines old) (state_in v.style v.lines new) before after f)
  pub err : let f = failures_in v.failed v.faults v.calls old new in
      OnErr result (BrokeFollowing (v.files old.tree.now) rec request
      (state_in v.style v.lines old) (state_in v.style v.lines new) f)
