-- What a node keeps beside its sessions.
use Rattle.std.specs.Prelude.{◌≡◌, ◌+◌, ◌%◌, ℕ, Bool, List, [], ◌++◌, map, Option, Some}
use Rattle.cy_outside.specs.Files.{Files as TreeFiles}
use Rattle.node_plan.specs.declared.plan.Plan.{Plan}
use Rattle.tail_frame.specs.declared.logged.Record.{Record}
use Rattle.node_core.specs.Buses.{queue_of}
use Rattle.node_core.specs.Queues.{Queue, Sends, fulls, push_all}
use Rattle.node_core.specs.Sending.{registers_after, registers_behind, reply_on}
use Rattle.node_core.specs.Stands.{Stands}
use Rattle.node_core.specs.Files.{IsServed, is_failed}
use Rattle.node_core.specs.Steps.{IsServedAt, Step, Heard, Kept, empty_queue, node_lines, pushed}
use Rattle.node_core.specs.Steps.{records}
use Rattle.node_core.specs.declared.file_reply.FileReply.{FileReply}
use Rattle.report_lines.specs.declared.line.Line.{Line}
use Rattle.node_core.specs.declared.node.Node.{Node}
use Rattle.node_core.specs.declared.question.Question.{Question}
use Rattle.node_core.specs.declared.request.Request.{Request}

-- the frames that wait on each bus, the transfer-ID of the next heartbeat, and what the registers
-- hold
abbrev pub keeps : Node → Kept
keeps node = record {
  queues = map queue_of node.queues.buses.items;
  tid = node.tid;
  registers = node.registers;
}

-- a list without the frames that wait
abbrev pub emptied : Queue → Queue
emptied q = record q { waiting = [] }

-- a node has a list for each bus of its plan, with the plan's places
abbrev pub HasQueues : Node → Type 0
HasQueues node = map emptied (keeps node).queues ≡ map (empty_queue node.plan.queue) node.plan.buses

-- as if a transfer were pushed
abbrev pub sent : Option Sends → Kept → Kept
sent x k = record k { queues = push_all x k.queues }

-- the reply to a request, if there is one, by what is kept before it, and what the tree told of a
-- file
abbrev pub reply_by : Plan → Option Request → FileReply → Kept → Option Sends
reply_by plan request file k = reply_on plan k.registers file request

-- as if a request were answered: its reply is pushed, and the registers did what it asks
abbrev pub answered : Plan → Option Request → FileReply → Kept → Kept
answered plan request file k = record (sent (reply_by plan request file k) k) {
  registers = registers_behind plan request k.registers;
}

-- as if a question were answered: the registers did what it asks
abbrev pub questioned : Plan → Question → Kept → Kept
questioned plan question k = record k { registers = registers_after plan k.registers question }

-- as if a heartbeat were pushed, and its transfer-ID used
abbrev pub beaten : Sends → Kept → Kept
beaten x k = record (sent (Some x) k) { tid = (k.tid + 1) % 32 }

-- what a node keeps once it took a record
abbrev pub KeepsOf : Step → Node → Node → Type 0
KeepsOf step old new = (past : List Step) → Stands old (records past)
    → keeps new ≡ pushed old.plan step past (keeps old)

-- the next step appends the lines that it gives, and those on the buses that have no room for what
-- it sends
abbrev pub Appends : Node → Step → List Line → List Line → Type 0
Appends node step old new = (past : List Step) → Stands node (records past)
    → new ≡ old ++ node_lines node.plan step past (keeps node)

-- what the tree did for it is what it may do
abbrev pub IsServedBy : Option TreeFiles → Node → Step → Type 0
IsServedBy told node step = (past : List Step) → Stands node (records past)
    → IsServedAt told node.plan step past

-- A request was answered, if there is one, with what the tree told of a file: by that the node
-- keeps what the answer leaves, and the lines on full buses stand behind others.
pub record DidAnswer (told : Option TreeFiles) (moment : ℕ) (request : Option Request) (old new : Node)
    (lines lines_new : List Line) (failed : Bool) : Type 0 where
  pub file : FileReply
  pub served : IsServed told old.plan request file
  pub keeps_are : keeps new ≡ answered old.plan request file (keeps old)
  pub lines_are : lines_new
      ≡ lines ++ fulls moment (reply_by old.plan request file (keeps old)) (keeps old).queues
  pub failed_is : failed ≡ is_failed file

-- A record was taken, with what the tree told of a file: by that the node keeps what the step
-- leaves, and the lines stand behind others.
pub record DidStep (told : Option TreeFiles) (rec : Record) (old new : Node)
    (lines lines_new : List Line) (failed : Bool) : Type 0 where
  pub file : FileReply
  pub served : IsServedBy told old (Heard rec file)
  pub keeps_are : KeepsOf (Heard rec file) old new
  pub appends : Appends old (Heard rec file) lines lines_new
  pub failed_is : failed ≡ is_failed file
