-- The steps of a node: the records that it hears, each with what its tree told, its ticks, and the
-- lines that each gives.
use Rattle.std.specs.Prelude.{ℕ, zero, suc, Bool, true, false, ◌+◌, ◌-◌, ◌*◌, ◌/◌, ◌%◌}
use Rattle.std.specs.Prelude.{if◌then◌else◌, List, [], ◌∷◌, ◌++◌, length, map, count_by, Option}
use Rattle.std.specs.Prelude.{Some, None}
use Rattle.std.specs.Option.{option_and_then}
use Rattle.cy_outside.specs.Files.{Files as TreeFiles}
use Rattle.tail_frame.specs.declared.logged.Record.{Record}
use Rattle.rx_table.specs.Heard.{frame_for, frames}
use Rattle.rx_table.specs.Ports.{held}
use Rattle.node_plan.specs.Bound.{bound_of}
use Rattle.node_plan.specs.declared.plan.BusPlan.{BusPlan}
use Rattle.node_plan.specs.declared.plan.Plan.{Plan}
use Rattle.node_core.specs.Files.{IsServed, is_failed}
use Rattle.node_core.specs.Heard.{ports_of}
use Rattle.node_core.specs.Queues.{Sends, Queue, push_all, fulls, leaving, drained, rounds, waiting}
pub use Rattle.node_core.specs.Received.{rx_line, of_delivery, anonymous_line, refused_line}
pub use Rattle.node_core.specs.Received.{of_session, of_source, on_port, of_frame, got}
pub use Rattle.node_core.specs.Received.{bad_of_source, bad_on_port, bad_of_frame, is_bad_at}
use Rattle.node_core.specs.Sending.{beat, registers_behind, reply_on, request_of}
use Rattle.node_core.specs.declared.file_reply.FileReply.{FileReply}
use Rattle.node_core.specs.declared.file_reply.FileReply.TheVariants.{NoFile}
use Rattle.report_lines.specs.declared.line.Line.{Line}
use Rattle.report_lines.specs.declared.line.Line.TheVariants.{Rx, NoSession, Tx, Full}
use Rattle.report_lines.specs.declared.numbers.Numbers.{Numbers}
use Rattle.node_core.specs.declared.request.Request.{Request}
use Rattle.std_types.specs.declared.registers.Register.{Register}

-- a record that a node met, with what its tree told of the file that was asked for there, if any
-- was
pub record Met : Type 0 where
  pub rec : Record
  pub file : FileReply

abbrev pub met : Record → FileReply → Met
met rec file = record { rec = rec; file = file }

-- the records of these
abbrev pub met_records : List Met → List Record
met_records mets = map (λ m. m.rec) mets

-- these records, where no file was asked for
abbrev pub without_files : List Record → List Met
without_files past = map (λ rec. met rec NoFile) past

-- a step of a node: a record, with what the tree told of a file, or a tick with its number and
-- moment
pub data Step : Type 0 where
  Heard : Record → FileReply → Step
  Tick : ℕ → ℕ → Step

-- the records of steps
abbrev pub records : List Step → List Record
records [] = []
records (Heard rec file ∷ past) = rec ∷ records past
records (Tick number moment ∷ past) = records past

abbrev pub moment_of : Step → ℕ
moment_of (Heard rec file) = rec.moment
moment_of (Tick number moment) = moment

-- the moment of the first record of a log
abbrev pub first_of : Record → List Record → ℕ
first_of rec [] = rec.moment
first_of rec (older ∷ past) = first_of older past

-- how many ticks are not after a moment: one at the first record, and one each second from there on
abbrev pub ticks_until : ℕ → ℕ → ℕ
ticks_until first moment = (moment - first) / 1000000 + 1

-- how many ticks were before the newest of these records
abbrev pub ticks_done : List Record → ℕ
ticks_done [] = 0
ticks_done (rec ∷ past) = ticks_until (first_of rec past) rec.moment

-- so many ticks from a number on, the newest first
abbrev pub ticks_from : ℕ → ℕ → ℕ → List Step
ticks_from first number zero = []
ticks_from first number (suc n) = Tick (number + n) (first + (number + n) * 1000000) ∷ ticks_from first number n

-- the ticks from a number on up to a moment
abbrev pub ticks_upto : ℕ → ℕ → ℕ → List Step
ticks_upto first number moment = ticks_from first number (ticks_until first moment - number)

-- the ticks between a record and those before it; a silent node has none
abbrev pub ticks_before : Plan → Record → List Record → List Step
ticks_before plan rec past = if plan.silent then [] else ticks_upto (first_of rec past) (ticks_done past) rec.moment

-- a record and the ticks before it
abbrev pub new_steps : Plan → Met → List Met → List Step
new_steps plan m past = Heard m.rec m.file ∷ ticks_before plan m.rec (met_records past)

-- the steps of a log, both with the newest first
abbrev pub steps : Plan → List Met → List Step
steps plan [] = []
steps plan (m ∷ past) = new_steps plan m past ++ steps plan past

-- what a node keeps from step to step beside its sessions: the frames that wait, the next
-- heartbeat's transfer-ID, and what its registers hold
pub record Kept : Type 0 where
  pub queues : List Queue
  pub tid : ℕ
  pub registers : List Register

abbrev pub is_rx : Line → Bool
is_rx (Rx rx) = true
is_rx (NoSession refused) = false
is_rx (Tx tx) = false
is_rx (Full full) = false

abbrev pub is_nosession : Line → Bool
is_nosession (Rx rx) = false
is_nosession (NoSession refused) = true
is_nosession (Tx tx) = false
is_nosession (Full full) = false

abbrev pub is_tx : Line → Bool
is_tx (Rx rx) = false
is_tx (NoSession refused) = false
is_tx (Tx tx) = true
is_tx (Full full) = false

-- the payload of the first of these lines that is on a transfer that was received
abbrev pub payload_in : List Line → Option (List ℕ)
payload_in [] = None
payload_in (Rx rx ∷ lines) = Some rx.payload
payload_in (line ∷ lines) = payload_in lines

-- the request that a record ended, where it gave these lines
abbrev pub request_on : Plan → Record → List Line → Option Request
request_on plan rec lines =
    option_and_then (λ payload. option_and_then (request_of payload) (frame_for plan.node rec)) (payload_in lines)

-- the request that a step ended; a tick ends none
abbrev pub request_at : Plan → Step → List Step → Option Request
request_at plan (Heard rec file) past = request_on plan rec (got plan rec (records past))
request_at plan (Tick number moment) past = None

-- what a step sends: a tick the heartbeat, a record the reply to the request that it ended
abbrev pub sends : Plan → Step → List Step → Kept → Option Sends
sends plan (Heard rec file) past k = reply_on plan k.registers file (request_at plan (Heard rec file) past)
sends plan (Tick number moment) past k = Some (beat plan number k.tid)

-- a heartbeat uses a transfer-ID, also where no bus has room for it
abbrev pub next_tid : Step → ℕ → ℕ
next_tid (Heard rec file) tid = tid
next_tid (Tick number moment) tid = (tid + 1) % 32

-- what is kept once a step's transfer was pushed and the registers did what was asked, and then
-- behind the step
abbrev pub pushed : Plan → Step → List Step → Kept → Kept
pushed plan step past k = record {
  queues = push_all (sends plan step past k) k.queues;
  tid = next_tid step k.tid;
  registers = registers_behind plan (request_at plan step past) k.registers;
}

abbrev pub left : Kept → Kept
left k = record k { queues = map drained k.queues }

-- nothing waits on a bus, where so many frames may
abbrev pub empty_queue : ℕ → BusPlan → Queue
empty_queue places bus = record { mtu = bus.mtu; rate = bus.rate; places = places; waiting = [] }

abbrev pub nothing_kept : Plan → Kept
nothing_kept plan = record {
  queues = map (empty_queue plan.queue) plan.buses;
  tid = 0;
  registers = plan.registers;
}

-- what is kept behind steps
abbrev pub kept : Plan → List Step → Kept
kept plan [] = nothing_kept plan
kept plan (step ∷ past) = left (pushed plan step past (kept plan past))

-- the lines on what a step received
abbrev pub received_at : Plan → Step → List Step → List Line
received_at plan (Heard rec file) past = got plan rec (records past)
received_at plan (Tick number moment) past = []

-- with those on the buses that had no room for what it sends
abbrev pub node_lines : Plan → Step → List Step → Kept → List Line
node_lines plan step past k = received_at plan step past ++ fulls (moment_of step) (sends plan step past k) k.queues

-- the lines of a step, where these came before it: behind the node's, those on the frames that
-- leave
abbrev pub lines_at : Plan → Step → List Step → List Line
lines_at plan step past =
    node_lines plan step past (kept plan past)
    ++ leaving (moment_of step) (pushed plan step past (kept plan past)).queues

-- the lines of steps, of which the newest comes first
abbrev pub lines : Plan → List Step → List Line
lines plan [] = []
lines plan (step ∷ past) = lines plan past ++ lines_at plan step past

-- the lines of the newer steps, behind the older ones
abbrev pub lines_behind : Plan → List Step → List Step → List Line
lines_behind plan [] older = []
lines_behind plan (step ∷ newer) older = lines_behind plan newer older ++ lines_at plan step (newer ++ older)

-- the lines on a record and the ticks before it, where these came before
abbrev pub lines_on : Plan → Met → List Met → List Line
lines_on plan m past = lines_behind plan (new_steps plan m past) (steps plan past)

-- behind the last step all that waits leaves, in rounds
abbrev pub emptying : Plan → List Step → List Line
emptying plan [] = []
emptying plan (step ∷ past) = rounds (waiting (kept plan (step ∷ past)).queues) (moment_of step) (kept plan (step ∷ past)).queues

-- the lines of a log that was read to its end
abbrev pub all_lines : Plan → List Step → List Line
all_lines plan steps = lines plan steps ++ emptying plan steps

-- the bytes of the buffers of all sessions
abbrev pub held_at : Plan → List Record → ℕ
held_at plan past = held (ports_of plan) (frames plan.node past)

abbrev pub bad_at : Plan → Step → List Step → Bool
bad_at plan (Heard rec file) past = is_bad_at plan rec (records past)
bad_at plan (Tick number moment) past = false

abbrev pub one_if : Bool → ℕ
one_if b = if b then 1 else 0

-- how many transfers had bytes that don't fit their CRC
abbrev pub badcrcs : Plan → List Step → ℕ
badcrcs plan [] = 0
badcrcs plan (step ∷ past) = badcrcs plan past + one_if (bad_at plan step past)

-- the numbers of a report on these steps
abbrev pub numbers : Plan → List Step → Numbers
numbers plan steps = record {
  records = length (records steps);
  delivered = count_by is_rx (lines plan steps);
  badcrc = badcrcs plan steps;
  nosession = count_by is_nosession (lines plan steps);
  sent = count_by is_tx (lines plan steps);
  held = held_at plan (records steps);
  bound = bound_of plan;
}

-- the numbers of a report on a log that was read to its end
abbrev pub end_numbers : Plan → List Step → Numbers
end_numbers plan steps = record (numbers plan steps) { sent = count_by is_tx (all_lines plan steps) }

-- what the tree does for a request that a record ends is what it may do; a tick asks nothing
abbrev pub IsServedAt : Option TreeFiles → Plan → Step → List Step → Type 0
IsServedAt told plan (Heard rec file) past = IsServed told plan (request_at plan (Heard rec file) past) file
IsServedAt told plan (Tick number moment) past = Unit {0}

-- so it is in all of these steps, where the tree tells its files or not
abbrev pub AreServed : Option TreeFiles → Plan → List Step → Type 0
AreServed told plan [] = Unit {0}
AreServed told plan (step ∷ past) = IsServedAt told plan step past × AreServed told plan past

-- the line of a step in which the tree failed
abbrev pub failed_at : Step → List ℕ
failed_at (Heard rec file) = if is_failed file then rec.line ∷ [] else []
failed_at (Tick number moment) = []

-- the lines of the log on which requests ended in which the tree failed, in their order
abbrev pub failed_lines : List Step → List ℕ
failed_lines [] = []
failed_lines (step ∷ past) = failed_lines past ++ failed_at step
