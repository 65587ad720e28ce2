-- What a node sends: its heartbeat each second, and the replies to requests (Cyphal Specification,
-- section 5.3).
use Rattle.std.specs.Prelude.{◌≢◌, ◌<◌, ℕ, Bool, true, false, List, [], ◌∷◌, Option, Some, None}
use Rattle.std.specs.Prelude.{option_map}
use Rattle.can_id.specs.Identifiers.{bits}
use Rattle.can_id.specs.declared.ident.Ident.{Ident}
use Rattle.can_id.specs.declared.ident.Ident.TheVariants.{Message, Anonymous, Service}
use Rattle.dsdl_types.specs.Laws.{encoding}
use Rattle.tail_frame.specs.Frames.{FrameOf}
use Rattle.node_plan.specs.declared.plan.Plan.{Plan}
use Rattle.node_status.specs.Status.{heartbeat_payload, info_payload}
use Rattle.register_service.specs.RegisterMap.{access_reply as accessed, after_access}
use Rattle.register_service.specs.RegisterMap.{list_reply as listed}
use Rattle.register_service.specs.Within.{is_allowed, limits_of}
use Rattle.std_types.specs.Ports.{heartbeat_subject}
use Rattle.std_types.specs.Registers.{access_reply_value, list_reply_value}
use Rattle.std_types.specs.Schemas.{access_reply, list_reply}
use Rattle.std_types.specs.declared.register_value.RegisterValue.{RegisterValue}
use Rattle.std_types.specs.declared.registers.Register.{Register}
use Rattle.node_core.specs.Files.{file_payload}
use Rattle.node_core.specs.Questions.{FitsQuestion, IsReadService, question_in}
use Rattle.node_core.specs.Queues.{Sends}
use Rattle.node_core.specs.declared.file_reply.FileReply.{FileReply}
use Rattle.node_core.specs.declared.question.Question.{Question}
use Rattle.node_core.specs.declared.question.Question.TheVariants.{Info, Access, Listing, FileInfo}
use Rattle.node_core.specs.declared.question.Question.TheVariants.{FileName, FileBytes, Unsupported}
use Rattle.node_core.specs.declared.request.Request.{Request}

-- the heartbeat of a tick, with a transfer-ID
abbrev pub beat : Plan → ℕ → ℕ → Sends
beat plan number tid = record {
  ident = bits (Message 4 heartbeat_subject plan.node);
  tid = tid;
  port = heartbeat_subject;
  payload = heartbeat_payload plan.status.health plan.status.mode plan.status.code number;
}

-- a request of a service that asks this
abbrev pub request_that : ℕ → ℕ → ℕ → ℕ → Question → Request
request_that service client priority tid question = record {
  service = service;
  client = client;
  priority = priority;
  tid = tid;
  question = question;
}

-- the request that a frame with this transfer-ID and identifier ended, where this is the transfer's
-- payload and the node answers it
abbrev pub request_with : ℕ → Ident → List ℕ → Option Request
request_with tid (Message priority subject source) payload = None
request_with tid (Anonymous priority subject pseudo) payload = None
request_with tid (Service priority false service destination source) payload = None
request_with tid (Service priority true service destination source) payload =
    option_map (request_that service source priority tid) (question_in service payload)

-- an identifier of a request to a service that is answered by what the payload says
abbrev pub IsReadRequest : Ident → Type 0
IsReadRequest (Message priority subject source) = ⊥
IsReadRequest (Anonymous priority subject pseudo) = ⊥
IsReadRequest (Service priority false service destination source) = ⊥
IsReadRequest (Service priority true service destination source) = IsReadService service

-- a request of another node: its numbers are in their ranges, and it asks a value of its type
pub record IsRequestTo (node : ℕ) (r : Request) : Type 0 where
  pub service : r.service < 512
  pub client : r.client < 128
  pub other : r.client ≢ node
  pub priority : r.priority < 8
  pub tid : r.tid < 32
  pub question : FitsQuestion r.question

-- the request that a frame is of, where this is the transfer's payload
abbrev pub request_of : List ℕ → FrameOf → Option Request
request_of payload f = request_with f.tail.tid f.ident payload

-- whether the register with a number may hold a value of its variant: by the limits of the plan
abbrev pub may_hold : Plan → ℕ → RegisterValue → Bool
may_hold plan = is_allowed (limits_of plan.registers)

-- the payload of a refusal: what is asked is not supported, the code 38 of `uavcan.file.Error`
abbrev pub unsupported : List ℕ
unsupported = 38 ∷ 0 ∷ []

-- the payload of the answer to a question, by what the registers hold before it, and what the tree
-- told of a file
abbrev pub answer_to : Plan → List Register → FileReply → Question → List ℕ
answer_to plan registers file Info = info_payload plan.info
answer_to plan registers file (Access request) =
    encoding access_reply (access_reply_value (accessed (may_hold plan) registers request.name request.value))
answer_to plan registers file (Listing request) =
    encoding list_reply (list_reply_value (listed registers request.index))
answer_to plan registers file (FileInfo request) = file_payload file
answer_to plan registers file (FileName request) = file_payload file
answer_to plan registers file (FileBytes request) = file_payload file
answer_to plan registers file Unsupported = unsupported

-- what the registers hold behind a question
abbrev pub registers_after : Plan → List Register → Question → List Register
registers_after plan registers (Access request) =
    after_access (may_hold plan) registers request.name request.value
registers_after plan registers other = registers

-- what they hold behind a request, if there is one
abbrev pub registers_behind : Plan → Option Request → List Register → List Register
registers_behind plan None registers = registers
registers_behind plan (Some r) registers = registers_after plan registers r.question

-- the reply to a request: to the one who asks, with the request's priority and transfer-ID
abbrev pub reply_with : Plan → Request → List ℕ → Sends
reply_with plan r payload = record {
  ident = bits (Service r.priority false r.service r.client plan.node);
  tid = r.tid;
  port = r.service;
  payload = payload;
}

abbrev pub reply_to : Plan → List Register → FileReply → Request → Sends
reply_to plan registers file r = reply_with plan r (answer_to plan registers file r.question)

-- the reply to a request, if there is one
abbrev pub reply_on : Plan → List Register → FileReply → Option Request → Option Sends
reply_on plan registers file request = option_map (reply_to plan registers file) request
