-- What a mute node keeps and tells.
use Rattle.std.proofs.Common.{◌≡◌, ◌∙◌, ℕ, true, false, List, [], ◌∷◌, ◌++◌, map, Option, Some, None, refl, ap, append-nil}
use Rattle.std.proofs.lemmas.Bool.{cond-true}
use Rattle.std.specs.Option.{option_and_then}
use Rattle.can_id.specs.Identifiers.{key_of}
use Rattle.can_id.specs.declared.ident.Ident.{Ident}
use Rattle.can_id.specs.declared.ident.Ident.TheVariants.{Message, Anonymous, Service}
use Rattle.can_id.specs.declared.key.Kind.TheVariants.{Request as request}
use Rattle.tail_frame.specs.Frames.{FrameOf}
use Rattle.tail_frame.specs.declared.logged.Record.{Record}
use Rattle.rx_table.specs.Heard.{frame_for, frames}
use Rattle.rx_table.specs.Keys.{KeyedFrame}
use Rattle.rx_table.specs.Ports.{Port, port_at}
use Rattle.rx_table.specs.Table.{port_on}
use Rattle.node_plan.specs.Ports.{port_of_service, port_of_sub, services}
use Rattle.node_plan.specs.declared.plan.Plan.{Plan}
use Rattle.node_plan.specs.declared.plan.Sub.{Sub}
use Rattle.node_plan.specs.declared.services.Service.{Service as PlanService}
use Rattle.node_core.specs.Heard.{ports_of, table_port}
use Rattle.node_core.specs.Laws.{IsMute, MuteKeepNothing, MuteReceive}
use Rattle.node_core.specs.Queues.{Queue, fulls, leaving, push_all, waiting}
use Rattle.node_core.specs.Sending.{registers_behind, reply_on, request_of, request_with}
use Rattle.node_core.specs.Steps.{Step, Heard, Kept, got, kept, left, lines_at, lines_behind, met_records, of_frame, on_port, payload_in, pushed, records, request_at, steps, ticks_before}
use Rattle.node_core.specs.declared.file_reply.FileReply.{FileReply}
use Rattle.report_lines.specs.declared.line.Line.{Line}
use Rattle.node_core.specs.declared.request.Request.{Request}
use Rattle.node_core.proofs.Queues.{nothing_waits}
use Rattle.node_core.proofs.Waits.{all_stay, none_leaves, records_of_steps}

no_request_port : (subs : List Sub) (port : ℕ) → port_at request port (map table_port (map port_of_sub subs ++ [])) ≡ None
no_request_port [] port = refl
no_request_port (sub ∷ subs) port = no_request_port subs port

no_services : (plan : Plan) (port : ℕ) → services plan ≡ [] → port_at request port (ports_of plan) ≡ None
no_services plan port none =
    ap (λ (t : List PlanService). port_at request port (map table_port (map port_of_sub plan.subs ++ map port_of_service t))) none
    ∙ no_request_port plan.subs port

-- where no payload is that of a request, there is none
no_request : (request_in : List ℕ → Option Request) (payload : Option (List ℕ)) → ((p : List ℕ) → request_in p ≡ None) → option_and_then request_in payload ≡ None
no_request request_in None none = refl
no_request request_in (Some p) none = none p

module _ (plan : Plan) (none : services plan ≡ []) (log : List KeyedFrame) where
  abbrev payload_on : FrameOf → Option (List ℕ)
  payload_on f = payload_in (on_port plan f log (port_on (ports_of plan) f))

  asks_none : (f : FrameOf) (ident : Ident) → f.ident ≡ ident → option_and_then (λ payload. request_of payload f) (payload_on f) ≡ None
  asks_none f (Message priority subject source) e =
      no_request (λ payload. request_of payload f) (payload_on f) (λ p. ap (λ (i : Ident). request_with f.tail.tid i p) e)
  asks_none f (Anonymous priority subject pseudo) e =
      no_request (λ payload. request_of payload f) (payload_on f) (λ p. ap (λ (i : Ident). request_with f.tail.tid i p) e)
  asks_none f (Service priority false service destination source) e =
      no_request (λ payload. request_of payload f) (payload_on f) (λ p. ap (λ (i : Ident). request_with f.tail.tid i p) e)
  asks_none f (Service priority true service destination source) e =
      let nowhere : port_on (ports_of plan) f ≡ None =
      ap (λ (i : Ident). port_at (key_of i).kind (key_of i).port (ports_of plan)) e ∙ no_services plan service none in
      ap (λ (o : Option Port). option_and_then (λ payload. request_of payload f) (payload_in (on_port plan f log o))) nowhere

  asks_nobody : (o : Option FrameOf) → option_and_then (λ payload. option_and_then (request_of payload) o) (payload_in (of_frame plan log o)) ≡ None
  asks_nobody None = refl
  asks_nobody (Some f) = asks_none f f.ident refl

-- a record ends no request
ends_none : (plan : Plan) (rec : Record) (file : FileReply) (past : List Step) → services plan ≡ [] → request_at plan (Heard rec file) past ≡ None
ends_none plan rec file past none = asks_nobody plan none (frames plan.node (records past)) (frame_for plan.node rec)

no_ticks : (plan : Plan) (rec : Record) (past : List Record) → plan.silent ≡ true → ticks_before plan rec past ≡ []
no_ticks plan rec past quiet = cond-true plan.silent [] _ quiet

-- a record leaves what is kept as it is, where nothing waits
module _ (plan : Plan) (rec : Record) (file : FileReply) (past : List Step) (mute : IsMute plan) (idle : waiting (kept plan past).queues ≡ 0) where
  pushes_none : pushed plan (Heard rec file) past (kept plan past) ≡ kept plan past
  pushes_none =
      let k = kept plan past in
      ap (λ (r : Option Request). record k { queues = push_all (reply_on plan k.registers file r) k.queues; registers = registers_behind plan r k.registers }) (ends_none plan rec file past mute.no_service)

  keeps_all : kept plan (Heard rec file ∷ past) ≡ kept plan past
  keeps_all =
      ap left pushes_none
      ∙ ap (λ (qs : List Queue). record (kept plan past) { queues = qs }) (all_stay (kept plan past).queues idle)

  lines_are : lines_at plan (Heard rec file) past ≡ got plan rec (records past)
  lines_are =
      let k = kept plan past in
      ap (λ (r : Option Request). (got plan rec (records past) ++ fulls rec.moment (reply_on plan k.registers file r) k.queues) ++ leaving rec.moment (pushed plan (Heard rec file) past k).queues)
      (ends_none plan rec file past mute.no_service)
      ∙ (ap (λ (kept_then : Kept). (got plan rec (records past) ++ []) ++ leaving rec.moment kept_then.queues) pushes_none
      ∙ (ap (λ (t : List Line). (got plan rec (records past) ++ []) ++ t) (none_leaves rec.moment 0 k.queues idle)
      ∙ (append-nil (got plan rec (records past) ++ []) ∙ append-nil (got plan rec (records past)))))

pub mute_keep_nothing : MuteKeepNothing
mute_keep_nothing plan [] mute = (refl, nothing_waits plan.queue plan.buses)
mute_keep_nothing plan (m ∷ past) mute =
    let older = mute_keep_nothing plan past mute in
    let same : kept plan (steps plan (m ∷ past)) ≡ kept plan (steps plan past) =
    ap (λ (t : List Step). kept plan (Heard m.rec m.file ∷ t ++ steps plan past)) (no_ticks plan m.rec (met_records past) mute.silent)
    ∙ keeps_all plan m.rec m.file (steps plan past) mute older.1 in
    (same ∙ older.0, ap (λ (k : Kept). waiting k.queues) same ∙ older.1)

pub mute_receive : MuteReceive
mute_receive plan m past mute =
    ap (λ (t : List Step). lines_behind plan (Heard m.rec m.file ∷ t) (steps plan past)) (no_ticks plan m.rec (met_records past) mute.silent)
    ∙ (lines_are plan m.rec m.file (steps plan past) mute (mute_keep_nothing plan past mute).1
    ∙ ap (got plan m.rec) (records_of_steps plan past))
