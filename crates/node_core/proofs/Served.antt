-- What a tree tells for the requests of a log.
use Rattle.std.proofs.Common.{◌≡◌, ◌∙◌, inl, ℕ, Bool, true, false, eqb, cond, List, [], ◌∷◌, ◌++◌, map, Option, Some, None, option_map, refl, sym, ap, subst}
use Rattle.std.specs.Prelude.{is_some}
use Rattle.std.specs.Option.{option_and_then}
use Rattle.std.proofs.lemmas.Bool.{cond_both, cond-false}
use Rattle.std.proofs.lemmas.Option.{option_and_then_some}
use Rattle.can_id.specs.Identifiers.{key_of}
use Rattle.can_id.specs.declared.ident.Ident.{Ident}
use Rattle.can_id.specs.declared.ident.Ident.TheVariants.{Message, Anonymous, Service}
use Rattle.can_id.specs.declared.key.Kind.TheVariants.{Request as request}
use Rattle.cy_outside.specs.Files.{Files as TreeFiles}
use Rattle.dsdl_types.specs.Values.{Val}
use Rattle.file_service.specs.Laws.{AnswerLaws}
use Rattle.file_service.specs.Paths.{place_of}
use Rattle.file_service.specs.Replies.{IsInfo, IsListing, IsRead, info_answer, info_reply, invalid, io_error, list_answer, no_bytes, no_info, no_name, read_answer, read_reply}
use Rattle.file_service.specs.Standing.{Folder}
use Rattle.file_service.specs.declared.done.ListDone.{ListDone}
use Rattle.file_service.specs.declared.place.Place.{Place}
use Rattle.file_service.specs.declared.place.Place.TheVariants.{Invalid, Root, At}
use Rattle.node_plan.specs.Ports.{PlanPort, file_services, port_of_service, port_of_sub, register_services, service, services, status_services}
use Rattle.node_plan.specs.declared.plan.Plan.{Plan}
use Rattle.node_plan.specs.declared.plan.Sub.{Sub}
use Rattle.node_plan.specs.declared.services.Service.{Service as PlanService}
use Rattle.rx_table.specs.Heard.{frame_for, frames}
use Rattle.rx_table.specs.Keys.{KeyedFrame}
use Rattle.rx_table.specs.Ports.{Port, port_at}
use Rattle.rx_table.specs.Table.{port_on}
use Rattle.wire_values.specs.Payloads.{payload_value}
use Rattle.std_types.specs.Schemas.{access_request, list_request}
use Rattle.std_types.specs.declared.file.InfoReply.{InfoReply}
use Rattle.std_types.specs.declared.file.ReadReply.{ReadReply}
use Rattle.std_types.specs.declared.registers.Register.{Register}
use Rattle.std_types.specs.declared.std_name.StdName.TheVariants as N
use Rattle.tail_frame.specs.Frames.{FrameOf}
use Rattle.tail_frame.specs.declared.logged.Record.{Record}
use Rattle.node_core.specs.Files.{IsServed, Tells, is_failed, root_of}
use Rattle.node_core.specs.Heard.{ports_of, table_port}
use Rattle.node_core.specs.Laws.{NothingServed, ServedOnce, SomethingServed, failures_of}
use Rattle.node_core.specs.Questions.{access_of, file_question_in, listing_of, question_in}
use Rattle.node_core.specs.Sending.{request_of, request_that, request_with}
use Rattle.node_core.specs.Steps.{AreServed, Heard, IsServedAt, Met, Step, got, met_records, of_frame, on_port, payload_in, records, request_at, request_on, steps, ticks_before}
use Rattle.node_core.specs.declared.file_reply.FileReply.{FileReply}
use Rattle.node_core.specs.declared.file_reply.FileReply.TheVariants.{NoFile, Info as InfoTold, Name, Bytes}
use Rattle.node_core.specs.declared.question.Question.{Question}
use Rattle.node_core.specs.declared.question.Question.TheVariants.{Info, Access, Listing, FileInfo, FileName, FileBytes, Unsupported}
use Rattle.node_core.specs.declared.request.Request.{Request}

-- ---- a node that serves no files

-- services of other numbers than this one
abbrev AreOther : ℕ → List PlanService → Type 0
AreOther port [] = Unit {0}
AreOther port (s ∷ ss) = (eqb port s.port ≡ false) × AreOther port ss

others_join : (port : ℕ) (newer older : List PlanService) → AreOther port newer → AreOther port older → AreOther port (newer ++ older)
others_join port [] older n o = o
others_join port (s ∷ newer) older n o = (n.0, others_join port newer older n.1 o)

no_port : (port : ℕ) (ss : List PlanService) → AreOther port ss → port_at request port (map table_port (map port_of_service ss)) ≡ None
no_port port [] h = refl
no_port port (s ∷ ss) h =
    cond-false (eqb port s.port) (Some (table_port (port_of_service s))) (port_at request port (map table_port (map port_of_service ss))) h.0
    ∙ no_port port ss h.1

behind_subs : (subs : List Sub) (ps : List PlanPort) (port : ℕ)
    → port_at request port (map table_port (map port_of_sub subs ++ ps)) ≡ port_at request port (map table_port ps)
behind_subs [] ps port = refl
behind_subs (sub ∷ subs) ps port = behind_subs subs ps port

-- where no files are served, requests come on the ports of information and registers alone
module _ (plan : Plan) (none : plan.serve ≡ None) (port : ℕ) (info : eqb port 430 ≡ false) (access : eqb port 384 ≡ false) (listing : eqb port 385 ≡ false) where
  status_others : AreOther port (status_services plan)
  status_others =
      cond_both plan.silent [] (service plan 430 (Some N.NodeInfoRequest) ∷ []) (AreOther port) (λ _. tt) (λ _. (info, tt))

  register_others : (rs : List Register) → AreOther port (register_services (record plan { registers = rs }))
  register_others [] = tt
  register_others (r ∷ rs) = (access, (listing, tt))

  file_others : AreOther port (file_services plan)
  file_others =
      let serving : List PlanService =
      service plan 405 (Some N.InfoRequest) ∷ service plan 406 (Some N.FileListRequest) ∷ service plan 407 None ∷ service plan 408 (Some N.ReadRequest) ∷ service plan 409 None ∷ [] in
      subst (AreOther port) (sym (ap (λ (o : Option (List ℕ)). cond (is_some o) serving []) none)) tt

  services_others : AreOther port (services plan)
  services_others =
      others_join port (status_services plan ++ register_services plan) (file_services plan)
      (others_join port (status_services plan) (register_services plan) status_others (register_others plan.registers)) file_others

  nowhere : port_at request port (ports_of plan) ≡ None
  nowhere = behind_subs plan.subs (map port_of_service (services plan)) port ∙ no_port port (services plan) services_others

-- for a question of no file nothing is told
abbrev IsOfNoFile : Question → Type 0
IsOfNoFile q = (told : Option TreeFiles) (root : List ℕ) (file : FileReply) → Tells told root q file → file ≡ NoFile

info_asked : (q : Question) → Some Info ≡ Some q → IsOfNoFile q
info_asked q e =
    let it : Info ≡ q = cc in
    subst IsOfNoFile it (λ told root file t. t)

access_asked : (o : Option Val) (q : Question) → option_map access_of o ≡ Some q → IsOfNoFile q
access_asked None q e = cc
access_asked (Some v) q e =
    let it : access_of v ≡ q = cc in
    subst IsOfNoFile it (λ told root file t. t)

listing_asked : (o : Option Val) (q : Question) → option_map listing_of o ≡ Some q → IsOfNoFile q
listing_asked None q e = cc
listing_asked (Some v) q e =
    let it : listing_of v ≡ q = cc in
    subst IsOfNoFile it (λ told root file t. t)

-- what a request asks, by the question that it was made of
asked_by : (service client priority tid : ℕ) (o : Option Question) (r : Request) → option_map (request_that service client priority tid) o ≡ Some r → o ≡ Some r.question
asked_by service client priority tid None r e = cc
asked_by service client priority tid (Some q) r e =
    let it : request_that service client priority tid q ≡ r = cc in
    ap (λ (x : Request). Some x.question) it

module _ (plan : Plan) (none : plan.serve ≡ None) (log : List KeyedFrame) where
  abbrev payload_on : FrameOf → Option (List ℕ)
  payload_on f = payload_in (on_port plan f log (port_on (ports_of plan) f))

  -- a request on another port has no payload
  no_payload : (f : FrameOf) (priority service destination source : ℕ) → f.ident ≡ Service priority true service destination source
      → eqb service 430 ≡ false → eqb service 384 ≡ false → eqb service 385 ≡ false → payload_on f ≡ None
  no_payload f priority service destination source e info access listing =
      let out : port_on (ports_of plan) f ≡ None =
      ap (λ (i : Ident). port_at (key_of i).kind (key_of i).port (ports_of plan)) e ∙ nowhere plan none service info access listing in
      ap (λ (o : Option Port). payload_in (on_port plan f log o)) out

  service_asks : (f : FrameOf) (priority service destination source : ℕ) (payload : List ℕ) (q : Question) → f.ident ≡ Service priority true service destination source
      → payload_on f ≡ Some payload → question_in service payload ≡ Some q → IsOfNoFile q
  service_asks f priority service destination source payload q e got_is =
      let registers = cond (eqb service 385) (option_map listing_of (payload_value list_request payload)) (file_question_in service payload) in
      let rest = cond (eqb service 384) (option_map access_of (payload_value access_request payload)) registers in
      cond_both (eqb service 430) (Some Info) rest (λ (o : Option Question). o ≡ Some q → IsOfNoFile q)
      (λ _. info_asked q)
      (λ info. cond_both (eqb service 384) (option_map access_of (payload_value access_request payload)) registers (λ (o : Option Question). o ≡ Some q → IsOfNoFile q)
      (λ _. access_asked (payload_value access_request payload) q)
      (λ access. cond_both (eqb service 385) (option_map listing_of (payload_value list_request payload)) (file_question_in service payload) (λ (o : Option Question). o ≡ Some q → IsOfNoFile q)
      (λ _. listing_asked (payload_value list_request payload) q)
      (λ listing _. let out = no_payload f priority service destination source e info access listing in absurd cc)))

  frame_asks : (f : FrameOf) (ident : Ident) (payload : List ℕ) (r : Request) → f.ident ≡ ident → payload_on f ≡ Some payload
      → request_with f.tail.tid ident payload ≡ Some r → IsOfNoFile r.question
  frame_asks f (Message priority subject source) payload r is got_is e = cc
  frame_asks f (Anonymous priority subject pseudo) payload r is got_is e = cc
  frame_asks f (Service priority false service destination source) payload r is got_is e = cc
  frame_asks f (Service priority true service destination source) payload r is got_is e =
      service_asks f priority service destination source payload r.question is got_is (asked_by service source priority f.tail.tid (question_in service payload) r e)

  no_file_asked : (o : Option FrameOf) (r : Request) → option_and_then (λ payload. option_and_then (request_of payload) o) (payload_in (of_frame plan log o)) ≡ Some r
      → IsOfNoFile r.question
  no_file_asked None r e =
      let none_of : List ℕ → Option Request = λ payload. None in
      option_and_then_some none_of (payload_in (of_frame plan log None)) r e (λ payload _ n. cc)
  no_file_asked (Some f) r e =
      option_and_then_some (λ payload. request_of payload f) (payload_on f) r e (λ payload got_is n. frame_asks f f.ident payload r refl got_is n)

of_no_file : (told : Option TreeFiles) (plan : Plan) (o : Option Request) (file : FileReply) → ((r : Request) → o ≡ Some r → IsOfNoFile r.question)
    → IsServed told plan o file → file ≡ NoFile
of_no_file told plan None file none served = served
of_no_file told plan (Some r) file none served = none r refl told (root_of plan.serve) file served

none_told : (told : Option TreeFiles) (plan : Plan) (rec : Record) (file : FileReply) (past : List Step) → plan.serve ≡ None
    → IsServedAt told plan (Heard rec file) past → file ≡ NoFile
none_told told plan rec file past none =
    of_no_file told plan (request_at plan (Heard rec file) past) file (no_file_asked plan none (frames plan.node (records past)) (frame_for plan.node rec))

older_served : (told : Option TreeFiles) (plan : Plan) (newer older : List Step) → AreServed told plan (newer ++ older) → AreServed told plan older
older_served told plan [] older s = s
older_served told plan (step ∷ newer) older s = older_served told plan newer older s.1

pub nothing_served : NothingServed
nothing_served told plan [] none s = refl
nothing_served told plan (m ∷ past) none s =
    let ticks = ticks_before plan m.rec (met_records past) in
    let here : m.file ≡ NoFile = none_told told plan m.rec m.file (ticks ++ steps plan past) none s.0 in
    let before = nothing_served told plan past none (older_served told plan ticks (steps plan past) s.1) in
    λ i. record { rec = m.rec; file = here i } ∷ before i

-- ---- a tree that tells its files

-- what is told for a question, by the files and whether the tree failed
abbrev told_of : TreeFiles → Bool → List ℕ → Question → FileReply
told_of files failed root (FileInfo asked) = InfoTold (info_answer files failed (place_of root asked.path))
told_of files failed root (FileName asked) = Name (list_answer files failed root (place_of root asked.directory_path) asked.entry_index)
told_of files failed root (FileBytes asked) = Bytes (read_answer files failed (place_of root asked.path) asked.offset)
told_of files failed root other = NoFile

told_is : (files : TreeFiles) → AnswerLaws files → (root : List ℕ) (q : Question) (file : FileReply) → Tells (Some files) root q file
    → file ≡ told_of files (is_failed file) root q
told_is files laws root Info file t = t
told_is files laws root (Access asked) file t = t
told_is files laws root (Listing asked) file t = t
told_is files laws root (FileInfo asked) NoFile t = absurd t
told_is files laws root (FileInfo asked) (InfoTold reply) t = ap InfoTold (laws.info (place_of root asked.path) reply t)
told_is files laws root (FileInfo asked) (Name done) t = absurd t
told_is files laws root (FileInfo asked) (Bytes reply) t = absurd t
told_is files laws root (FileName asked) NoFile t = absurd t
told_is files laws root (FileName asked) (InfoTold reply) t = absurd t
told_is files laws root (FileName asked) (Name done) t = ap Name (laws.list root (place_of root asked.directory_path) asked.entry_index done t)
told_is files laws root (FileName asked) (Bytes reply) t = absurd t
told_is files laws root (FileBytes asked) NoFile t = absurd t
told_is files laws root (FileBytes asked) (InfoTold reply) t = absurd t
told_is files laws root (FileBytes asked) (Name done) t = absurd t
told_is files laws root (FileBytes asked) (Bytes reply) t = ap Bytes (laws.read (place_of root asked.path) asked.offset reply t)
told_is files laws root Unsupported file t = t

one_reply : (files : TreeFiles) → AnswerLaws files → (plan : Plan) (o : Option Request) (a b : FileReply) → is_failed a ≡ is_failed b
    → IsServed (Some files) plan o a → IsServed (Some files) plan o b → a ≡ b
one_reply files laws plan None a b same sa sb = sa ∙ sym sb
one_reply files laws plan (Some r) a b same sa sb =
    let root = root_of plan.serve in
    told_is files laws root r.question a sa
    ∙ (ap (λ failed. told_of files failed root r.question) same ∙ sym (told_is files laws root r.question b sb))

-- the request that a record ends behind these
abbrev request_behind : Plan → Record → List Met → Option Request
request_behind plan rec past = request_on plan rec (got plan rec (records (ticks_before plan rec (met_records past) ++ steps plan past)))

pub served_once : ((files : TreeFiles) → AnswerLaws files) → ServedOnce
served_once laws files plan [] [] rs fs sa sb = refl
served_once laws files plan [] (n ∷ b) rs fs sa sb = absurd cc
served_once laws files plan (m ∷ a) [] rs fs sa sb = absurd cc
served_once laws files plan (m ∷ a) (n ∷ b) rs fs sa sb =
    let rec_is : m.rec ≡ n.rec = cc in
    let recs_are : met_records a ≡ met_records b = cc in
    let same : is_failed m.file ≡ is_failed n.file = cc in
    let all_same : failures_of a ≡ failures_of b = cc in
    let past_is : a ≡ b =
    served_once laws files plan a b recs_are all_same (older_served (Some files) plan (ticks_before plan m.rec (met_records a)) (steps plan a) sa.1)
    (older_served (Some files) plan (ticks_before plan n.rec (met_records b)) (steps plan b) sb.1) in
    let asks : request_behind plan m.rec a ≡ request_behind plan n.rec b =
    ap (λ (rec : Record). request_behind plan rec a) rec_is ∙ ap (request_behind plan n.rec) past_is in
    let file_is : m.file ≡ n.file =
    one_reply files (laws files) plan (request_behind plan n.rec b) m.file n.file same (subst (λ (o : Option Request). IsServed (Some files) plan o m.file) asks sa.0) sb.0 in
    λ i. record { rec = rec_is i; file = file_is i } ∷ past_is i

-- ---- what a tree may always tell

some_info : (told : Option TreeFiles) (place : Place) → (reply : InfoReply) × IsInfo told place reply
some_info told Invalid = (no_info invalid, refl)
some_info told Root = (info_reply Folder, refl)
some_info told (At path) = (no_info io_error, inl refl)

some_name : (told : Option TreeFiles) (root : List ℕ) (place : Place) (index : ℕ) → (done : ListDone) × IsListing told root place index done
some_name told root Invalid index = (no_name false, refl)
some_name told root Root index = (no_name true, inl refl)
some_name told root (At path) index = (no_name true, inl refl)

some_bytes : (told : Option TreeFiles) (place : Place) (offset : ℕ) → (reply : ReadReply) × IsRead told place offset reply
some_bytes told Invalid offset = (no_bytes invalid, refl)
some_bytes told Root offset = (read_reply Folder offset, refl)
some_bytes told (At path) offset = (no_bytes io_error, inl refl)

something_told : (told : Option TreeFiles) (root : List ℕ) (q : Question) → (file : FileReply) × Tells told root q file
something_told told root Info = (NoFile, refl)
something_told told root (Access asked) = (NoFile, refl)
something_told told root (Listing asked) = (NoFile, refl)
something_told told root (FileInfo asked) =
    let some = some_info told (place_of root asked.path) in
    (InfoTold some.0, some.1)
something_told told root (FileName asked) =
    let some = some_name told root (place_of root asked.directory_path) asked.entry_index in
    (Name some.0, some.1)
something_told told root (FileBytes asked) =
    let some = some_bytes told (place_of root asked.path) asked.offset in
    (Bytes some.0, some.1)
something_told told root Unsupported = (NoFile, refl)

something_for : (told : Option TreeFiles) (plan : Plan) (o : Option Request) → (file : FileReply) × IsServed told plan o file
something_for told plan None = (NoFile, refl)
something_for told plan (Some r) = something_told told (root_of plan.serve) r.question

pub something_served : SomethingServed
something_served told plan rec past = something_for told plan (request_on plan rec (got plan rec (records past)))
