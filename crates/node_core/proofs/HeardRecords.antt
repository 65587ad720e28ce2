-- What a record came to is what the log says of it.
use Rattle.std.proofs.Common.{◌≡◌, ◌∙◌, ◌<◌, ℕ, ◌-◌, Bool, true, false, not, ◌&&◌, eqb, List, [], length, Option, Some, None, option_map, refl, sym, ap, subst}
use Rattle.std.proofs.lemmas.Bool.{cond_both, eq-eqb}
use Rattle.std.proofs.lemmas.Option.{option_and_then_some}
use Rattle.std.specs.Option.{option_and_then}
use Rattle.can_id.specs.Identifiers.{IsIdent, ident_of}
use Rattle.can_id.specs.declared.ident.Ident.{Ident}
use Rattle.can_id.specs.declared.ident.Ident.TheVariants.{Message, Anonymous, Service}
use Rattle.dsdl_types.proofs.SchemaRules.{schema_sound}
use Rattle.dsdl_types.proofs.StoredReadings.{readings_stored}
use Rattle.std_types.proofs.SchemaRules.{schema_rules}
use Rattle.tail_frame.specs.Frames.{FrameOf, framed, last_byte, is_discarded, tail_of, frame_of}
use Rattle.tail_frame.specs.declared.logged.Record.{Record}
use Rattle.tail_frame.specs.declared.tail.Tail.{Tail}
use Rattle.rx_table.specs.Keys.{KeyedFrame}
use Rattle.rx_table.specs.Table.{port_on}
use Rattle.rx_table.specs.declared.fed.Met.{Met}
use Rattle.node_core.specs.Came.{answer_in, frame_with, heard_is_bad, met_lines, came_lines, came_request, HasPort, IsHeardAs, IsMetAs}
use Rattle.rx_table.specs.Heard.{is_for, if_for, frame_for, frames}
use Rattle.node_core.specs.Heard.{ports_of}
use Rattle.node_core.specs.Questions.{FitsQuestion, question_in}
use Rattle.node_core.specs.Sending.{IsRequestTo, request_of, request_that, request_with}
use Rattle.node_core.specs.Stands.{StandsAt, Stands}
use Rattle.node_core.specs.Steps.{on_port, of_frame, got, payload_in, request_on, bad_of_frame, bad_on_port, is_bad_at}
use Rattle.node_core.specs.Told.{answer_is_bad}
use Rattle.node_core.specs.declared.came.Came.{Came}
use Rattle.report_lines.specs.declared.line.Line.{Line}
use Rattle.node_core.specs.declared.node.Node.{Node}
use Rattle.node_core.specs.declared.question.Question.{Question}
use Rattle.node_core.specs.declared.request.Request.{Request}
use Rattle.node_core.proofs.Questions.{ReadingLaws, request_fits}

-- a frame is its record with its identifier and its tail
pub record IsOf (rec : Record) (f : FrameOf) : Type 0 where
  pub whole : frame_with rec f.ident f.tail ≡ f
  pub ident : ident_of rec.ident ≡ Some f.ident

of_byte : (rec : Record) (ident : Ident) (byte : Option ℕ) (f : FrameOf) → ident_of rec.ident ≡ Some ident
    → option_and_then (framed rec ident) byte ≡ Some f → IsOf rec f
of_byte rec ident None f is e = cc
of_byte rec ident (Some byte) f is e =
    let g : FrameOf = frame_with rec ident (tail_of byte) in
    cond_both (is_discarded ident (tail_of byte) (length rec.bytes - 1)) None (Some g) (λ o. o ≡ Some f → IsOf rec f)
    (λ _ n. cc) (λ _ n. let it : g ≡ f = cc in subst (IsOf rec) it (record { whole = refl; ident = is })) e

of_ident : (rec : Record) (ident : Option Ident) (f : FrameOf) → ident_of rec.ident ≡ ident
    → option_and_then (λ i. option_and_then (framed rec i) (last_byte rec.bytes)) ident ≡ Some f → IsOf rec f
of_ident rec None f is e = cc
of_ident rec (Some ident) f is e = of_byte rec ident (last_byte rec.bytes) f is e

of_node : (node : ℕ) (rec : Record) (heard : Option FrameOf) (f : FrameOf) → ((g : FrameOf) → heard ≡ Some g → IsOf rec g) → if_for node heard ≡ Some f → IsOf rec f
of_node node rec None f is e = cc
of_node node rec (Some g) f is e =
    cond_both (is_for node g.ident) (Some g) None (λ o. o ≡ Some f → IsOf rec f) (λ _ n. is f n) (λ _ n. cc) e

pub is_of : (node : ℕ) (rec : Record) (f : FrameOf) → frame_for node rec ≡ Some f → IsOf rec f
is_of node rec f e = of_node node rec (frame_of rec) f (λ g. of_ident rec (ident_of rec.ident) g refl) e

-- what a frame came to is what its record came to
pub heard_as : (old new : Node) (rec : Record) (f : FrameOf) (met : Met) → Some f ≡ frame_for old.plan.node rec → HasPort old rec → IsMetAs old new f met
    → IsHeardAs old new rec (Some (record { ident = f.ident; tail = f.tail; met = met }))
unfolding IsHeardAs
heard_as old new rec f met frame_is port h =
    let whole = (is_of old.plan.node rec f (sym frame_is)).whole in
    (sym frame_is ∙ ap (λ (g : FrameOf). Some g) (sym whole), (port, subst (λ (g : FrameOf). IsMetAs old new g met) (sym whole) h))

-- and a record that is no frame for the node came to none
pub none_heard : (old new : Node) (rec : Record) → None ≡ frame_for old.plan.node rec → IsHeardAs old new rec None
unfolding IsHeardAs
none_heard old new rec e f is = cc

-- what a frame came to gives the lines of its record
pub heard_got : (old new : Node) (rec : Record) (f : FrameOf) (met : Met) (badcrc : Bool) → Some f ≡ frame_for old.plan.node rec
    → ((log : List KeyedFrame) → StandsAt old log → met_lines new f met ≡ on_port old.plan f log (port_on (ports_of old.plan) f))
    → (past : List Record) → Stands old past
    → came_lines new rec (record { badcrc = badcrc; heard = Some (record { ident = f.ident; tail = f.tail; met = met }) }) ≡ got old.plan rec past
unfolding came_lines
heard_got old new rec f met badcrc frame_is h past s =
    ap (λ (g : FrameOf). met_lines new g met) (is_of old.plan.node rec f (sym frame_is)).whole
    ∙ (h (frames old.plan.node past) s ∙ ap (of_frame old.plan (frames old.plan.node past)) frame_is)

-- and says whether a transfer ended whose bytes don't fit their CRC
pub heard_bad : (old new : Node) (rec : Record) (f : FrameOf) (met : Met) (bad : Bool) → Some f ≡ frame_for old.plan.node rec
    → bad ≡ heard_is_bad new rec (record { ident = f.ident; tail = f.tail; met = met })
    → ((log : List KeyedFrame) → StandsAt old log → answer_is_bad (answer_in new f met) ≡ bad_on_port old.plan.timeout f log (port_on (ports_of old.plan) f))
    → (past : List Record) → Stands old past → bad ≡ is_bad_at old.plan rec past
heard_bad old new rec f met bad frame_is b h past s =
    b ∙ (ap (λ (g : FrameOf). answer_is_bad (answer_in new g met)) (is_of old.plan.node rec f (sym frame_is)).whole
    ∙ (h (frames old.plan.node past) s ∙ ap (bad_of_frame old.plan (frames old.plan.node past)) frame_is))

pub none_got : (node : Node) (rec : Record) (badcrc : Bool) → None ≡ frame_for node.plan.node rec
    → (past : List Record) → came_lines node rec (record { badcrc = badcrc; heard = None }) ≡ got node.plan rec past
unfolding came_lines
none_got node rec badcrc e past = ap (of_frame node.plan (frames node.plan.node past)) e

apart : (same rest : Bool) → (not same && rest) ≡ true → same ≡ true → ⊥
apart true rest e h = absurd cc
apart false rest e h = absurd cc

-- what a record without a frame for the node asks, and one whose lines are none, is what the log says
pub none_asks : (node : Node) (rec : Record) (badcrc : Bool) (lines : List Line) → None ≡ frame_for node.plan.node rec
    → came_request (record { badcrc = badcrc; heard = None }) lines ≡ request_on node.plan rec lines
none_asks node rec badcrc lines e =
    ap (λ (o : Option FrameOf). option_and_then (λ payload. option_and_then (request_of payload) o) (payload_in lines)) e

pub nothing_asks : (node : Node) (rec : Record) (came : Came) (lines : List Line) → [] ≡ lines
    → came_request came lines ≡ request_on node.plan rec lines
nothing_asks node rec came lines e =
    let P : List Line → Type 0 = λ given. came_request came given ≡ request_on node.plan rec given in subst P e refl

-- and so is what a frame for the node asks
pub heard_asks : (node : Node) (rec : Record) (f : FrameOf) (met : Met) (badcrc : Bool) (lines : List Line) → Some f ≡ frame_for node.plan.node rec
    → came_request (record { badcrc = badcrc; heard = Some (record { ident = f.ident; tail = f.tail; met = met }) }) lines ≡ request_on node.plan rec lines
heard_asks node rec f met badcrc lines e =
    ap (λ (o : Option FrameOf). option_and_then (λ payload. option_and_then (request_of payload) o) (payload_in lines)) e

-- the standard types keep the rules, and so what is read of one is a value of it
reading_laws : ReadingLaws
reading_laws = record { rules = schema_rules; suffice = schema_sound; stored = readings_stored }

-- a request that asks something
asked_that : (service client priority tid : ℕ) (o : Option Question) (r : Request) → option_map (request_that service client priority tid) o ≡ Some r
    → (q : Question) × (request_that service client priority tid q ≡ r)
asked_that service client priority tid None r e = cc
asked_that service client priority tid (Some q) r e = (q, cc)

-- the request that a frame for the node is of is of another node, in its ranges, and asks a value of its type
asks_with : (node tid : ℕ) (ident : Ident) (payload : List ℕ) (r : Request) → IsIdent ident → is_for node ident ≡ true → tid < 32
    → request_with tid ident payload ≡ Some r → IsRequestTo node r
asks_with node tid (Message priority subject source) payload r ranges own short e = cc
asks_with node tid (Anonymous priority subject pseudo) payload r ranges own short e = cc
asks_with node tid (Service priority false service destination source) payload r ranges own short e = cc
asks_with node tid (Service priority true service destination source) payload r ranges own short e =
    let that = asked_that service source priority tid (question_in service payload) r e in
    let fits = request_fits reading_laws tid (Service priority true service destination source) payload r e in
    subst (IsRequestTo node) that.1 (record {
      service = ranges.1;
      client = ranges.3;
      other = λ same. apart (eqb source node) (eqb destination node) own (eq-eqb source node same);
      priority = ranges.0;
      tid = short;
      question = subst (λ (x : Request). FitsQuestion x.question) (sym that.1) fits;
    })

pub asks : (node : ℕ) (badcrc : Bool) (ident : Ident) (tail : Tail) (met : Met) (lines : List Line) (r : Request) → IsIdent ident → is_for node ident ≡ true → tail.tid < 32
    → came_request (record { badcrc = badcrc; heard = Some (record { ident = ident; tail = tail; met = met }) }) lines ≡ Some r → IsRequestTo node r
asks node badcrc ident tail met lines r ranges own short e =
    option_and_then_some (request_with tail.tid ident) (payload_in lines) r e
    (λ payload _ n. asks_with node tail.tid ident payload r ranges own short n)
