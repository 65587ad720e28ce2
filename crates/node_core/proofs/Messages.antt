-- A message on the quick way: what it told, and that it asks nothing
use Rattle.std.proofs.Common.{◌≡◌, ◌<◌, ℕ, Bool, true, false, List, [], ◌∷◌, zero, suc, Option, Some, None, length, refl, sym, subst, arith}
use Rattle.std.proofs.lemmas.Bool.{cond_both}
use Rattle.std.specs.Option.{option_and_then}
use Rattle.can_id.specs.Identifiers.{key_of}
use Rattle.can_id.specs.declared.ident.Ident.{Ident}
use Rattle.can_id.specs.declared.ident.Ident.TheVariants.{Message, Anonymous, Service}
use Rattle.can_id.specs.declared.key.Kind.TheVariants.{Message as message}
use Rattle.tail_frame.specs.Chains.{KeyRecord}
use Rattle.tail_frame.specs.Frames.{FrameOf, key_record, seen}
use Rattle.tail_frame.specs.declared.logged.Record.{Record}
use Rattle.rx_session.specs.Seen.{step_answer}
use Rattle.rx_session.specs.declared.outcome.Begun.{Begun}
use Rattle.rx_session.specs.declared.outcome.Step.{Step}
use Rattle.rx_session.specs.declared.outcome.Step.TheVariants as step
use Rattle.rx_table.specs.Heard.{is_for, if_for, frame_for}
use Rattle.rx_table.specs.Places.{met_nth}
use Rattle.rx_table.specs.Ports.{Answer, NoPort, OfSession}
use Rattle.rx_table.specs.Table.{states}
use Rattle.rx_table.specs.declared.fed.PortMet.TheVariants.{Session}
use Rattle.rx_table.specs.declared.port.Port as code
use Rattle.rx_table.proofs.FoundPorts.{found, found_within}
use Rattle.node_core.specs.Came.{answer_in}
use Rattle.node_core.specs.Quick.{AsksNothing, IsPlaced, quick_is_bad, quick_lines, quick_met}
use Rattle.node_core.specs.Sending.{request_of, request_with}
use Rattle.node_core.specs.Shapes.{shape_extent}
use Rattle.node_core.specs.Steps.{payload_in}
use Rattle.node_core.specs.Told.{answer_is_bad, answer_lines, outcome_lines}
use Rattle.node_core.specs.Types.{type_at}
use Rattle.node_core.specs.declared.node.Node.{Node}
use Rattle.node_core.specs.declared.port_shape.PortShape.{PortShape}
use Rattle.node_core.specs.declared.quick.Quick.{Quick}

-- what is of a message asks nothing
message_none : (tid : ℕ) (ident : Ident) (payload : List ℕ) → (key_of ident).kind ≡ message → request_with tid ident payload ≡ None
message_none tid (Message priority subject source) payload m = refl
message_none tid (Anonymous priority subject pseudo) payload m = refl
message_none tid (Service priority false service destination source) payload m = refl
message_none tid (Service priority true service destination source) payload m = cc

asks_none : (f : FrameOf) (payload : Option (List ℕ)) → (key_of f.ident).kind ≡ message → option_and_then (λ p. option_and_then (request_of p) (Some f)) payload ≡ None
asks_none f None m = refl
asks_none f (Some p) m = message_none f.tail.tid f.ident p m

pub message_asks : (node : Node) (rec : Record) (f : FrameOf) → Some f ≡ frame_for node.plan.node rec → (key_of f.ident).kind ≡ message → AsksNothing node rec
message_asks node rec f e m lines =
    subst (λ (o : Option FrameOf). option_and_then (λ payload. option_and_then (request_of payload) o) (payload_in lines) ≡ None) e (asks_none f (payload_in lines) m)

-- a frame for a node is that of its record
pub for_of : (n : ℕ) (o : Option FrameOf) (f : FrameOf) → Some f ≡ if_for n o → o ≡ Some f
for_of n None f e = cc
for_of n (Some g) f e = cond_both (is_for n g.ident) (Some g) None (λ x. Some f ≡ x → Some g ≡ Some f) (λ _ h. sym h) (λ _ h. cc) e

-- its port is one of the table's
pub placed_within : (node : Node) (q : Quick) → IsPlaced node q → q.place < length node.table.ports.items
placed_within node q there =
    let key = key_of q.frame.ident in
    found_within shape_extent key.kind key.port node.table.ports.items q.place (found shape_extent key.kind key.port node.table.ports.items q.place there)

-- what the table tells of it is what its session made of it
module _ (P : Answer → Type 0) (r : KeyRecord) (index : ℕ) (step : Step) where
  nth : (ports : List (code.Port PortShape)) (place : ℕ) → P NoPort → ((buffer : List ℕ) → P (OfSession (step_answer buffer r step))) → P (met_nth (states shape_extent ports) place r (Session index step))
  nth [] place none some = none
  nth (p ∷ ports) zero none some = some _
  nth (p ∷ ports) (suc place) none some = nth ports place none some

  nth_within : (ports : List (code.Port PortShape)) (place : ℕ) → place < length ports → ((buffer : List ℕ) → P (OfSession (step_answer buffer r step))) → P (met_nth (states shape_extent ports) place r (Session index step))
  nth_within [] place l some = absurd (omega arith)
  nth_within (p ∷ ports) zero l some = some _
  nth_within (p ∷ ports) (suc place) l some = nth_within ports place (omega arith) some

pub by_step : (P : Answer → Type 0) (node : Node) (q : Quick) (step : Step) → q.step ≡ step → P NoPort → ((buffer : List ℕ) → P (OfSession (step_answer buffer (key_record (seen q.frame)) step)))
    → P (answer_in node (seen q.frame) (quick_met q))
by_step P node q step e none some =
    nth P (key_record (seen q.frame)) q.index q.step node.table.ports.items q.place none
    (subst (λ (s : Step). (buffer : List ℕ) → P (OfSession (step_answer buffer (key_record (seen q.frame)) s))) (sym e) some)

pub by_step_placed : (P : Answer → Type 0) (node : Node) (q : Quick) (step : Step) → IsPlaced node q → q.step ≡ step → ((buffer : List ℕ) → P (OfSession (step_answer buffer (key_record (seen q.frame)) step)))
    → P (answer_in node (seen q.frame) (quick_met q))
by_step_placed P node q step there e some =
    nth_within P (key_record (seen q.frame)) q.index q.step node.table.ports.items q.place (placed_within node q there)
    (subst (λ (s : Step). (buffer : List ℕ) → P (OfSession (step_answer buffer (key_record (seen q.frame)) s))) (sym e) some)

-- a step that ends no transfer gives no line, and says whether its transfer is dropped
pub record Silent (node : Node) (q : Quick) (bad : Bool) : Type 0 where
  pub lines : quick_lines node q ≡ []
  pub is_bad : quick_is_bad node q ≡ bad

no_line : (node : Node) (q : Quick) (step : Step) → q.step ≡ step → ((buffer : List ℕ) → outcome_lines (type_at node.table (key_of q.frame.ident)) (key_of q.frame.ident) (step_answer buffer (key_record (seen q.frame)) step) ≡ []) → quick_lines node q ≡ []
no_line node q step e none =
    by_step (λ answer. answer_lines (type_at node.table (key_of q.frame.ident)) (seen q.frame) answer ≡ []) node q step e refl none

pub ignored_says : (node : Node) (q : Quick) → q.step ≡ step.Ignored → Silent node q false
ignored_says node q e = record {
  lines = no_line node q step.Ignored e (λ _. refl);
  is_bad = by_step (λ answer. answer_is_bad answer ≡ false) node q step.Ignored e refl (λ _. refl);
}

pub held_says : (node : Node) (q : Quick) → q.step ≡ step.Held → Silent node q false
held_says node q e = record {
  lines = no_line node q step.Held e (λ _. refl);
  is_bad = by_step (λ answer. answer_is_bad answer ≡ false) node q step.Held e refl (λ _. refl);
}

pub bad_says : (node : Node) (q : Quick) → IsPlaced node q → q.step ≡ step.BadCrc → Silent node q true
bad_says node q there e = record {
  lines = no_line node q step.BadCrc e (λ _. refl);
  is_bad = by_step_placed (λ answer. answer_is_bad answer ≡ true) node q step.BadCrc there e (λ _. refl);
}

-- one that ends a transfer drops none
pub whole_good : (node : Node) (q : Quick) → q.step ≡ step.Whole → quick_is_bad node q ≡ false
whole_good node q e = by_step (λ answer. answer_is_bad answer ≡ false) node q step.Whole e refl (λ _. refl)

pub delivered_good : (node : Node) (q : Quick) (begun : Begun) → q.step ≡ step.Delivered begun → quick_is_bad node q ≡ false
delivered_good node q begun e = by_step (λ answer. answer_is_bad answer ≡ false) node q (step.Delivered begun) e refl (λ _. refl)
