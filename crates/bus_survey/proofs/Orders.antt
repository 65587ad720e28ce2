-- The order of flows, as it is compared.
use Rattle.std.proofs.Common.{◌≡◌, ℕ, Option, Some, None, Ordering, Equal, refl, ap, ap₂, subst, arith}
use Rattle.std.specs.Cmp.{IsTotalOrder}
use Rattle.std.specs.Option.{option_cmp}
use Rattle.std.specs.Ordering.{nat_cmp, ordering_then}
use Rattle.std.proofs.lemmas.Map.Lookups.{CmpEqualImpliesEq, exact_unsigned}
use Rattle.bus_survey.specs.Flows.{kind_number, sender_order, flow_order}
use Rattle.bus_survey.specs.contracts.flow.FlowOrd.TheImpl as flow_ord
use Rattle.bus_survey.specs.contracts.flow.FlowOrd.TheImpl.Laws.{total-law}
use Rattle.bus_survey.specs.contracts.flow.FlowKindOrd.TheImpl as kind_ord
use Rattle.bus_survey.specs.contracts.flow.SenderOrd.TheImpl as sender_ord
use Rattle.bus_survey.specs.declared.flow.Flow.{Flow}
use Rattle.bus_survey.specs.declared.flow.FlowKind.{FlowKind}
use Rattle.bus_survey.specs.declared.flow.FlowKind.TheVariants.{Message, Request, Response}
use Rattle.bus_survey.specs.declared.flow.Sender.{Sender}
use Rattle.bus_survey.specs.declared.flow.Sender.TheVariants.{Node, Anonymous}

kinds : (a b : FlowKind) → (kind_ord.ghosts).cmp a b ≡ nat_cmp (kind_number a) (kind_number b)
kinds Message Message = refl
kinds Message Request = refl
kinds Message Response = refl
kinds Request Message = refl
kinds Request Request = refl
kinds Request Response = refl
kinds Response Message = refl
kinds Response Request = refl
kinds Response Response = refl

senders : (a b : Sender) → (sender_ord.ghosts).cmp a b ≡ sender_order a b
senders (Node a) (Node b) = refl
senders (Node a) Anonymous = refl
senders Anonymous (Node b) = refl
senders Anonymous Anonymous = refl

agrees : (a b : Flow) → (flow_ord.ghosts).cmp a b ≡ flow_order a b
agrees a b =
    ap₂ (λ k s. ordering_then k (ordering_then (nat_cmp a.port b.port) (ordering_then s (ordering_then (option_cmp nat_cmp a.destination b.destination) (nat_cmp a.bus b.bus)))))
    (kinds a.kind b.kind) (senders a.sender b.sender)

pub order_is : (flow_ord.ghosts).cmp ≡ flow_order
order_is = λ i. λ a b. agrees a b i

pub flow_order_total : IsTotalOrder flow_order
flow_order_total = subst IsTotalOrder order_is total-law

all_equal : (k p s d b : Ordering) → ordering_then k (ordering_then p (ordering_then s (ordering_then d b))) ≡ Equal → (k ≡ Equal) × (p ≡ Equal) × (s ≡ Equal) × (d ≡ Equal) × (b ≡ Equal)
all_equal Equal Equal Equal Equal b e = (refl, refl, refl, refl, e)
all_equal k p s d b e = cc

same_kind : (a b : FlowKind) → kind_number a ≡ kind_number b → a ≡ b
same_kind Message Message e = refl
same_kind Request Request e = refl
same_kind Response Response e = refl
same_kind a b e = absurd (omega arith)

same_sender : (a b : Sender) → sender_order a b ≡ Equal → a ≡ b
same_sender (Node a) (Node b) e = ap Node (exact_unsigned a b e)
same_sender Anonymous Anonymous e = refl
same_sender a b e = cc

same_receiver : (a b : Option ℕ) → option_cmp nat_cmp a b ≡ Equal → a ≡ b
same_receiver (Some a) (Some b) e = ap Some (exact_unsigned a b e)
same_receiver None None e = refl
same_receiver a b e = cc

-- flows that the order doesn't tell apart are the same
pub flow_order_exact : CmpEqualImpliesEq flow_order
flow_order_exact a b e =
    let parts =
    all_equal (nat_cmp (kind_number a.kind) (kind_number b.kind)) (nat_cmp a.port b.port) (sender_order a.sender b.sender) (option_cmp nat_cmp a.destination b.destination) (nat_cmp a.bus b.bus) e in
    let kind = same_kind a.kind b.kind (exact_unsigned _ _ parts.0) in
    let port = exact_unsigned a.port b.port parts.1 in
    let sender = same_sender a.sender b.sender parts.2 in
    let destination = same_receiver a.destination b.destination parts.3 in
    let bus = exact_unsigned a.bus b.bus parts.4 in
    λ i. record { kind = kind i; port = port i; sender = sender i; destination = destination i; bus = bus i }
