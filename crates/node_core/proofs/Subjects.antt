-- The subject that a message's identifier says, and the port on it
use Rattle.std.proofs.Common.{◌≡◌, ◌≢◌, ◌∙◌, ℕ, true, false, cond, List, Option, Some, None, refl, sym, ap, subst}
use Rattle.std.specs.Prelude.{is_some}
use Rattle.std.proofs.lemmas.Bool.{cond_both, cond-false}
use Rattle.can_id.specs.Identifiers.{is_set, field, is_discarded, service_of, message_of, ident_of, key_of}
use Rattle.can_id.specs.declared.ident.Ident.{Ident}
use Rattle.can_id.specs.declared.ident.Ident.TheVariants.{Message, Anonymous}
use Rattle.can_id.specs.declared.key.Kind.{Kind}
use Rattle.can_id.specs.declared.key.Kind.TheVariants.{Message as message}
use Rattle.tail_frame.specs.declared.logged.Record.{Record}
use Rattle.rx_table.specs.Ports.{Port, port_at}
use Rattle.rx_table.specs.Views.{place_in, subscriptions}
use Rattle.rx_table.proofs.FoundPorts.{not_found}
use Rattle.node_core.specs.Came.{HasPort}
use Rattle.node_core.specs.Heard.{subject_in, IsElsewhere}
use Rattle.node_core.specs.Quick.{LeadsTo}
use Rattle.node_core.specs.Shapes.{port_schema, shape_extent}
use Rattle.node_core.specs.declared.node.Node.{Node}
use Rattle.node_core.proofs.HeardRecords.{is_of}

-- an identifier is of a message on a subject
pub record IsOn (subject : ℕ) (ident : Ident) : Type 0 where
  pub kind : (key_of ident).kind ≡ message
  pub port : (key_of ident).port ≡ subject

message_is_on : (n : ℕ) → IsOn (field n 8 13) (message_of n)
message_is_on n =
    cond_both (is_set n 24) (Anonymous (field n 26 3) (field n 8 13) (field n 0 7)) (Message (field n 26 3) (field n 8 13) (field n 0 7)) (IsOn (field n 8 13))
    (λ _. record { kind = refl; port = refl }) (λ _. record { kind = refl; port = refl })

pub is_on : (n subject : ℕ) (ident : Ident) → subject_in n ≡ Some subject → ident_of n ≡ Some ident → IsOn subject ident
is_on n subject ident s e =
    cond_both (is_set n 25) None (Some (field n 8 13)) (λ o. o ≡ Some subject → IsOn subject ident) (λ _ says. cc)
    (λ is_message says.
    cond_both (is_discarded n) None (cond (is_set n 25) (Some (service_of n)) (Some (message_of n))) (λ o. o ≡ Some ident → IsOn subject ident) (λ _ is. cc)
    (λ _ is.
    let message_is : Some (message_of n) ≡ Some ident = sym (cond-false (is_set n 25) (Some (service_of n)) (Some (message_of n)) is_message) ∙ is in
    let same : message_of n ≡ ident = cc in
    let subject_is : field n 8 13 ≡ subject = cc in
    subst (IsOn subject) same (subst (λ port. IsOn port (message_of n)) subject_is (message_is_on n)))
    e)
    s

none_is : (port : Option Port) → is_some port ≡ false → port ≡ None
none_is None e = refl
none_is (Some p) e = cc

-- where the subject that an identifier says has no port
pub elsewhere : (ports : List Port) (rec : Record) (subject : ℕ) → subject_in rec.ident ≡ Some subject → is_some (port_at message subject ports) ≡ false → IsElsewhere ports rec
elsewhere ports rec subject s none node f e =
    let on = is_on rec.ident subject f.ident s (is_of node rec f e).ident in
    ap (λ (kind : Kind). port_at kind (key_of f.ident).port ports) on.kind
    ∙ (ap (λ port. port_at message port ports) on.port ∙ none_is (port_at message subject ports) none)

some_is : (port : Option Port) → is_some port ≡ true → port ≢ None
some_is None e = absurd cc
some_is (Some p) e = λ none. cc

-- where it has one
pub has_port : (node : Node) (rec : Record) (subject : ℕ) → subject_in rec.ident ≡ Some subject → is_some (port_at message subject (subscriptions port_schema node.table)) ≡ true → HasPort node rec
has_port node rec subject s some other o =
    let same : subject ≡ other = cc in
    subst (λ n. port_at message n (subscriptions port_schema node.table) ≢ None) same (some_is (port_at message subject (subscriptions port_schema node.table)) some)

-- the place of a subject's port is that of each of its frames
pub leads_to : (node : Node) (rec : Record) (subject place : ℕ) → subject_in rec.ident ≡ Some subject → place_in message subject node.table ≡ Some place → LeadsTo node rec place
leads_to node rec subject place s there n f e =
    let on = is_on rec.ident subject f.ident s (is_of n rec f e).ident in
    record {
      kind = on.kind;
      at = ap (λ (kind : Kind). place_in kind (key_of f.ident).port node.table) on.kind ∙ (ap (λ port. place_in message port node.table) on.port ∙ there);
    }

-- and where it has none, they are on none
pub leads_nowhere : (node : Node) (rec : Record) (subject : ℕ) → subject_in rec.ident ≡ Some subject → place_in message subject node.table ≡ None → IsElsewhere (subscriptions port_schema node.table) rec
leads_nowhere node rec subject s at = elsewhere (subscriptions port_schema node.table) rec subject s (ap is_some (not_found shape_extent message subject node.table.ports.items at))
