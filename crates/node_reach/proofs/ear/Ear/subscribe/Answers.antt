use Rattle.std.proofs.Common.{◌≡◌, ◌∙◌, List, [], ◌∷◌, ◌++◌, sym, ap, subst}
use Rattle.rx_session.specs.Extents.{bytes_of}
use Rattle.rx_table.specs.Ports.{Port, ports_of}
use Rattle.rx_table.specs.Table.{StandsFor, HeardBy, states, subscribed}
use Rattle.rx_table.specs.Views.{states_of}
use Rattle.rx_table.specs.declared.port.Port as code_port
use Rattle.rx_session.specs.Extents.{extent_bytes}
use Rattle.std_types.specs.Types.{schema_of}
use Rattle.std_types.specs.declared.shape.StdType.{StdType}
use Rattle.node_reach.specs.PortTypes.{type_schema}
use Rattle.node_reach.specs.Transfers.{port_for}
use Rattle.node_reach.proofs.Ears.{ports-append}
use Rattle.node_reach.proofs.Results.{either}
use Rattle.node_reach.proofs.ear.Ear.subscribe.Goals as goal

pub invariant_of-self : goal.invariant_of-self
invariant_of-self c =
    let old = c.args.self.now in
    let new = c.subscribe.new.self in
    record {
      in_time = either _ (new.ports.items ≡ old.table.ports.items) (HeardBy old.latest (states_of type_schema new)) c.subscribe.result
          (λ later. later)
          (λ same. subst (λ (items : List (code_port.Port StdType)). HeardBy old.latest (states (extent_bytes type_schema) items)) (sym same) old.in_time)
          (c.subscribe.ensures.heard old.latest old.in_time) c.subscribe.ensures.err;
    }

pub returns-in-Ok-clause-hears : goal.returns-in-Ok-clause-hears
returns-in-Ok-clause-hears c = λ ears h.
    let old = c.args.self.now in
    let new = c.subscribe.new.self in
    let made = c.in_ok-standard.standard in
    let ok = c.in-Ok.ensures {u = tt} in
    let port : Port = record { kind = c.args.kind; port = c.args.port; sources = 128; extent = bytes_of (type_schema made) } in
    let port_is : port ≡ port_for c.args.kind c.args.port (schema_of c.args.name) =
    (λ i. record { kind = c.args.kind; port = c.args.port; sources = 128; extent = bytes_of ((c.in_ok-standard.ensures {u = tt}).schema i) }) in
    record {
      own = h.own;
      timeout = c.subscribe.ensures.timeout ∙ h.timeout;
      ports = ap ports_of ok.ports
          ∙ (ports-append (states_of type_schema old.table) (subscribed port) ∙ (λ i. h.ports i ++ port_is i ∷ []));
      sessions = subst (λ t. StandsFor t [] (states_of type_schema new)) h.timeout
          (ok.stands (subst (λ t. StandsFor t [] (states_of type_schema old.table)) (sym h.timeout) h.sessions));
      moments = tt;
    }
