use Rattle.std.proofs.Common.{◌≡◌, ℕ, eqb, cond, List, Option, Some, None, option_map, sym, subst, arith}
use Rattle.std.proofs.lemmas.Bool.{cond-true, cond-false, eq-eqb, ne_eqb}
use Rattle.net_monitor.specs.Beats.{Beat}
use Rattle.time_sync.specs.Pairs.{Message}
use Rattle.wire_values.specs.Payloads.{payload_value}
use Rattle.std_types.specs.Types.{schema_of}
use Rattle.std_types.specs.declared.std_name.StdName.TheVariants.{Heartbeat, Synchronization}
use Rattle.node_reach.specs.Monitored.{beat_in, add_message}
use Rattle.node_reach.specs.Monitors.{Learns, LearnsBeat, Renews}
use Rattle.node_reach.specs.Told.{owned}
use Rattle.node_reach.proofs.Results.{if_ok}
use Rattle.node_reach.proofs.network.Network.take.Goals as goal

of_beats : (port : ℕ) (o : Option Beat) → 7509 ≡ port → o ≡ cond (eqb port 7509) o None
of_beats port o e = sym (cond-true (eqb port 7509) o None (eq-eqb port 7509 (sym e)))

of_messages : (port : ℕ) (xs ys : List Message) → 7509 ≡ port → ys ≡ cond (eqb port 7168) xs ys
of_messages port xs ys e = sym (cond-false (eqb port 7168) xs ys (ne_eqb port 7168 (λ f. absurd (omega arith))))

pub returns-in-7509 : goal.returns-in-7509
returns-in-7509 c =
    let t = owned c.args.transfer in
    let old = c.args.self.now in
    let new = c.take_beat.new.self in
    let port : 7509 ≡ t.key.port = omega (arith, c.in-7509.is) in
    record {
      learns = if_ok (LearnsBeat t old new) (Learns c.args.moment (Some t) old new) c.take_beat.result (λ r h. λ beats messages begun knows.
          let beat : Option Beat = option_map (beat_in t beats) (payload_value (schema_of Heartbeat) t.payload) in
          subst (λ (o : Option Beat). Renews o beats (cond (eqb t.key.port 7168) (add_message t messages (payload_value (schema_of Synchronization) t.payload)) messages) new r) (of_beats t.key.port beat port)
          (subst (λ (ms : List Message). Renews beat beats ms new r) (of_messages t.key.port (add_message t messages (payload_value (schema_of Synchronization) t.payload)) messages port) (h beats messages knows)))
          c.take_beat.ensures.learns;
    }
