-- A record on no port.
use Rattle.std.proofs.Common.{◌≡◌, ◌∙◌, false, List, [], ◌∷◌, Option, Some, None, refl, sym, ap}
use Rattle.can_id.specs.Identifiers.{key_of}
use Rattle.tail_frame.specs.Frames.{FrameOf}
use Rattle.tail_frame.specs.declared.logged.Record.{Record}
use Rattle.rx_table.specs.Ports.{Port}
use Rattle.rx_table.specs.Table.{port_on}
use Rattle.rx_table.specs.Views.{states_of, subscriptions}
use Rattle.rx_table.proofs.Told.{stands-none}
use Rattle.rx_table.specs.Heard.{frame_for, with_frame, frames}
use Rattle.node_core.specs.Heard.{ports_of, IsElsewhere}
use Rattle.node_core.specs.Shapes.{port_schema}
use Rattle.node_core.specs.Stands.{StandsAt, Stands, Takes, Gives, TellsBadCrc}
use Rattle.node_core.specs.Steps.{on_port, of_frame, bad_on_port, bad_of_frame}
use Rattle.node_core.specs.declared.node.Node.{Node}

module _ (node : Node) (rec : Record) (out : IsElsewhere (subscriptions port_schema node.table) rec) (past : List Record) (s : Stands node past) where
  stands_with : (o : Option FrameOf) → frame_for node.plan.node rec ≡ o → StandsAt node (with_frame o (frames node.plan.node past))
  stands_with None e = s
  stands_with (Some f) e = record {
    timeout = s.timeout;
    ports_are = s.ports_are;
    types = s.types;
    sessions = stands-none node.plan.timeout f (key_of f.ident) refl (states_of port_schema node.table) (frames node.plan.node past) (out node.plan.node f e) s.sessions;
  }

  pub still_stands : Stands node (rec ∷ past)
  still_stands = stands_with (frame_for node.plan.node rec) refl

  nowhere : (f : FrameOf) → frame_for node.plan.node rec ≡ Some f → port_on (ports_of node.plan) f ≡ None
  nowhere f e = ap (λ (ports : List Port). port_on ports f) (sym s.ports_are) ∙ out node.plan.node f e

  lines_with : (o : Option FrameOf) → frame_for node.plan.node rec ≡ o → of_frame node.plan (frames node.plan.node past) o ≡ []
  lines_with None e = refl
  lines_with (Some f) e = ap (on_port node.plan f (frames node.plan.node past)) (nowhere f e)

  bad_with : (o : Option FrameOf) → frame_for node.plan.node rec ≡ o → bad_of_frame node.plan (frames node.plan.node past) o ≡ false
  bad_with None e = refl
  bad_with (Some f) e = ap (bad_on_port node.plan.timeout f (frames node.plan.node past)) (nowhere f e)

-- a node takes it as it is
pub takes_by : (node : Node) (rec : Record) → IsElsewhere (subscriptions port_schema node.table) rec → Takes rec node node
takes_by node rec out past s = still_stands node rec out past s

-- it gives no line
pub gives_none : (node : Node) (rec : Record) → IsElsewhere (subscriptions port_schema node.table) rec → Gives node rec []
gives_none node rec out past s = sym (lines_with node rec out past s (frame_for node.plan.node rec) refl)

-- and ends no transfer
pub ends_none : (node : Node) (rec : Record) → IsElsewhere (subscriptions port_schema node.table) rec → TellsBadCrc node rec false
ends_none node rec out past s = sym (bad_with node rec out past s (frame_for node.plan.node rec) refl)
