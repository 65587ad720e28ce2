-- The frame of a record, and the port that it is on.
use Rattle.std.proofs.Common.{◌≡◌, ◌∙◌, ℕ, suc, not, Bool, true, false, eqb, List, [], ◌∷◌, Some, None, option_map, refl, sym, ap, subst, position, arith}
use Rattle.std.proofs.lemmas.Bool.{and_from, cond-false, cond-true, cond_both, eq-eqb, ne_eqb}
use Rattle.can_id.specs.Identifiers.{IsIdent, key_of}
use Rattle.can_id.specs.declared.ident.Ident.{Ident}
use Rattle.can_id.specs.declared.ident.Ident.TheVariants.{Message, Anonymous, Service}
use Rattle.can_id.specs.declared.key.Kind.{Kind}
use Rattle.tail_frame.specs.Frames.{FrameOf, frame_of}
use Rattle.tail_frame.specs.declared.logged.Record.{Record}
use Rattle.rx_table.specs.Heard.{frame_for, if_for, is_for}
use Rattle.rx_table.specs.Ports.{Port, port_at}
use Rattle.rx_table.specs.Table.{port_on}
use Rattle.rx_table.specs.Views.{place_in, subscriptions}
use Rattle.rx_table.proofs.FoundPorts.{IsAt, position-ports}
use Rattle.rx_table.proofs.Positions.{position-further}
use Rattle.node_core.specs.Heard.{IsElsewhere}
use Rattle.node_core.specs.Quick.{LeadsTo}
use Rattle.node_core.specs.Shapes.{port_schema, shape_extent}
use Rattle.node_core.specs.declared.node.Node.{Node}

-- a record is this frame to this node
pub record IsFor (rec : Record) (f : FrameOf) : Type 0 where
  pub node : ℕ
  pub is : frame_for node rec ≡ Some f

for_node : (node : ℕ) (rec : Record) (f : FrameOf) → frame_of rec ≡ Some f → is_for node f.ident ≡ true → frame_for node rec ≡ Some f
for_node node rec f e t = ap (if_for node) e ∙ cond-true (is_for node f.ident) (Some f) None t

-- each frame is one to some node
pub for_some : (rec : Record) (f : FrameOf) → frame_of rec ≡ Some f → IsIdent f.ident → IsFor rec f
for_some rec f e is = go f.ident refl is
  where
    other : (source node : ℕ) → (source ≡ node → ⊥) → not (eqb source node) ≡ true
    other source node d = ap not (ne_eqb source node d)

    go : (i : Ident) → f.ident ≡ i → IsIdent i → IsFor rec f
    go (Message priority subject source) k h =
        record { node = suc source; is = for_node (suc source) rec f e (ap (is_for (suc source)) k ∙ other source (suc source) (λ x. omega (arith, x))) }
    go (Anonymous priority subject pseudo) k h = record { node = 0; is = for_node 0 rec f e (ap (is_for 0) k) }
    go (Service priority request service destination source) k h =
        record {
          node = destination;
          is = for_node destination rec f e (ap (is_for destination) k
              ∙ and_from (not (eqb source destination)) (eqb destination destination) (other source destination h.4) (eq-eqb destination destination refl));
        }

-- a frame whose record leads to a port is on that
pub led : (node : Node) (rec : Record) (f : FrameOf) (place : ℕ) → frame_of rec ≡ Some f → IsIdent f.ident → LeadsTo node rec place → place_in (key_of f.ident).kind (key_of f.ident).port node.table ≡ Some place
led node rec f place e is leads = let one = for_some rec f e is in (leads one.node f one.is).at

-- a record is one frame
pub same_frame : (node : ℕ) (rec : Record) (f g : FrameOf) → frame_of rec ≡ Some f → frame_for node rec ≡ Some g → f ≡ g
same_frame node rec f g e h =
    cond_both (is_for node f.ident) (Some f) None (λ o. o ≡ Some g → f ≡ g) (λ _ k. cc) (λ _ k. cc) (sym (ap (if_for node) e) ∙ h)

-- a port that isn't there stands at no place
pub at_none : (kind : Kind) (port : ℕ) (ports : List Port) → port_at kind port ports ≡ None → position (IsAt kind port) ports ≡ None
at_none kind port [] e = refl
at_none kind port (q ∷ ports) e = go (λ k. at_none kind port ports k) (IsAt kind port q) refl
  where
    go : (port_at kind port ports ≡ None → position (IsAt kind port) ports ≡ None) → (b : Bool) → IsAt kind port q ≡ b → position (IsAt kind port) (q ∷ ports) ≡ None
    go more true t = absurd (let k : Some q ≡ None = sym (cond-true (IsAt kind port q) (Some q) (port_at kind port ports) t) ∙ e in cc)
    go more false t =
        position-further (IsAt kind port) q ports t
        ∙ ap (option_map suc) (more (sym (cond-false (IsAt kind port q) (Some q) (port_at kind port ports) t) ∙ e))

-- a frame on no port is on none to any node
pub elsewhere : (ports : List Port) (rec : Record) (f : FrameOf) → frame_of rec ≡ Some f → port_on ports f ≡ None → IsElsewhere ports rec
elsewhere ports rec f e off node g h = subst (λ (x : FrameOf). port_on ports x ≡ None) (same_frame node rec f g e h) off

pub nowhere_on : (ports : List Port) (rec : Record) (f : FrameOf) → frame_of rec ≡ Some f → IsIdent f.ident → IsElsewhere ports rec → port_on ports f ≡ None
nowhere_on ports rec f e is out = let one = for_some rec f e is in out one.node f one.is

pub none_elsewhere : (ports : List Port) (rec : Record) → frame_of rec ≡ None → IsElsewhere ports rec
none_elsewhere ports rec e node g h = absurd (let x : None ≡ Some g = sym (ap (if_for node) e) ∙ h in cc)

-- the same by the place of its port
pub place_none : (node : Node) (rec : Record) (f : FrameOf) → frame_of rec ≡ Some f → IsIdent f.ident → IsElsewhere (subscriptions port_schema node.table) rec → place_in (key_of f.ident).kind (key_of f.ident).port node.table ≡ None
place_none node rec f e is out =
    let q = key_of f.ident in
    let ports = subscriptions port_schema node.table in
    position-ports shape_extent q.kind q.port node.table.ports.items ∙ at_none q.kind q.port ports (nowhere_on ports rec f e is out)
