-- The line on a frame that is heard.
use Rattle.std.proofs.Common.{◌≡◌, ◌∙◌, ℕ, ◌<◌, ◌≤◌, ◌^◌, List, ◌∷◌, length, Option, Some, None, option_map, unwrap_or, refl, sym, ap, arith}
use Rattle.can_id.specs.Identifiers.{IsIdent, key_of}
use Rattle.can_id.specs.declared.key.Key.{Key}
use Rattle.tail_frame.specs.Frames.{FrameOf, frame_of}
use Rattle.tail_frame.specs.declared.logged.Record.{Record}
use Rattle.rx_table.specs.Keys.{KeyedFrame}
use Rattle.rx_table.specs.Ports.{Port, ports_of}
use Rattle.rx_table.specs.Table.{port_on}
use Rattle.rx_table.specs.Views.{place_in}
use Rattle.rx_table.proofs.FoundPorts.{found, found_within, not_found, position-ports}
use Rattle.log_explain.specs.Asked.{TellsFrame}
use Rattle.log_explain.specs.Reasons.{Listens, aside, of_port, or_on_port}
use Rattle.log_explain.specs.declared.reasons.reason.Reason.{Reason}
use Rattle.log_explain.specs.declared.reasons.reason.Reason.TheVariants.{Unsubscribed}
use Rattle.node_plan.specs.declared.plan.Plan.{Plan}
use Rattle.node_core.specs.Shapes.{shape_extent}
use Rattle.node_core.specs.Stands.{Stands as NodeStands}
use Rattle.node_core.proofs.Elsewhere.{takes_by}
use Rattle.log_explain.specs.Explains.{Explains}
use Rattle.log_explain.specs.Lines.{line_on}
use Rattle.log_explain.specs.Places.{slot_at}
use Rattle.log_explain.specs.Slots.{IsCounted, IsLastAt, IsLine, line_with, passing, slot_for, slot_from}
use Rattle.log_explain.specs.declared.explaining.Explaining.{Explaining}
use Rattle.log_explain.specs.declared.tally.Tally.{Tally}
use Rattle.log_explain.proofs.Frames.{elsewhere}
use Rattle.log_explain.proofs.Nodes.{few_ports, ps, stands, w}
use Rattle.log_explain.proofs.Said.{frame_said, some_line}

-- a frame on no port
passes : (w : Listens) (f : FrameOf) (log : List KeyedFrame) → port_on w.ports f ≡ None → (o : Option Reason) → unwrap_or o Unsubscribed ≡ or_on_port w f log o
passes w f log off None = sym (ap (of_port w.timeout f log) off)
passes w f log off (Some reason) = refl

module _ (plan : Plan) (old : Explaining) (past : List Record) (h : Explains plan old past) (few : length past < 2 ^ 28) (rec : Record) (f : FrameOf)
    (e : frame_of rec ≡ Some f) (line : f.line ≡ rec.line) (moment : f.moment ≡ rec.moment) (bus : f.bus ≡ rec.bus) (ident : IsIdent f.ident) where
  abbrev q : Key
  q = key_of f.ident

  abbrev own : ℕ
  own = old.node.plan.node

  abbrev timeout : ℕ
  timeout = old.node.table.timeout

  abbrev ports : List Port
  ports = ports_of (ps plan old past h)

  abbrev by_slot : List Tally
  by_slot = old.tallies.by_slot.items

  said : (new : List Tally) (slot : Option ℕ) (last : ℕ) (reason : Reason) → slot ≡ slot_for ports q → IsLastAt by_slot slot last → TellsFrame own timeout (ps plan old past h) f last reason
      → IsCounted by_slot new (line_with f reason) slot → IsLine (w plan old past h) new past (line_with f reason) (line_on (w plan old past h) rec past)
  said new slot last reason s l tells counted =
      some_line (w plan old past h) new rec f past (line_with f reason) e line moment bus
      (frame_said own timeout (ps plan old past h) by_slot new f ident past (stands plan old past h few) q slot last reason refl s l tells counted)

  -- on the port at a place
  module _ (place : ℕ) (at : place_in q.kind q.port old.node.table ≡ Some place) where
    low : place ≤ 2 ^ 16
    low =
        let items = old.node.table.ports.items in
        let within = found_within shape_extent q.kind q.port items place (found shape_extent q.kind q.port items place at) in
        omega (arith, within, few_ports plan old past h)

    slot_is : (source : Option ℕ) → option_map (slot_at place) source ≡ slot_from ports q source
    slot_is None = refl
    slot_is (Some s) = ap (option_map (λ n. slot_at n s)) (sym at ∙ position-ports shape_extent q.kind q.port old.node.table.ports.items)

    pub said_at : (new : List Tally) (slot : Option ℕ) (last : ℕ) (reason : Reason) → (place ≤ 2 ^ 16 → slot ≡ option_map (slot_at place) q.source) → IsLastAt by_slot slot last
        → TellsFrame own timeout (ps plan old past h) f last reason → IsCounted by_slot new (line_with f reason) slot
        → IsLine (w plan old past h) new past (line_with f reason) (line_on (w plan old past h) rec past)
    said_at new slot last reason s l tells counted = said new slot last reason (s low ∙ slot_is q.source) l tells counted

  -- on no port
  module _ (at : place_in q.kind q.port old.node.table ≡ None) where
    off : port_on ports f ≡ None
    off = not_found shape_extent q.kind q.port old.node.table.ports.items at

    slot_none : (source : Option ℕ) → None ≡ slot_from ports q source
    slot_none None = refl
    slot_none (Some s) = ap (option_map (λ n. slot_at n s)) (sym at ∙ position-ports shape_extent q.kind q.port old.node.table.ports.items)

    pub said_passing : IsLine (w plan old past h) by_slot past (line_with f (passing own f.ident)) (line_on (w plan old past h) rec past)
    said_passing = said by_slot None 0 (passing own f.ident) (slot_none q.source) tt (λ log _ _. passes (w plan old past h) f log off (aside own f.ident)) refl

    pub stands_still : NodeStands old.node (rec ∷ past)
    stands_still = takes_by old.node rec (elsewhere ports rec f e off) past h.stands
