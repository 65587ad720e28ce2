-- What a node that is explained stands for, as its table does.
use Rattle.std.proofs.Common.{◌≡◌, ◌∙◌, ℕ, ◌+◌, ◌*◌, ◌-◌, ◌<◌, ◌≤◌, ◌^◌, min, List, [], ◌∷◌, ◌++◌, length, replicate, Some, refl, sym, ap, subst, slice_get, arith}
use Rattle.std.proofs.lemmas.List.{get_or-replicate, length-replicate}
use Rattle.std.proofs.lemmas.Option.{slice_get_read, slice_get_within}
use Rattle.tail_frame.specs.declared.logged.Record.{Record}
use Rattle.rx_table.specs.Heard.{frames}
use Rattle.rx_table.specs.Ports.{Port, PortState, ports_of as ports_in}
use Rattle.rx_table.specs.Table.{StandsFor, states}
use Rattle.log_explain.specs.Asked.{listens}
use Rattle.log_explain.specs.Reasons.{Listens}
use Rattle.node_plan.specs.declared.plan.Plan.{Plan}
use Rattle.node_core.specs.Heard.{ports_of}
use Rattle.line_text.specs.Buffer.{Puts, text_of}
use Rattle.line_text.specs.declared.text_buffer.TextBuffer.{TextBuffer}
use Rattle.node_core.specs.Shapes.{shape_extent}
use Rattle.node_core.specs.Stands.{Stands as NodeStands}
use Rattle.node_core.specs.declared.node.Node.{Node}
use Rattle.log_explain.specs.Counts.{counts}
use Rattle.log_explain.specs.Explained.{listens_by, names_of, step_text}
use Rattle.log_explain.specs.Explains.{Explains}
use Rattle.log_explain.specs.Lines.{line_on, lines, sessions}
use Rattle.log_explain.specs.Places.{slot_at}
use Rattle.log_explain.specs.SessionLines.{count_in, sessions_from}
use Rattle.log_explain.specs.Slots.{AreCounted, IsLine, Stands}
use Rattle.log_explain.specs.Text.{frame_text}
use Rattle.log_explain.specs.declared.explaining.Explaining.{Explaining}
use Rattle.log_explain.specs.declared.line.FrameLine.{FrameLine}
use Rattle.log_explain.specs.declared.tally.Tally.{Tally}
use Rattle.log_explain.proofs.Reported.{counts_sessions, few_sessions, port_lines}
use Rattle.log_explain.proofs.Said.{length_ports}

-- nothing is counted before the first line
pub none_counted : (ports : List Port) (n : ℕ) (by_slot : List Tally) → n ≡ length ports → by_slot ≡ replicate (n * 128) (counts []) → AreCounted ports by_slot []
none_counted ports n by_slot e is place source p h few =
    let zero : Tally = counts [] in
    let slots = replicate (n * 128) zero in
    let within = slice_get_within ports place p h in
    let low : slot_at place source < n * 128 = omega (arith, within, few, e) in
    let size : length slots ≡ n * 128 = length-replicate (n * 128) zero in
    let inside : slot_at place source < length slots = omega (arith, low, size) in
    ap (λ (xs : List Tally). slice_get xs (slot_at place source)) is
    ∙ slice_get_read slots (length slots) (slot_at place source) zero refl inside (sym (get_or-replicate (n * 128) (slot_at place source) zero zero low))

module _ (plan : Plan) (now : Explaining) (past : List Record) (h : Explains plan now past) where
  abbrev pub ps : List PortState
  ps = states shape_extent now.node.table.ports.items

  -- what its table listens with
  abbrev pub w : Listens
  w = listens now.node.plan.node now.node.table.timeout (ports_in ps)

  same : w ≡ listens_by plan
  same =
      let own = ap (λ (p : Plan). p.node) h.plan_is in
      let timeout = h.stands.timeout ∙ ap (λ (p : Plan). p.timeout) h.plan_is in
      let ports = h.stands.ports_are ∙ ap ports_of h.plan_is in
      λ i. record { own = own i; timeout = timeout i; ports = ports i }

  counted : AreCounted w.ports now.tallies.by_slot.items (lines w past)
  counted = subst (λ (v : Listens). AreCounted v.ports now.tallies.by_slot.items (lines v past)) (sym same) h.counted

  sessions_are : StandsFor w.timeout (frames w.own past) ps
  sessions_are = subst (λ (t : ℕ). StandsFor t (frames now.node.plan.node past) ps) (sym h.stands.timeout) h.stands.sessions

  pub stands : length past < 2 ^ 28 → Stands w ps now.tallies.by_slot.items past
  stands few = record { few = few; ports = refl; sessions = sessions_are; counted = counted }

  -- one record more
  pub is_line : (new : List Tally) (rec : Record) (line : FrameLine) → IsLine w new past line (line_on w rec past) → IsLine (listens_by plan) new past line (line_on (listens_by plan) rec past)
  is_line new rec line x = subst (λ (v : Listens). IsLine v new past line (line_on v rec past)) same x

  -- the lines on its sessions
  pub few_ports : length now.node.table.ports.items ≤ 2 ^ 16
  few_ports = let e = length_ports shape_extent now.node.table.ports.items in let f = sessions_are.table.few in omega (arith, e, f)

  pub told_sessions : sessions_from now.tallies.by_slot.items 0 now.node.table.ports.items ≡ sessions (listens_by plan) past
  told_sessions =
      port_lines w now.tallies.by_slot.items past counted shape_extent now.node.table.ports.items 0 sessions_are.sessions
      (λ i p g. (let zero_is : i ≡ 0 + i = omega arith in subst (λ (n : ℕ). slice_get w.ports n ≡ Some p) zero_is g))
      ∙ ap (λ (v : Listens). sessions v past) same

  pub told_count : (n : ℕ) → n ≡ min (count_in now.node.table.ports.items) (2 ^ 64 - 1) → n ≡ length (sessions (listens_by plan) past)
  told_count n e =
      let items = now.node.table.ports.items in
      let count : count_in items ≡ length (sessions w past) = counts_sessions w past shape_extent items sessions_are.sessions in
      let most = few_sessions w past shape_extent items sessions_are.sessions sessions_are.table.each in
      let is : n ≡ length (sessions w past) = omega (arith, e, count, most, few_ports) in
      is ∙ ap (λ (v : Listens). length (sessions v past)) same

-- it heard one record more, and this line is put
pub hears : (plan : Plan) (old new : Explaining) (past : List Record) (rec : Record) (line : FrameLine) (before after : TextBuffer) (h : Explains plan old past)
    → IsLine (w plan old past h) new.tallies.by_slot.items past line (line_on (w plan old past h) rec past)
    → new.node.plan ≡ old.node.plan → new.writer.buses.names ≡ old.writer.buses.names → NodeStands new.node (rec ∷ past) → new.records ≡ old.records + 1
    → Puts (frame_text old.writer.buses.names line) before after
    → Explains plan new (rec ∷ past) × Puts (step_text plan rec past) before after
hears plan old new past rec line before after h x plan_is names st count text =
    let l = is_line plan old past h new.tallies.by_slot.items rec line x in (
      record {
        plan_is = plan_is ∙ h.plan_is;
        names = names ∙ h.names;
        stands = st;
        counted = l.counted;
        records = omega (arith, count, h.records);
      },
      text ∙ (λ i. text_of before ++ frame_text (h.names i) (l.line_is i)),
    )

-- a node that heard nothing yet
pub begun : (plan : Plan) (now : Explaining) (node : Node) → now.node ≡ node → node.plan ≡ plan → now.writer.buses.names ≡ names_of plan → NodeStands node [] → now.tallies.by_slot.items ≡ replicate (length node.table.ports.items * 128) (counts []) → now.records ≡ 0 → Explains now.node.plan now []
begun plan now node same is names st slots zero =
    let size : length node.table.ports.items ≡ length (ports_of now.node.plan) =
    sym (length_ports shape_extent node.table.ports.items) ∙ (ap length st.ports_are ∙ sym (ap (λ (n : Node). length (ports_of n.plan)) same)) in
    record {
      plan_is = refl;
      names = names ∙ sym (ap (λ (n : Node). names_of n.plan) same ∙ ap names_of is);
      stands = subst (λ (n : Node). NodeStands n []) (sym same) st;
      counted = none_counted (ports_of now.node.plan) (length node.table.ports.items) now.tallies.by_slot.items size slots;
      records = zero;
    }

pub few_first : (node : Node) → NodeStands node [] → length node.table.ports.items ≤ 2 ^ 16
few_first node st = let e = length_ports shape_extent node.table.ports.items in let f = st.sessions.table.few in omega (arith, e, f)
