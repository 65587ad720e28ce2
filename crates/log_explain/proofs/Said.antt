-- The line on a record is that of its definition, and is counted.
use Rattle.std.proofs.Common.{◌≡◌, ◌∙◌, ℕ, suc, ◌<◌, ◌^◌, Bool, true, false, List, [], ◌∷◌, length, Option, Some, None, option_map, refl, sym, ap, subst, position, slice_get, arith}
use Rattle.std.proofs.lemmas.Bool.{cond-false, cond-true}
use Rattle.can_id.specs.Identifiers.{IsIdent, key_of as key_of_ident}
use Rattle.can_id.specs.declared.ident.Ident.{Ident}
use Rattle.can_id.specs.declared.ident.Ident.TheVariants as ident
use Rattle.can_id.specs.declared.key.Key.{Key}
use Rattle.can_id.specs.declared.key.Kind.{Kind}
use Rattle.tail_frame.specs.Frames.{FrameOf, discard_of, frame_of, key_record}
use Rattle.tail_frame.specs.declared.discard.Discard.{Discard}
use Rattle.tail_frame.specs.declared.logged.Record.{Record}
use Rattle.transfer_crc.specs.Crc.{crc_of}
use Rattle.rx_table.specs.Admitted.{admitted, has, key_of}
use Rattle.rx_table.specs.Heard.{frames}
use Rattle.rx_table.specs.Keys.{KeyedFrame, history}
use Rattle.rx_table.specs.Ports.{IsPortList, Port, PortState, port_at, ports_of}
use Rattle.rx_table.specs.Received.{received}
use Rattle.rx_table.specs.Table.{port_on, states, with_source}
use Rattle.rx_table.specs.declared.port.Port as code
use Rattle.rx_table.proofs.FoundPorts.{IsAt}
use Rattle.rx_table.proofs.Positions.{position-further, position-here, position-none_below}
use Rattle.log_explain.specs.Asked.{IsLast, IsLastAt as IsLastIn, IsLastOn, TellsFrame, frame_on, listens}
use Rattle.log_explain.specs.Reasons.{Listens, last_line, of_frame, of_read}
use Rattle.log_explain.specs.declared.reasons.reason.Reason.{Reason}
use Rattle.log_explain.specs.declared.reasons.reason.Reason.TheVariants.{Discarded}
use Rattle.log_explain.proofs.Discards.{no_frame_read, read_frame, read_rule}
use Rattle.log_explain.specs.Counts.{counts, last, line_of}
use Rattle.log_explain.specs.Lines.{is_in, line_on, lines, of_session, transfer_in, transfer_of}
use Rattle.log_explain.specs.Slots.{AreCounted, IsCounted, IsLastAt, IsLine, Stands, frame_line, slot_for, slot_from}
use Rattle.log_explain.specs.Places.{slot_at}
use Rattle.log_explain.specs.declared.line.FrameLine.{FrameLine}
use Rattle.log_explain.specs.declared.tally.Tally.{Tally}
use Rattle.log_explain.proofs.Lasts.{last_is}
use Rattle.log_explain.proofs.Slots.{PortAt, at_position, counted, nth_port_at, of_session_few, uncounted}

some_is : {X : Type 0} (x y : X) → Some x ≡ Some y → x ≡ y
some_is x y h = cc

pub length_ports : {S : Type 0} (extent : S → ℕ) (items : List (code.Port S)) → length (ports_of (states extent items)) ≡ length items
length_ports extent [] = refl
length_ports extent (p ∷ items) = ap suc (length_ports extent items)

-- a record that is no frame
pub none_line : (w : Listens) (ps : List PortState) (old : List Tally) (rec : Record) (past : List Record) (why : Discard) → discard_of rec ≡ Some why → Stands w ps old past
    → IsLine w old past (record { line = rec.line; moment = rec.moment; bus = rec.bus; transfer = None; reason = Discarded why }) (line_on w rec past)
none_line w ps old rec past why rule st =
    let read = read_rule rec why rule in
    let e = no_frame_read rec why read in record {
      line_is = λ i. record { line = rec.line; moment = rec.moment; bus = rec.bus; transfer = transfer_in (sym e i); reason = of_read w (frames w.own past) (sym read i) };
      counted = λ place source p h few.
          let key = key_of p.kind p.port source in
          let rest = of_session key (lines w past) in
          let out = ap (λ (o : Option FrameOf). is_in key (transfer_in o)) e in
          st.counted place source p h few
          ∙ ap (λ (x : List FrameLine). Some (counts x)) (sym (cond-false (is_in key (transfer_in (frame_of rec))) (line_on w rec past ∷ rest) rest out));
    }

-- a record that is a frame
pub some_line : (w : Listens) (new : List Tally) (rec : Record) (f : FrameOf) (past : List Record) (line : FrameLine) → frame_of rec ≡ Some f → f.line ≡ rec.line → f.moment ≡ rec.moment → f.bus ≡ rec.bus → IsLine w new past line (frame_line w f past) → IsLine w new past line (line_on w rec past)
some_line w new rec f past line e a b d x =
    let read = read_frame rec f e in
    let same : frame_line w f past ≡ line_on w rec past = λ i. record { line = a i; moment = b i; bus = d i; transfer = transfer_in (sym e i); reason = of_read w (frames w.own past) (sym read i) } in
    subst (λ (l : FrameLine). IsLine w new past line l) same x

-- a port that stands at no place isn't there
nowhere : (kind : Kind) (port : ℕ) (ports : List Port) → position (IsAt kind port) ports ≡ None → port_at kind port ports ≡ None
nowhere kind port [] e = refl
nowhere kind port (q ∷ ports) e = go (λ k. nowhere kind port ports k) (IsAt kind port q) refl
  where
    go : (position (IsAt kind port) ports ≡ None → port_at kind port ports ≡ None) → (b : Bool) → IsAt kind port q ≡ b → port_at kind port (q ∷ ports) ≡ None
    go more true t = absurd (let k : Some 0 ≡ None = sym (position-here (IsAt kind port) q ports t) ∙ e in cc)
    go more false t = cond-false (IsAt kind port q) (Some q) (port_at kind port ports) t ∙ more (position-none_below _ (sym (position-further (IsAt kind port) q ports t) ∙ e))

small_source : (i : Ident) → IsIdent i → (s : ℕ) → (key_of_ident i).source ≡ Some s → s < 128
small_source (ident.Message priority subject source) is s e = let x : source ≡ s = some_is source s e in subst (λ (n : ℕ). n < 128) x is.2
small_source (ident.Anonymous priority subject pseudo) is s e = absurd cc
small_source (ident.Service priority request service destination source) is s e = let x : source ≡ s = some_is source s e in subst (λ (n : ℕ). n < 128) x is.3

-- a frame
module _ (own timeout : ℕ) (ps : List PortState) (old new : List Tally) (f : FrameOf) (ident : IsIdent f.ident) (past : List Record) (st : Stands (listens own timeout (ports_of ps)) ps old past) where
  abbrev w : Listens
  w = listens own timeout (ports_of ps)

  abbrev q : Key
  q = key_of_ident f.ident

  abbrev log : List KeyedFrame
  log = frames own past

  abbrev ports : List Port
  ports = ports_of ps

  distinct : IsPortList ports
  distinct = st.sessions.table.distinct

  slot_from_is : (s : ℕ) → q.source ≡ Some s → slot_for ports q ≡ option_map (λ n. slot_at n s) (position (IsAt q.kind q.port) ports)
  slot_from_is s e = ap (slot_from ports q) e

  slot_of_place : (s place : ℕ) → q.source ≡ Some s → position (IsAt q.kind q.port) ports ≡ Some place → slot_for ports q ≡ Some (slot_at place s)
  slot_of_place s place e at = slot_from_is s e ∙ ap (option_map (λ n. slot_at n s)) at

  -- the line on which the last delivery of its session ends
  module _ (line : ℕ) (at_slot : IsLastAt old (slot_for ports q) line) where
    of_port : (p : Port) (s : ℕ) → port_at q.kind q.port ports ≡ Some p → q.source ≡ Some s → IsLastOn timeout p (frame_on q.kind q.port s (key_record f)) log line
    of_port p s on e = go (position (IsAt q.kind q.port) ports) refl
      where
        go : (o : Option ℕ) → position (IsAt q.kind q.port) ports ≡ o → IsLastOn timeout p (frame_on q.kind q.port s (key_record f)) log line
        go None n = absurd (let x : None ≡ Some p = sym (nowhere q.kind q.port ports n) ∙ on in cc)
        go (Some place) n = λ h.
            (let at = at_position ports q.kind q.port place n in
            let here : port_at at.p.kind at.p.port ports ≡ Some at.p = nth_port_at ports place at.p distinct at.there_is in
            let p_is : at.p ≡ p = some_is at.p p (sym here ∙ ((λ i. port_at (sym at.kind_is i) (sym at.port_is i) ports) ∙ on)) in
            let kind : q.kind ≡ p.kind = at.kind_is ∙ ap (λ (o : Port). o.kind) p_is in
            let port : q.port ≡ p.port = at.port_is ∙ ap (λ (o : Port). o.port) p_is in
            let there : slice_get ports place ≡ Some p = at.there_is ∙ ap Some p_is in
            let count = st.counted place s p there (small_source f.ident ident s e) in
            let ends : line ≡ line_of (last (of_session (key_of p.kind p.port s) (lines w past))) =
            subst (λ (o : Option ℕ). IsLastAt old o line) (slot_of_place s place e n) at_slot (counts (of_session (key_of p.kind p.port s) (lines w past))) count in
            let found = last_line (received crc_of timeout (history (key_of p.kind p.port s) log)).delivered in
            ends
            ∙ (last_is w p (subst (λ (o : Port). port_at o.kind o.port ports ≡ Some o) p_is here) s past
            ∙ (cond-true (has s (admitted p.kind p.port p.sources log)) found 0 h
            ∙ (λ i. last_line (received crc_of timeout (history (key_of (sym kind i) (sym port i) s) log)).delivered))))

    last_in : IsLast w f log line
    last_in = go (port_on ports f) refl q.source refl
      where
        go : (o : Option Port) → port_on ports f ≡ o → (x : Option ℕ) → q.source ≡ x → IsLastIn timeout log line o (with_source q.kind q.port x f)
        go None e x d = nothing x
          where
            nothing : (x : Option ℕ) → IsLastIn timeout log line None (with_source q.kind q.port x f)
            nothing x = tt
        go (Some p) e None d = tt
        go (Some p) e (Some s) d = of_port p s e d

  -- its line is counted
  module _ (said : FrameLine) (t : said.transfer ≡ Some (transfer_of f)) (added : IsCounted old new said (slot_for ports q)) where
    abbrev all : List FrameLine
    all = lines w past

    all_few : (p : List Record) → length (lines w p) ≡ length p
    all_few [] = refl
    all_few (rec ∷ p) = ap suc (all_few p)

    none_counted : slot_for ports q ≡ None → AreCounted ports new (said ∷ all)
    none_counted e =
        let same : new ≡ old = subst (λ (o : Option ℕ). IsCounted old new said o) e added in
        subst (λ (xs : List Tally). AreCounted ports xs (said ∷ all)) (sym same) (uncounted ports distinct old said (transfer_of f) t all st.counted e)

    some_counted : (s place : ℕ) → q.source ≡ Some s → position (IsAt q.kind q.port) ports ≡ Some place → AreCounted ports new (said ∷ all)
    some_counted s place e n =
        let at : PortAt ports place q.kind q.port = at_position ports q.kind q.port place n in
        let few = small_source f.ident ident s e in
        let mine = of_session (key_of at.p.kind at.p.port s) all in
        let short : length mine < 2 ^ 28 = (let a = of_session_few all at.p.kind at.p.port s in let b = all_few past in let d = st.few in omega arith) in
        let add = subst (λ (o : Option ℕ). IsCounted old new said o) (slot_of_place s place e n) added in
        counted ports distinct old said (transfer_of f) t all st.counted place s e few at new (add mine short (st.counted place s at.p at.there_is few))

    pub is_counted : AreCounted ports new (said ∷ all)
    is_counted = go q.source refl
      where
        of_place : (s : ℕ) → q.source ≡ Some s → (o : Option ℕ) → position (IsAt q.kind q.port) ports ≡ o → AreCounted ports new (said ∷ all)
        of_place s e None n = none_counted (slot_from_is s e ∙ ap (option_map (λ n. slot_at n s)) n)
        of_place s e (Some place) n = some_counted s place e n

        go : (x : Option ℕ) → q.source ≡ x → AreCounted ports new (said ∷ all)
        go None e = none_counted (ap (slot_from ports q) e)
        go (Some s) e = of_place s e (position (IsAt q.kind q.port) ports) refl

  -- what is said of it
  pub frame_said : (key : Key) (slot : Option ℕ) (line : ℕ) (reason : Reason) → key ≡ q → slot ≡ slot_for ports key → IsLastAt old slot line → TellsFrame own timeout ps f line reason
      → (let said : FrameLine = record { line = f.line; moment = f.moment; bus = f.bus; transfer = Some (record { key = key; tid = f.tail.tid }); reason = reason } in IsCounted old new said slot → IsLine w new past said (frame_line w f past))
  frame_said key slot line reason k s l tells counted_ =
      let said : FrameLine = record { line = f.line; moment = f.moment; bus = f.bus; transfer = Some (record { key = key; tid = f.tail.tid }); reason = reason } in
      let slot_is : slot ≡ slot_for ports q = s ∙ ap (slot_for ports) k in
      let at_slot : IsLastAt old (slot_for ports q) line = subst (λ (o : Option ℕ). IsLastAt old o line) slot_is l in
      let why : reason ≡ of_frame w f log = tells log st.sessions (last_in line at_slot) in
      let is : said ≡ frame_line w f past = λ i. record { line = f.line; moment = f.moment; bus = f.bus; transfer = Some (record { key = k i; tid = f.tail.tid }); reason = why i } in
      record {
        line_is = is;
        counted = subst (λ (x : FrameLine). AreCounted ports new (x ∷ lines w past)) is
            (is_counted said (ap (λ (x : Key). Some (record { key = x; tid = f.tail.tid })) k) (subst (λ (o : Option ℕ). IsCounted old new said o) slot_is counted_));
      }
