-- The last delivery that a session's lines tell is the last one that its records give.
use Rattle.std.proofs.Common.{◌≡◌, ◌∙◌, ℕ, Bool, true, false, cond, not, ◌&&◌, ◌||◌, eqb, List, [], ◌∷◌, ◌++◌, take, zero, suc, Option, Some, None, Result, Ok, Err, refl, sym, ap, subst, inl, inr}
use Rattle.std.proofs.Math.Seq.{take-nil}
use Rattle.std.specs.Option.{option_and_then}
use Rattle.std.specs.Result.{result_ok}
use Rattle.std.proofs.lemmas.Bool.{cases_Bool, and_right, and_parts, and_from, cond-true, cond-false, cond_both, both_ways, eqb-true, eq-eqb}
use Rattle.can_id.specs.Identifiers.{ident_of, key_of as key_of_ident}
use Rattle.can_id.specs.declared.ident.Ident.{Ident}
use Rattle.can_id.specs.declared.ident.Ident.TheVariants as ident
use Rattle.can_id.specs.declared.key.Key.{Key}
use Rattle.tail_frame.specs.Chains.{KeyRecord}
use Rattle.tail_frame.specs.Frames.{FrameOf, frame_of, framed, is_discarded, key_record, last_byte, tail_of}
use Rattle.tail_frame.specs.declared.discard.Discard.{Discard}
use Rattle.tail_frame.specs.declared.logged.Record.{Record}
use Rattle.transfer_crc.specs.Crc.{crc_of}
use Rattle.rx_table.specs.Admitted.{admitted, has, is_on, key_of, sources}
use Rattle.rx_table.specs.Heard.{frames, if_for, is_for, with_frame}
use Rattle.rx_table.specs.Keys.{KeyedFrame, SessionKey, bears_on, history, same_kind}
use Rattle.rx_table.specs.Ports.{Port, is_admitted, port_at}
use Rattle.rx_table.specs.Received.{Delivery, received}
use Rattle.rx_table.specs.Steps.{add, delivery_at}
use Rattle.rx_table.specs.Table.{keyed, log_with, port_on, with_source}
use Rattle.rx_table.proofs.Admissions.{admitted_lasts}
use Rattle.rx_table.proofs.Endings.{delivered_step}
use Rattle.rx_table.proofs.Sources.{bears, quiet, same_kind_refl, same_kind_true}
use Rattle.log_explain.specs.ReasonLaws.{delivered_at, lines_of}
use Rattle.log_explain.specs.Reads.{read_of}
use Rattle.log_explain.specs.Reasons.{Listens, aside, last_line, of_frame, of_key, of_port, of_read, of_source, on_port, or_on_port}
use Rattle.log_explain.specs.declared.reasons.reason.Reason.{Reason}
use Rattle.log_explain.specs.declared.reasons.reason.Reason.TheVariants.{Delivered, Discarded, Elsewhere, NoSession, Own, Unknown}
use Rattle.log_explain.proofs.Deliveries.{tells_are}
use Rattle.log_explain.proofs.Discards.{frame_read, reads_each}
use Rattle.log_explain.specs.Counts.{delivery_by, delivery_in, delivery_of, last, line_of, or_else}
use Rattle.log_explain.specs.Lines.{is_in, is_source, lines, of_session, transfer_in, transfer_of}
use Rattle.log_explain.specs.declared.line.FrameLine.{FrameLine}
use Rattle.log_explain.specs.declared.line.Transfer.{Transfer}
use Rattle.log_explain.specs.declared.tally.Last.{Last}

-- the frame of a record stands on its line
line_byte : (rec : Record) (ident : Ident) (byte : Option ℕ) (f : FrameOf) → option_and_then (framed rec ident) byte ≡ Some f → f.line ≡ rec.line
line_byte rec ident None f e = absurd cc
line_byte rec ident (Some byte) f e =
    cond_both (is_discarded ident (tail_of byte) _) None _ (λ (o : Option FrameOf). o ≡ Some f → f.line ≡ rec.line) (λ _ n. absurd cc) (λ _ n. cc) e

line_ident : (rec : Record) (ident : Option Ident) (f : FrameOf) → option_and_then (λ i. option_and_then (framed rec i) (last_byte rec.bytes)) ident ≡ Some f → f.line ≡ rec.line
line_ident rec None f e = absurd cc
line_ident rec (Some ident) f e = line_byte rec ident (last_byte rec.bytes) f e

pub frame_line_is : (rec : Record) (f : FrameOf) → frame_of rec ≡ Some f → f.line ≡ rec.line
frame_line_is rec f e = line_ident rec (ident_of rec.ident) f e

-- a frame that isn't for the node delivers nothing
record Quietly (own : ℕ) (i : Ident) : Type 0 where
  reason : Reason
  is : aside own i ≡ Some reason
  none : (line : ℕ) (t : Transfer) → delivery_by line t reason ≡ None

aside_quiet : (own : ℕ) (i : Ident) → is_for own i ≡ false → Quietly own i
aside_quiet own (ident.Message priority subject source) n = go (eqb source own) refl n
  where
    go : (b : Bool) → eqb source own ≡ b → not (eqb source own) ≡ false → Quietly own (ident.Message priority subject source)
    go true e n = record { reason = Own; is = cond-true (eqb source own) (Some Own) None e; none = λ line t. refl }
    go false e n = absurd (let x : true ≡ false = ap not (sym e) ∙ n in cc)
aside_quiet own (ident.Anonymous priority subject pseudo) n = absurd cc
aside_quiet own (ident.Service priority request service destination source) n = go (eqb source own) refl (eqb destination own) refl n
  where
    go : (a : Bool) → eqb source own ≡ a → (b : Bool) → eqb destination own ≡ b → (not (eqb source own) && eqb destination own) ≡ false → Quietly own (ident.Service priority request service destination source)
    go true e b d n = record { reason = Own; is = cond-true (eqb source own) (Some Own) (cond (eqb destination own) None (Some (Elsewhere destination))) e; none = λ line t. refl }
    go false e false d n = record {
      reason = Elsewhere destination;
      is = cond-false (eqb source own) (Some Own) (cond (eqb destination own) None (Some (Elsewhere destination))) e ∙ cond-false (eqb destination own) None (Some (Elsewhere destination)) d;
      none = λ line t. refl;
    }
    go false e true d n = absurd (let x : true ≡ false = (λ i. not (sym e i) && sym d i) ∙ n in cc)

pub aside_none : (own : ℕ) (i : Ident) → is_for own i ≡ true → aside own i ≡ None
aside_none own (ident.Message priority subject source) y = go (eqb source own) refl y
  where
    go : (b : Bool) → eqb source own ≡ b → not (eqb source own) ≡ true → cond (eqb source own) (Some Own) None ≡ None
    go true e y = absurd (let x : false ≡ true = ap not (sym e) ∙ y in cc)
    go false e y = cond-false (eqb source own) (Some Own) None e
aside_none own (ident.Anonymous priority subject pseudo) y = refl
aside_none own (ident.Service priority request service destination source) y = go (eqb source own) refl (eqb destination own) refl y
  where
    go : (a : Bool) → eqb source own ≡ a → (b : Bool) → eqb destination own ≡ b → (not (eqb source own) && eqb destination own) ≡ true → cond (eqb source own) (Some Own) (cond (eqb destination own) None (Some (Elsewhere destination))) ≡ None
    go true e b d y = absurd (let x : false ≡ true = (λ i. not (sym e i) && eqb destination own) ∙ y in cc)
    go false e true d y = cond-false (eqb source own) (Some Own) (cond (eqb destination own) None (Some (Elsewhere destination))) e ∙ cond-true (eqb destination own) None (Some (Elsewhere destination)) d
    go false e false d y = absurd (let x : false ≡ true = (λ i. not (sym e i) && sym d i) ∙ y in cc)

-- a line without a delivery leaves the last one
last_stays : (b : Bool) (l : FrameLine) (ls : List FrameLine) → delivery_in l ≡ None → last (cond b (l ∷ ls) ls) ≡ last ls
last_stays true l ls n = ap (λ (o : Option Last). or_else o (last ls)) n
last_stays false l ls n = refl

delivery_none : (line : ℕ) (t : Option Transfer) (reason : Reason) → ((t : Transfer) → delivery_by line t reason ≡ None) → delivery_of line reason t ≡ None
delivery_none line None reason n = refl
delivery_none line (Some t) reason n = n t

-- a reason that says that a delivery ends
of_none : (line : ℕ) (t : Transfer) (reason : Reason) → delivered_at line reason ≡ None → delivery_by line t reason ≡ None
of_none line t (Delivered first change) e = absurd cc
of_none line t _ e = refl

of_some : (line a b : ℕ) (t : Transfer) (reason : Reason) (before : Option Last) → delivered_at line reason ≡ Some (a, b) → line_of (or_else (delivery_by line t reason) before) ≡ b
of_some line a b t (Delivered first change) before e = let x : (first, line) ≡ (a, b) = cc in ap (λ (p : ℕ × ℕ). p.1) x
of_some line a b t _ before e = absurd cc

step_line : (line : ℕ) (t : Transfer) (reason : Reason) (o : Option Delivery) (ds : List Delivery) (before : Option Last) → delivered_at line reason ≡ lines_of o → line_of before ≡ last_line ds → line_of (or_else (delivery_by line t reason) before) ≡ last_line (add o ds)
step_line line t reason None ds before e h = ap (λ (x : Option Last). line_of (or_else x before)) (of_none line t reason e) ∙ h
step_line line t reason (Some d) ds before e h = of_some line d.first.line d.last.line t reason before e

-- one source more behind others changes nothing for the others
take_other : (s x n : ℕ) (xs : List ℕ) → eqb x s ≡ false → has s (take n (xs ++ x ∷ [])) ≡ has s (take n xs)
take_other s x zero xs e = refl
take_other s x (suc n) [] e = ap (λ (b : Bool). b || has s (take n [])) e ∙ ap (has s) (take-nil n)
take_other s x (suc n) (y ∷ ys) e = ap (λ (b : Bool). (eqb y s) || b) (take_other s x n ys e)

same_admitted : (p : Port) (source : ℕ) (k : KeyedFrame) (log : List KeyedFrame) → bears_on (key_of p.kind p.port source) k ≡ false → has source (admitted p.kind p.port p.sources (k ∷ log)) ≡ has source (admitted p.kind p.port p.sources log)
same_admitted p source k log n =
    let xs = sources p.kind p.port log in
    let on = is_on p.kind p.port k in
    let new = k.rec.start && not (has k.key.source xs) in
    cond_both (on && new) (xs ++ k.key.source ∷ []) xs (λ (ys : List ℕ). has source (take p.sources ys) ≡ has source (take p.sources xs))
    (λ y. take_other source k.key.source p.sources xs (elim (cases_Bool (eqb k.key.source source)) as (λ _. eqb k.key.source source ≡ false) [
      | inr no_ ↦ no_
      | inl yes_ ↦ absurd (both_ways (bears_on (key_of p.kind p.port source) k) n (bears p.kind p.port source k (and_parts on new y).0 (eqb-true k.key.source source yes_)))
    ]))
    (λ _. refl)

same_both : (b : Bool) (n : ℕ) → cond b n n ≡ n
same_both true n = refl
same_both false n = refl

module _ (w : Listens) (p : Port) (on : port_at p.kind p.port w.ports ≡ Some p) (source : ℕ) where
  abbrev key : SessionKey
  key = key_of p.kind p.port source

  -- the last delivery of the key in these frames, where its source has a session
  abbrev known : List KeyedFrame → Bool
  known log = has source (admitted p.kind p.port p.sources log)

  abbrev given : List KeyedFrame → ℕ
  given log = cond (known log) (last_line (received crc_of w.timeout (history key log)).delivered) 0

  abbrev told : List FrameLine → ℕ
  told ls = line_of (last (of_session key ls))

  module _ (rec : Record) (log : List KeyedFrame) (ls : List FrameLine) (ih : told ls ≡ given log) where
    abbrev line_by : Reason → Option Transfer → FrameLine
    line_by reason t = record { line = rec.line; moment = rec.moment; bus = rec.bus; transfer = t; reason = reason }

    quietly : (reason : Reason) (t : Option Transfer) → ((t : Transfer) → delivery_by rec.line t reason ≡ None) → told (line_by reason t ∷ ls) ≡ told ls
    quietly reason t n = ap line_of (last_stays (is_in key t) (line_by reason t) (of_session key ls) (delivery_none rec.line t reason n))

    -- a frame of the session
    module _ (f : FrameOf) (at : f.line ≡ rec.line) where
      abbrev r : KeyRecord
      r = key_record f

      abbrev k : KeyedFrame
      k = record { key = key; rec = r }

      abbrev h : List KeyRecord
      h = history key log

      abbrev adm : Bool
      adm = is_admitted p k log

      mine : bears_on key k ≡ true
      mine = bears p.kind p.port source k (and_from (same_kind p.kind p.kind) (eqb p.port p.port) (same_kind_refl p.kind) (eq-eqb p.port p.port refl)) refl

      abbrev found : ℕ
      found = last_line (received crc_of w.timeout h).delivered

      -- a source that gets its session now had no start frame before
      lacks : adm ≡ true → known log ≡ false → has source (sources p.kind p.port log) ≡ false
      lacks y n = elim (cases_Bool (has source (sources p.kind p.port log))) as (λ _. has source (sources p.kind p.port log) ≡ false) [
        | inr no_ ↦ no_
        | inl yes_ ↦ absurd (both_ways adm (admitted_lasts.stays_out p.kind p.port p.sources source (k ∷ []) log yes_ n) y)
      ]

      before : adm ≡ true → told ls ≡ found
      before y = elim (cases_Bool (known log)) as (λ _. told ls ≡ found) [
        | inl a ↦ ih ∙ cond-true (known log) found 0 a
        | inr n ↦ ih ∙ (cond-false (known log) found 0 n ∙ sym (ap last_line (quiet crc_of w.timeout p.kind p.port source log (lacks y n))))
      ]

      never : adm ≡ false → known log ≡ false
      never n = elim (cases_Bool (known log)) as (λ _. known log ≡ false) [
        | inr no_ ↦ no_
        | inl yes_ ↦ absurd (both_ways adm n (admitted_lasts.stays p.kind p.port p.sources source (k ∷ []) log yes_))
      ]

      history_is : history key (k ∷ log) ≡ r ∷ h
      history_is = cond-true (bears_on key k) (r ∷ h) h mine

      session_step : (t : Transfer) → is_in key (Some t) ≡ true → told (line_by (of_source w.timeout p k log) (Some t) ∷ ls) ≡ given (k ∷ log)
      session_step t in_ =
          let why = of_source w.timeout p k log in
          let of = of_key crc_of w.timeout r h in
          let none = cond r.start NoSession Unknown in
          let now = last_line (received crc_of w.timeout (history key (k ∷ log))).delivered in
          let S = of_session key ls in
          elim (cases_Bool adm) as (λ _. told (line_by why (Some t) ∷ ls) ≡ given (k ∷ log)) [
            | inl y ↦
                (let law : delivered_at rec.line of ≡ lines_of (delivery_at crc_of w.timeout r h) = subst (λ (n : ℕ). delivered_at n of ≡ lines_of (delivery_at crc_of w.timeout r h)) at (tells_are.deliveries crc_of w.timeout r h) in
                let line = line_by why (Some t) in
                ap (λ (b : Bool). line_of (last (cond b (line ∷ S) S))) in_
                ∙ (ap (λ (x : Reason). line_of (or_else (delivery_by rec.line t x) (last S))) (cond-true adm of none y)
                ∙ (step_line rec.line t of (delivery_at crc_of w.timeout r h) (received crc_of w.timeout h).delivered (last S) law (before y)
                ∙ (ap last_line (sym (delivered_step crc_of w.timeout r h))
                ∙ (ap (λ (g : List KeyRecord). last_line (received crc_of w.timeout g).delivered) (sym history_is)
                ∙ sym (cond-true adm now 0 y))))))
            | inr n ↦
                quietly why (Some t) (λ t. ap (delivery_by rec.line t) (cond-false adm of none n) ∙ refused t r.start)
                ∙ (ih ∙ (cond-false (known log) found 0 (never n) ∙ sym (cond-false adm now 0 n)))
          ]
        where
          refused : (t : Transfer) (b : Bool) → delivery_by rec.line t (cond b NoSession Unknown) ≡ None
          refused t true = refl
          refused t false = refl

    -- a frame that is for the node
    module _ (f : FrameOf) (at : f.line ≡ rec.line) where
      abbrev q : Key
      q = key_of_ident f.ident

      abbrev t : Transfer
      t = transfer_of f

      abbrev why : Reason
      why = of_port w.timeout f log (port_on w.ports f)

      with_none : q.source ≡ None → told (line_by why (Some t) ∷ ls) ≡ given (log_with (keyed f) log)
      with_none e =
          let out : is_in key (Some t) ≡ false =
          ap (λ (o : Option ℕ). same_kind q.kind p.kind && ((eqb q.port p.port) && is_source source o)) e ∙ and_right (same_kind q.kind p.kind) _ (and_right (eqb q.port p.port) false refl) in
          let off : keyed f ≡ None = ap (λ (o : Option ℕ). with_source q.kind q.port o f) e in
          ap (λ (b : Bool). line_of (last (cond b (line_by why (Some t) ∷ of_session key ls) (of_session key ls)))) out
          ∙ (ih ∙ ap (λ (o : Option KeyedFrame). given (log_with o log)) (sym off))

      with_some : (s : ℕ) → q.source ≡ Some s → told (line_by why (Some t) ∷ ls) ≡ given (log_with (keyed f) log)
      with_some s e =
          let k2 : KeyedFrame = record { key = key_of q.kind q.port s; rec = key_record f } in
          let b = bears_on key k2 in
          let in_ : is_in key (Some t) ≡ b = ap (λ (o : Option ℕ). same_kind q.kind p.kind && ((eqb q.port p.port) && is_source source o)) e in
          let is : keyed f ≡ Some k2 = ap (λ (o : Option ℕ). with_source q.kind q.port o f) e in
          let h = history key log in
          (elim (cases_Bool b) as (λ _. told (line_by why (Some t) ∷ ls) ≡ given (k2 ∷ log)) [
            | inr n ↦
                ap (λ (b : Bool). line_of (last (cond b (line_by why (Some t) ∷ of_session key ls) (of_session key ls)))) (in_ ∙ n)
                ∙ (ih
                ∙ (ap (λ (b : Bool). cond b (last_line (received crc_of w.timeout h).delivered) 0) (sym (same_admitted p source k2 log n))
                ∙ ap (λ (g : List KeyRecord). cond (known (k2 ∷ log)) (last_line (received crc_of w.timeout g).delivered) 0) (sym (cond-false b (key_record f ∷ h) h n))))
            | inl y ↦
                (let parts = and_parts (same_kind q.kind p.kind) ((eqb q.port p.port) && (eqb s source)) y in
                let more = and_parts (eqb q.port p.port) (eqb s source) parts.1 in
                let kind_is : q.kind ≡ p.kind = same_kind_true q.kind p.kind parts.0 in
                let port_is : q.port ≡ p.port = eqb-true q.port p.port more.0 in
                let source_is : s ≡ source = eqb-true s source more.1 in
                let k1 : KeyedFrame = record { key = key; rec = key_record f } in
                let same : k2 ≡ k1 = λ i. record { key = key_of (kind_is i) (port_is i) (source_is i); rec = key_record f } in
                let on_is : port_on w.ports f ≡ Some p = (λ i. port_at (kind_is i) (port_is i) w.ports) ∙ on in
                let why_is : why ≡ of_source w.timeout p k1 log = ap (of_port w.timeout f log) on_is ∙ ap (on_port w.timeout p f log) (is ∙ ap Some same) in
                ap (λ (x : Reason). told (line_by x (Some t) ∷ ls)) why_is
                ∙ (session_step f at t (in_ ∙ y) ∙ ap (λ (x : KeyedFrame). given (x ∷ log)) (sym same)))
          ]
          ∙ ap (λ (o : Option KeyedFrame). given (log_with o log)) (sym is))

      for_node : told (line_by why (Some t) ∷ ls) ≡ given (log_with (keyed f) log)
      for_node = go q.source refl
        where
          go : (o : Option ℕ) → q.source ≡ o → told (line_by why (Some t) ∷ ls) ≡ given (log_with (keyed f) log)
          go None e = with_none e
          go (Some s) e = with_some s e

    frame_step : (r : Result FrameOf Discard) → read_of rec ≡ r → told (line_by (of_read w log r) (transfer_in (result_ok r)) ∷ ls) ≡ given (with_frame (if_for w.own (result_ok r)) log)
    frame_step (Err why) e = quietly (Discarded why) None (λ t. refl) ∙ ih
    frame_step (Ok f) e =
        let mine = is_for w.own f.ident in
        let tr = Some (transfer_of f) in
        elim (cases_Bool mine) as (λ _. told (line_by (of_frame w f log) tr ∷ ls) ≡ given (with_frame (cond mine (Some f) None) log)) [
          | inr n ↦
              (let quiet_ = aside_quiet w.own f.ident n in
              quietly (of_frame w f log) tr (λ t. ap (delivery_by rec.line t) (ap (or_on_port w f log) quiet_.is) ∙ quiet_.none rec.line t)
              ∙ (ih ∙ ap (λ (o : Option FrameOf). given (with_frame o log)) (sym (cond-false mine (Some f) None n))))
          | inl y ↦
              ap (λ (o : Option Reason). told (line_by (or_on_port w f log o) tr ∷ ls)) (aside_none w.own f.ident y)
              ∙ (for_node f (frame_line_is rec f (frame_read rec f e)) ∙ ap (λ (o : Option FrameOf). given (with_frame o log)) (sym (cond-true mine (Some f) None y)))
        ]

    record_step : told (line_by (of_read w log (read_of rec)) (transfer_in (frame_of rec)) ∷ ls) ≡ given (with_frame (if_for w.own (frame_of rec)) log)
    record_step =
        subst (λ (o : Option FrameOf). told (line_by (of_read w log (read_of rec)) (transfer_in o) ∷ ls) ≡ given (with_frame (if_for w.own o) log)) (sym (reads_each.frames rec))
        (frame_step (read_of rec) refl)

  -- so it is of all records
  pub last_is : (past : List Record) → told (lines w past) ≡ given (frames w.own past)
  last_is [] = sym (same_both (known []) 0)
  last_is (rec ∷ past) = record_step rec (frames w.own past) (lines w past) (last_is past)
