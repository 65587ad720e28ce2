-- What is told of a record is what a run tells of it.
use Rattle.std.proofs.Common.{◌≡◌, ◌∙◌, ℕ, Bool, true, false, cond, not, ◌&&◌, eqb, List, [], ◌∷◌, Option, Some, None, Result, Ok, Err, refl, sym, ap, subst, inl, inr}
use Rattle.std.specs.Result.{result_ok}
use Rattle.std.proofs.lemmas.Bool.{cases_Bool, and_left, cond-false, cond-true}
use Rattle.can_id.specs.Identifiers.{key_of as key_of_ident}
use Rattle.can_id.specs.declared.ident.Ident.{Ident}
use Rattle.can_id.specs.declared.ident.Ident.TheVariants as ident
use Rattle.can_id.specs.declared.key.Key.{Key}
use Rattle.can_id.specs.declared.key.Kind.{Kind}
use Rattle.tail_frame.specs.Chains.{KeyRecord, chain_bytes, follows, tip}
use Rattle.tail_frame.specs.Frames.{FrameOf, frame_of}
use Rattle.tail_frame.specs.declared.discard.Discard.{Discard}
use Rattle.tail_frame.specs.declared.logged.Record.{Record}
use Rattle.transfer_crc.specs.Crc.{crc_of}
use Rattle.redundancy.specs.Force.{force, heard}
use Rattle.rx_table.specs.Heard.{frames, if_for, is_for}
use Rattle.rx_table.specs.Keys.{KeyedFrame, history}
use Rattle.rx_table.specs.Ports.{Port, is_admitted}
use Rattle.rx_table.specs.Received.{Delivery, Run, begins, received}
use Rattle.rx_table.specs.Steps.{delivery_at, is_bad}
use Rattle.rx_table.specs.Table.{port_on, with_source}
use Rattle.node_plan.specs.declared.plan.Plan.{Plan}
use Rattle.node_core.specs.Heard.{ports_of}
use Rattle.node_core.specs.Received.{bad_of_frame, bad_of_source, bad_on_port, of_delivery, of_frame as run_frame, of_session, of_source as run_source, on_port as run_port, refused_line}
use Rattle.report_lines.specs.declared.line.Line.{Line}
use Rattle.log_explain.specs.ReasonLaws.{delivered_at, is_badcrc, lines_of}
use Rattle.log_explain.specs.Reads.{read_of}
use Rattle.log_explain.specs.Reasons.{aside, begun_reason, ended, of_heard, of_key, of_port, of_read, of_run, of_source, on_port, or_on_port, running, from, stray, unheard, last_line}
use Rattle.log_explain.specs.declared.reasons.reason.Change.{Change}
use Rattle.log_explain.specs.declared.reasons.reason.Reason.{Reason}
use Rattle.log_explain.specs.declared.reasons.reason.Reason.TheVariants.{BadCrc, Begun, Copy, Delivered, Elsewhere, NoSession, Own, StrayNone, StrayTid, StrayToggle, Taken, Unknown}
use Rattle.log_explain.proofs.Deliveries.{tells_are}
use Rattle.log_explain.proofs.Discards.{frame_read, reads_each}
use Rattle.log_explain.specs.Explained.{listens_by}
use Rattle.log_explain.specs.Laws.{AsRun, listed, nosession_lines, refused_at, rx_lines}
use Rattle.log_explain.proofs.Lasts.{aside_none, frame_line_is}

-- a reason and the lines of a run say the same of a record
record Same (line : ℕ) (reason : Reason) (said : List Line) (bad : Bool) : Type 0 where
  delivered : listed (delivered_at line reason) ≡ rx_lines said
  refused : refused_at line reason ≡ nosession_lines said
  fails : is_badcrc reason ≡ bad

-- a reason that is none of these
abbrev Other : ℕ → Reason → Type 0
Other line reason = Same line reason [] false

aside_other : (own : ℕ) (i : Ident) (line : ℕ) → is_for own i ≡ false → (reason : Reason) × (aside own i ≡ Some reason) × Other line reason
aside_other own (ident.Message priority subject source) line n = go (eqb source own) refl n
  where
    go : (b : Bool) → eqb source own ≡ b → not (eqb source own) ≡ false → (reason : Reason) × (cond (eqb source own) (Some Own) None ≡ Some reason) × Other line reason
    go true e n = (Own, cond-true (eqb source own) (Some Own) None e, record { delivered = refl; refused = refl; fails = refl })
    go false e n = absurd (let x : true ≡ false = ap not (sym e) ∙ n in cc)
aside_other own (ident.Anonymous priority subject pseudo) line n = absurd cc
aside_other own (ident.Service priority request service destination source) line n = go (eqb source own) refl (eqb destination own) refl n
  where
    go : (a : Bool) → eqb source own ≡ a → (b : Bool) → eqb destination own ≡ b → (not (eqb source own) && eqb destination own) ≡ false → (reason : Reason) × (cond (eqb source own) (Some Own) (cond (eqb destination own) None (Some (Elsewhere destination))) ≡ Some reason) × Other line reason
    go true e b d n = (Own, cond-true (eqb source own) (Some Own) (cond (eqb destination own) None (Some (Elsewhere destination))) e, record { delivered = refl; refused = refl; fails = refl })
    go false e false d n = (
      Elsewhere destination,
      cond-false (eqb source own) (Some Own) (cond (eqb destination own) None (Some (Elsewhere destination))) e ∙ cond-false (eqb destination own) None (Some (Elsewhere destination)) d,
      record { delivered = refl; refused = refl; fails = refl },
    )
    go false e true d n = absurd (let x : true ≡ false = (λ i. not (sym e i) && sym d i) ∙ n in cc)

-- no session is refused to a source that has one
abbrev Kept : ℕ → Reason → Type 0
Kept line reason = refused_at line reason ≡ []

kept_both : (line : ℕ) (b : Bool) (x y : Reason) → Kept line x → Kept line y → Kept line (cond b x y)
kept_both line true x y p q = p
kept_both line false x y p q = q

kept_run : (line : ℕ) (r : KeyRecord) (o : Option Run) → Kept line (of_run crc_of r o)
kept_run line r None = refl
kept_run line r (Some run) =
    let a = run.first in
    kept_both line (follows a (tip a run.since) r) (cond r.end (ended crc_of r run) (Taken a.line)) (stray r run)
    (kept_both line r.end (ended crc_of r run) (Taken a.line) (kept_both line (eqb (crc_of (chain_bytes a (r ∷ run.since))) 0) (Delivered a.line (record { over = None; from = None })) (BadCrc a.line) refl refl) refl)
    (kept_both line (tip a run.since).end StrayNone (cond (eqb r.tid a.tid) (StrayToggle a.line) (StrayTid a.tid)) refl (kept_both line (eqb r.tid a.tid) (StrayToggle a.line) (StrayTid a.tid) refl refl))

kept_unheard : (line : ℕ) (r : KeyRecord) (past : List KeyRecord) (o : Option ℕ) → Kept line (unheard r past o)
kept_unheard line r past None = refl
kept_unheard line r past (Some bus) = refl

kept_key : (line timeout : ℕ) (r : KeyRecord) (past : List KeyRecord) → Kept line (of_key crc_of timeout r past)
kept_key line timeout r past =
    let got = received crc_of timeout past in
    let change : Change = record { over = running got.begun; from = from r past (force timeout past) } in
    kept_both line (heard timeout r past) (of_heard crc_of timeout r past got) (unheard r past (force timeout past))
    (kept_both line (begins timeout r past got.delivered) (begun_reason r change) (cond r.start (Copy (last_line got.delivered)) (of_run crc_of r got.begun))
    (kept_both line r.end (Delivered r.line change) (Begun change) refl refl)
    (kept_both line r.start (Copy (last_line got.delivered)) (of_run crc_of r got.begun) refl (kept_run line r got.begun)))
    (kept_unheard line r past (force timeout past))

module _ (plan : Plan) (rec : Record) (log : List KeyedFrame) where
  -- the line on a delivery
  of_delivery_is : (extent : ℕ) (key : Key) (o : Option Delivery) → rx_lines (of_delivery plan extent key o) ≡ listed (lines_of o)
  of_delivery_is extent key None = refl
  of_delivery_is extent key (Some d) = refl

  none_refused : (extent : ℕ) (key : Key) (o : Option Delivery) → nosession_lines (of_delivery plan extent key o) ≡ []
  none_refused extent key None = refl
  none_refused extent key (Some d) = refl

  -- a frame of a source on a port
  of_session_is : (p : Port) (key : Key) (k : KeyedFrame) → k.rec.line ≡ rec.line → Same rec.line (of_source plan.timeout p k log) (of_session plan p key k log) (bad_of_source plan.timeout p log (Some k))
  of_session_is p key k at =
      let adm = is_admitted p k log in
      let h = history k.key log in
      let of = of_key crc_of plan.timeout k.rec h in
      let none = cond k.rec.start NoSession Unknown in
      let d = delivery_at crc_of plan.timeout k.rec h in
      let told = of_delivery plan p.extent key d in
      let out = cond k.rec.start (refused_line key k.rec ∷ []) [] in
      let bad = is_bad crc_of plan.timeout k.rec h in
      elim (cases_Bool adm) as (λ _. Same rec.line (cond adm of none) (cond adm told out) (adm && bad)) [
        | inl y ↦ record {
          delivered = ap (λ (x : Reason). listed (delivered_at rec.line x)) (cond-true adm of none y)
              ∙ (ap (λ (n : ℕ). listed (delivered_at n of)) (sym at)
              ∙ (ap listed (tells_are.deliveries crc_of plan.timeout k.rec h)
              ∙ (sym (of_delivery_is p.extent key d) ∙ ap rx_lines (sym (cond-true adm told out y)))));
          refused = ap (refused_at rec.line) (cond-true adm of none y)
              ∙ (kept_key rec.line plan.timeout k.rec h ∙ (sym (none_refused p.extent key d) ∙ ap nosession_lines (sym (cond-true adm told out y))));
          fails = ap is_badcrc (cond-true adm of none y) ∙ (tells_are.bad_crcs crc_of plan.timeout k.rec h ∙ ap (λ (b : Bool). b && bad) (sym y));
        }
        | inr n ↦
            (let s = start_is key k at k.rec.start in record {
              delivered = ap (λ (x : Reason). listed (delivered_at rec.line x)) (cond-false adm of none n) ∙ (s.delivered ∙ ap rx_lines (sym (cond-false adm told out n)));
              refused = ap (refused_at rec.line) (cond-false adm of none n) ∙ (s.refused ∙ ap nosession_lines (sym (cond-false adm told out n)));
              fails = ap is_badcrc (cond-false adm of none n) ∙ (s.fails ∙ sym (and_left adm bad n));
            })
      ]
    where
      start_is : (key : Key) (k : KeyedFrame) → k.rec.line ≡ rec.line → (b : Bool) → Same rec.line (cond b NoSession Unknown) (cond b (refused_line key k.rec ∷ []) []) false
      start_is key k at true = record { delivered = refl; refused = ap (λ (n : ℕ). let rest : List ℕ = [] in n ∷ rest) (sym at); fails = refl }
      start_is key k at false = record { delivered = refl; refused = refl; fails = refl }

  -- a frame on a port
  on_port_is : (p : Port) (f : FrameOf) (o : Option ℕ) (kind : Kind) (port : ℕ) → f.line ≡ rec.line → Same rec.line (on_port plan.timeout p f log (with_source kind port o f)) (run_source plan p f log (with_source kind port o f)) (bad_of_source plan.timeout p log (with_source kind port o f))
  on_port_is p f None kind port at = record { delivered = (λ i. let rest : List (ℕ × ℕ) = [] in (f.line, sym at i) ∷ rest); refused = refl; fails = refl }
  on_port_is p f (Some s) kind port at = of_session_is p (key_of_ident f.ident) _ at

  of_port_is : (o : Option Port) (f : FrameOf) → f.line ≡ rec.line → Same rec.line (of_port plan.timeout f log o) (run_port plan f log o) (bad_on_port plan.timeout f log o)
  of_port_is None f at = record { delivered = refl; refused = refl; fails = refl }
  of_port_is (Some p) f at = (let q = key_of_ident f.ident in on_port_is p f q.source q.kind q.port at)

  frame_is : (r : Result FrameOf Discard) → read_of rec ≡ r → Same rec.line (of_read (listens_by plan) log r) (run_frame plan log (if_for plan.node (result_ok r))) (bad_of_frame plan log (if_for plan.node (result_ok r)))
  frame_is (Err why) e = record { delivered = refl; refused = refl; fails = refl }
  frame_is (Ok f) e =
      let mine = is_for plan.node f.ident in
      let w = listens_by plan in
      let why = or_on_port w f log in
      elim (cases_Bool mine) as (λ _. Same rec.line (why (aside plan.node f.ident)) (run_frame plan log (cond mine (Some f) None)) (bad_of_frame plan log (cond mine (Some f) None))) [
        | inr n ↦
            (let a = aside_other plan.node f.ident rec.line n in
            subst (λ (o : Option FrameOf). Same rec.line (why (aside plan.node f.ident)) (run_frame plan log o) (bad_of_frame plan log o)) (sym (cond-false mine (Some f) None n))
            (subst (λ (o : Option Reason). Other rec.line (why o)) (sym a.1) a.2))
        | inl y ↦
            subst (λ (o : Option FrameOf). Same rec.line (why (aside plan.node f.ident)) (run_frame plan log o) (bad_of_frame plan log o)) (sym (cond-true mine (Some f) None y))
            (subst (λ (o : Option Reason). Same rec.line (why o) (run_port plan f log (port_on (ports_of plan) f)) (bad_on_port plan.timeout f log (port_on (ports_of plan) f))) (sym (aside_none plan.node f.ident y))
            (of_port_is (port_on (ports_of plan) f) f (frame_line_is rec f (frame_read rec f e))))
      ]

  record_is : Same rec.line (of_read (listens_by plan) log (read_of rec)) (run_frame plan log (if_for plan.node (frame_of rec))) (bad_of_frame plan log (if_for plan.node (frame_of rec)))
  record_is =
      subst (λ (o : Option FrameOf). Same rec.line (of_read (listens_by plan) log (read_of rec)) (run_frame plan log (if_for plan.node o)) (bad_of_frame plan log (if_for plan.node o))) (sym (reads_each.frames rec))
      (frame_is (read_of rec) refl)

pub as_run : AsRun
as_run = record {
  delivered = λ plan rec past. (record_is plan rec (frames plan.node past)).delivered;
  refused = λ plan rec past. (record_is plan rec (frames plan.node past)).refused;
  bad_crcs = λ plan rec past. (record_is plan rec (frames plan.node past)).fails;
}
