-- The lines of a session that say `delivered` tell what a run reports of it.
use Rattle.std.proofs.Common.{◌≡◌, ◌∙◌, ℕ, true, false, cond, ◌&&◌, eqb, List, [], ◌∷◌, ◌++◌, length, Option, Some, None, refl, sym, ap, subst, inl, inr, append-nil}
use Rattle.std.specs.Prelude.{⊤}
use Rattle.std.proofs.lemmas.Bool.{and_parts, cases_Bool, cond-false, cond-true, cond_both, eqb-true}
use Rattle.can_id.specs.Identifiers.{key_of as key_of_ident}
use Rattle.can_id.specs.declared.key.Key.{Key}
use Rattle.can_id.specs.declared.key.Kind.{Kind}
use Rattle.tail_frame.specs.Chains.{KeyRecord, chain_bytes, closes_at, follows, tip, without_crc}
use Rattle.tail_frame.specs.Frames.{FrameOf, frame_of, key_record}
use Rattle.tail_frame.specs.declared.logged.Record.{Record}
use Rattle.transfer_crc.specs.Crc.{crc_of}
use Rattle.frag.proofs.Follows.{follows_parts}
use Rattle.rx_table.specs.Heard.{frames, if_for, is_for}
use Rattle.rx_table.specs.Keys.{KeyedFrame, SessionKey, history, same_kind}
use Rattle.rx_table.specs.Ports.{Port, is_admitted}
use Rattle.rx_table.specs.Received.{Delivery, Run, begins, received}
use Rattle.rx_table.specs.Steps.{delivery_at, of_run as delivery_of}
use Rattle.rx_table.specs.Table.{port_on, with_source}
use Rattle.delivery_theorems.specs.Report.{Rx as RxOf, reported}
use Rattle.node_plan.specs.declared.plan.Plan.{Plan}
use Rattle.node_core.specs.Heard.{ports_of}
use Rattle.node_core.specs.Received.{got, of_delivery, of_frame, of_session as run_session, of_source, on_port, refused_line}
use Rattle.node_core.specs.Steps.{Heard, Step, lines as run_lines, lines_at, records}
use Rattle.node_core.specs.declared.file_reply.FileReply.TheVariants.{NoFile}
use Rattle.report_lines.specs.declared.line.Line.{Line}
use Rattle.report_lines.specs.declared.line.Line.TheVariants.{Rx, NoSession as Refusal, Tx, Full}
use Rattle.session_lines.specs.Reported.{IsSession, Reported, is_key, is_source, of_key, rxs, without_key}
use Rattle.session_lines.proofs.Projection.{same_kind-true}
use Rattle.session_lines.proofs.Sending.{rxs_append, rxs_at}
use Rattle.log_explain.specs.ReasonLaws.{delivered_at}
use Rattle.log_explain.specs.declared.reasons.reason.Reason.{Reason}
use Rattle.log_explain.specs.declared.reasons.reason.Reason.TheVariants.{
  BadCrc,
  Begun,
  Copy,
  Delivered,
  Discarded,
  Elsewhere,
  NoSession,
  Own,
  Standby,
  StrayNone,
  StrayTid,
  StrayToggle,
  Taken,
  Unknown,
  Unsubscribed,
}
use Rattle.log_explain.specs.Counts.{is_delivered}
use Rattle.log_explain.specs.Explained.{listens_by}
use Rattle.log_explain.specs.Laws.{AsRun, listed, rx_lines}
use Rattle.log_explain.specs.Lines.{is_in, line_on, lines, of_session, transfer_in}
use Rattle.log_explain.specs.declared.line.FrameLine.{FrameLine}
use Rattle.cyphal.specs.Delivered.{delivered}

-- ---- a line of explain, and one of a run

-- the key of a session, as the frames of its source have it
abbrev pub key_in : SessionKey → Key
key_in key = record { kind = key.kind; port = key.port; source = Some key.source }

-- a line tells the transfer that a line of a run reports of a session
pub record IsTold (key : SessionKey) (line : FrameLine) (rx : RxOf) : Type 0 where
  pub last : line.line ≡ rx.last
  pub transfer : line.transfer ≡ Some (record { key = key_in key; tid = rx.tid })

abbrev pub AreTold : SessionKey → List FrameLine → List RxOf → Type 0
AreTold key [] [] = ⊤
AreTold key [] (rx ∷ rxs) = ⊥
AreTold key (line ∷ lines) [] = ⊥
AreTold key (line ∷ lines) (rx ∷ rxs) = IsTold key line rx × AreTold key lines rxs

told_append : (key : SessionKey) (a : List FrameLine) (x : List RxOf) (b : List FrameLine) (y : List RxOf) → AreTold key a x → AreTold key b y → AreTold key (a ++ b) (x ++ y)
told_append key [] [] b y p q = q
told_append key [] (rx ∷ x) b y p q = absurd p
told_append key (line ∷ a) [] b y p q = absurd p
told_append key (line ∷ a) (rx ∷ x) b y p q = (p.0, told_append key a x b y p.1 q)

-- ---- a session's lines, one more

-- the line, where it is of a session and says `delivered`
abbrev here : SessionKey → FrameLine → List FrameLine
here key line = cond (is_in key line.transfer) (cond (is_delivered line.reason) (line ∷ []) []) []

one_more : (key : SessionKey) (line : FrameLine) (past : List FrameLine) → delivered (of_session key (line ∷ past)) ≡ delivered (of_session key past) ++ here key line
one_more key line past =
    let mine = is_in key line.transfer in
    let says = cond (is_delivered line.reason) (line ∷ []) [] in
    let before = of_session key past in
    elim (cases_Bool mine) [
      | inl y ↦ ap delivered (cond-true mine (line ∷ before) before y) ∙ ap (λ (t : List FrameLine). delivered before ++ t) (sym (cond-true mine says [] y))
      | inr n ↦
          ap delivered (cond-false mine (line ∷ before) before n)
          ∙ (sym (append-nil (delivered before)) ∙ ap (λ (t : List FrameLine). delivered before ++ t) (sym (cond-false mine says [] n)))
    ]

-- ---- a run's lines on a frame are of its key and transfer-ID

abbrev AreOf : Key → ℕ → List Line → Type 0
AreOf key tid [] = ⊤
AreOf key tid (Rx rx ∷ ls) = (rx.key ≡ key) × (rx.tid ≡ tid) × AreOf key tid ls
AreOf key tid (Refusal refused ∷ ls) = AreOf key tid ls
AreOf key tid (Tx tx ∷ ls) = AreOf key tid ls
AreOf key tid (Full full ∷ ls) = AreOf key tid ls

abbrev HasTid : ℕ → Option Delivery → Type 0
HasTid tid None = ⊤
HasTid tid (Some d) = d.first.tid ≡ tid

run_tid : (timeout : ℕ) (r : KeyRecord) (past : List KeyRecord) (o : Option Run) → HasTid r.tid (delivery_of crc_of timeout r past o)
run_tid timeout r past None = tt
run_tid timeout r past (Some run) =
    let a = run.first in
    let closes = closes_at a run.since r in
    let fits = eqb (crc_of (chain_bytes a (r ∷ run.since))) 0 in
    let d : Delivery = record { first = a; last = r; place = length past; content = without_crc (chain_bytes a (r ∷ run.since)) } in
    cond_both (closes && fits) (Some d) None (HasTid r.tid)
    (λ y. let p = and_parts closes fits y in let q = and_parts (follows a (tip a run.since) r) r.end p.0 in sym (follows_parts a (tip a run.since) r q.0).tid)
    (λ _. tt)

delivery_tid : (timeout : ℕ) (r : KeyRecord) (past : List KeyRecord) → HasTid r.tid (delivery_at crc_of timeout r past)
delivery_tid timeout r past =
    let g = received crc_of timeout past in
    let d : Delivery = record { first = r; last = r; place = length past; content = r.body } in
    cond_both (begins timeout r past g.delivered) (cond r.end (Some d) None) (delivery_of crc_of timeout r past g.begun) (HasTid r.tid)
    (λ _. cond_both r.end (Some d) None (HasTid r.tid) (λ _. refl) (λ _. tt))
    (λ _. run_tid timeout r past g.begun)

module _ (plan : Plan) (log : List KeyedFrame) where
  delivery_line : (extent : ℕ) (key : Key) (tid : ℕ) (o : Option Delivery) → HasTid tid o → AreOf key tid (of_delivery plan extent key o)
  delivery_line extent key tid None h = tt
  delivery_line extent key tid (Some d) h = (refl, h, tt)

  session_lines : (p : Port) (key : Key) (k : KeyedFrame) → AreOf key k.rec.tid (run_session plan p key k log)
  session_lines p key k =
      let past = history k.key log in
      let d = delivery_at crc_of plan.timeout k.rec past in
      cond_both (is_admitted p k log) (of_delivery plan p.extent key d) (cond k.rec.start (refused_line key k.rec ∷ []) []) (AreOf key k.rec.tid)
      (λ _. delivery_line p.extent key k.rec.tid d (delivery_tid plan.timeout k.rec past))
      (λ _. cond_both k.rec.start (refused_line key k.rec ∷ []) [] (AreOf key k.rec.tid) (λ _. tt) (λ _. tt))

  source_lines : (p : Port) (f : FrameOf) (kind : Kind) (port : ℕ) (source : Option ℕ) → AreOf (key_of_ident f.ident) f.tail.tid (of_source plan p f log (with_source kind port source f))
  source_lines p f kind port None = (refl, refl, tt)
  source_lines p f kind port (Some s) = session_lines p (key_of_ident f.ident) (record { key = record { kind = kind; port = port; source = s }; rec = key_record f })

  port_lines : (f : FrameOf) (o : Option Port) → AreOf (key_of_ident f.ident) f.tail.tid (on_port plan f log o)
  port_lines f None = tt
  port_lines f (Some p) = let k = key_of_ident f.ident in source_lines p f k.kind k.port k.source

  frame_lines : (f : FrameOf) → AreOf (key_of_ident f.ident) f.tail.tid (of_frame plan log (if_for plan.node (Some f)))
  frame_lines f =
      cond_both (is_for plan.node f.ident) (Some f) None (λ (o : Option FrameOf). AreOf (key_of_ident f.ident) f.tail.tid (of_frame plan log o))
      (λ _. port_lines f (port_on (ports_of plan) f)) (λ _. tt)

-- ---- the line on a record tells what a run reports of it

module _ (key : SessionKey) where
  none_reported : (ls : List Line) → rx_lines ls ≡ [] → rxs key ls ≡ []
  none_reported [] e = refl
  none_reported (Rx rx ∷ ls) e = absurd cc
  none_reported (Refusal refused ∷ ls) e = none_reported ls e
  none_reported (Tx tx ∷ ls) e = none_reported ls e
  none_reported (Full full ∷ ls) e = none_reported ls e

  -- a transfer is of a session exactly where its key is
  is_in_key : (k : Key) (tid : ℕ) → is_in key (Some (record { key = k; tid = tid })) ≡ is_key key k
  is_in_key k tid = by_source k.source
    where
      by_source : (s : Option ℕ) → is_in key (Some (record { key = record { kind = k.kind; port = k.port; source = s }; tid = tid })) ≡ is_key key (record { kind = k.kind; port = k.port; source = s })
      by_source None = refl
      by_source (Some s) = refl

  key_is : (k : Key) → is_key key k ≡ true → k ≡ key_in key
  key_is k y = by_source k.source y
    where
      by_source : (s : Option ℕ) → (same_kind k.kind key.kind && (eqb k.port key.port && is_source s key.source)) ≡ true → record { kind = k.kind; port = k.port; source = s } ≡ key_in key
      by_source None y = absurd (let a = and_parts (same_kind k.kind key.kind) (eqb k.port key.port && false) y in let b = and_parts (eqb k.port key.port) false a.1 in let c : false ≡ true = b.1 in cc)
      by_source (Some s) y =
          let a = and_parts (same_kind k.kind key.kind) (eqb k.port key.port && eqb s key.source) y in
          let b = and_parts (eqb k.port key.port) (eqb s key.source) a.1 in
          let kind = same_kind-true k.kind key.kind a.0 in
          let port = eqb-true k.port key.port b.0 in
          let source = eqb-true s key.source b.1 in
          λ i. record { kind = kind i; port = port i; source = Some (source i) }

  module _ (line : FrameLine) where
    -- a line that says `delivered`, and the one line of the run that says the same
    one_reported : (k : Key) (tid first : ℕ) (ls : List Line) → AreOf k tid ls → line.transfer ≡ Some (record { key = k; tid = tid }) → (first, line.line) ∷ [] ≡ rx_lines ls
        → AreTold key (cond (is_in key line.transfer) (line ∷ []) []) (rxs key ls)
    one_reported k tid first [] of t e = absurd cc
    one_reported k tid first (Refusal refused ∷ ls) of t e = one_reported k tid first ls of t e
    one_reported k tid first (Tx tx ∷ ls) of t e = one_reported k tid first ls of t e
    one_reported k tid first (Full full ∷ ls) of t e = one_reported k tid first ls of t e
    one_reported k tid first (Rx rx ∷ ls) of t e =
        let rest : rx_lines ls ≡ [] = cc in
        let head : (first, line.line) ≡ (rx.first, rx.last) = cc in
        let last : line.line ≡ rx.last = ap (λ (lines : ℕ × ℕ). lines.1) head in
        let none = none_reported ls rest in
        let mine = is_in key line.transfer in
        let same : mine ≡ is_key key rx.key = ap (is_in key) t ∙ (is_in_key k tid ∙ ap (is_key key) (sym of.0)) in
        let said = is_key key rx.key in
        elim (cases_Bool said) [
          | inl y ↦
              (let told : IsTold key line (without_key rx) = record {
                last = last;
                transfer = t ∙ (λ i. Some (record { key = (sym of.0 ∙ key_is rx.key y) i; tid = sym of.1 i }));
              } in
              subst (λ (a : List FrameLine). AreTold key a (rxs key (Rx rx ∷ ls))) (sym (cond-true mine (line ∷ []) [] (same ∙ y)))
              (subst (AreTold key (line ∷ [])) (λ i. sym (cond-true said (without_key rx ∷ []) [] y) i ++ sym none i) (told, tt)))
          | inr n ↦
              subst (λ (a : List FrameLine). AreTold key a (rxs key (Rx rx ∷ ls))) (sym (cond-false mine (line ∷ []) [] (same ∙ n)))
              (subst (AreTold key []) (λ i. sym (cond-false said (without_key rx ∷ []) [] n) i ++ sym none i) tt)
        ]

    -- a line that doesn't
    no_line : is_delivered line.reason ≡ false → here key line ≡ []
    no_line n =
        let mine = is_in key line.transfer in
        cond_both mine (cond (is_delivered line.reason) (line ∷ []) []) [] (λ (t : List FrameLine). t ≡ []) (λ _. cond-false (is_delivered line.reason) (line ∷ []) [] n) (λ _. refl)

    other : (ls : List Line) → is_delivered line.reason ≡ false → [] ≡ rx_lines ls → AreTold key (here key line) (rxs key ls)
    other ls n e =
        subst (λ (a : List FrameLine). AreTold key a (rxs key ls)) (sym (no_line n)) (subst (AreTold key []) (sym (none_reported ls (sym e))) tt)

    by_reason : (k : Key) (tid : ℕ) (ls : List Line) → AreOf k tid ls → line.transfer ≡ Some (record { key = k; tid = tid })
        → (reason : Reason) → line.reason ≡ reason → listed (delivered_at line.line reason) ≡ rx_lines ls → AreTold key (here key line) (rxs key ls)
    by_reason k tid ls of t (Delivered first change) is e =
        let mine = is_in key line.transfer in
        let says : cond (is_delivered line.reason) (line ∷ []) [] ≡ line ∷ [] = ap (λ (x : Reason). cond (is_delivered x) (line ∷ []) []) is in
        subst (λ (a : List FrameLine). AreTold key (cond mine a []) (rxs key ls)) (sym says) (one_reported k tid first ls of t e)
    by_reason k tid ls of t (Discarded why) is e = other ls (ap is_delivered is) e
    by_reason k tid ls of t Own is e = other ls (ap is_delivered is) e
    by_reason k tid ls of t (Elsewhere node) is e = other ls (ap is_delivered is) e
    by_reason k tid ls of t Unsubscribed is e = other ls (ap is_delivered is) e
    by_reason k tid ls of t Unknown is e = other ls (ap is_delivered is) e
    by_reason k tid ls of t NoSession is e = other ls (ap is_delivered is) e
    by_reason k tid ls of t (Standby silence) is e = other ls (ap is_delivered is) e
    by_reason k tid ls of t (Copy n) is e = other ls (ap is_delivered is) e
    by_reason k tid ls of t (Begun change) is e = other ls (ap is_delivered is) e
    by_reason k tid ls of t (BadCrc first) is e = other ls (ap is_delivered is) e
    by_reason k tid ls of t (Taken first) is e = other ls (ap is_delivered is) e
    by_reason k tid ls of t StrayNone is e = other ls (ap is_delivered is) e
    by_reason k tid ls of t (StrayTid n) is e = other ls (ap is_delivered is) e
    by_reason k tid ls of t (StrayToggle first) is e = other ls (ap is_delivered is) e

  module _ (as_run : AsRun) (plan : Plan) where
    -- the lines of the session that say `delivered`
    abbrev says_in : List Record → List FrameLine
    says_in past = delivered (of_session key (lines (listens_by plan) past))

    abbrev told_on : Record → List Record → FrameLine
    told_on rec past = line_on (listens_by plan) rec past

    by_frame : (rec : Record) (past : List Record) (o : Option FrameOf) → frame_of rec ≡ o → AreTold key (here key (told_on rec past)) (rxs key (got plan rec past))
    by_frame rec past None e =
        let line = told_on rec past in
        let none : got plan rec past ≡ [] = ap (λ (o : Option FrameOf). of_frame plan (frames plan.node past) (if_for plan.node o)) e in
        let other : is_in key line.transfer ≡ false = ap (λ (o : Option FrameOf). is_in key (transfer_in o)) e in
        let says = cond (is_delivered line.reason) (line ∷ []) [] in
        subst (λ (a : List FrameLine). AreTold key a (rxs key (got plan rec past))) (sym (cond-false (is_in key line.transfer) says [] other))
        (subst (λ (ls : List Line). AreTold key [] (rxs key ls)) (sym none) tt)
    by_frame rec past (Some f) e =
        let line = told_on rec past in
        let log = frames plan.node past in
        let k = key_of_ident f.ident in
        let of : AreOf k f.tail.tid (got plan rec past) =
        subst (λ (o : Option FrameOf). AreOf k f.tail.tid (of_frame plan log (if_for plan.node o))) (sym e) (frame_lines plan log f) in
        by_reason line k f.tail.tid (got plan rec past) of (ap transfer_in e) line.reason refl (as_run.delivered plan rec past)

    record_told : (rec : Record) (past : List Record) → AreTold key (here key (told_on rec past)) (rxs key (got plan rec past))
    record_told rec past = by_frame rec past (frame_of rec) refl

    -- over all records: the steps of a run in which nothing but these is heard
    heard : List Record → List Step
    heard [] = []
    heard (rec ∷ past) = Heard rec NoFile ∷ heard past

    records_heard : (past : List Record) → records (heard past) ≡ past
    unfolding heard
    records_heard [] = refl
    records_heard (rec ∷ past) = ap (λ (t : List Record). rec ∷ t) (records_heard past)

    all_told : (past : List Record) → AreTold key (says_in past) (rxs key (run_lines plan (heard past)))
    unfolding heard
    all_told [] = tt
    all_told (rec ∷ past) =
        let step = Heard rec NoFile in
        let w = listens_by plan in
        let same : rxs key (got plan rec (records (heard past))) ≡ rxs key (got plan rec past) = ap (λ (t : List Record). rxs key (got plan rec t)) (records_heard past) in
        let more : rxs key (run_lines plan (heard (rec ∷ past))) ≡ rxs key (run_lines plan (heard past)) ++ rxs key (got plan rec past) =
        rxs_append key (run_lines plan (heard past)) (lines_at plan step (heard past))
        ∙ ap (λ (t : List RxOf). rxs key (run_lines plan (heard past)) ++ t) (rxs_at key plan step (heard past) ∙ same) in
        let both = told_append key (says_in past) (rxs key (run_lines plan (heard past))) (here key (line_on w rec past)) (rxs key (got plan rec past)) (all_told past) (record_told rec past) in
        subst (λ (a : List FrameLine). AreTold key a (rxs key (run_lines plan (heard (rec ∷ past))))) (sym (one_more key (line_on w rec past) (lines w past)))
        (subst (AreTold key (says_in past ++ here key (line_on w rec past))) (sym more) both)

    -- so the lines of a session tell what its records deliver
    pub told_are : Reported → (past : List Record) (p : Port) → IsSession plan key past p → AreTold key (says_in past) (reported plan.timeout p.extent (of_key plan key past))
    told_are law past p s =
        let same = records_heard past in
        let there : IsSession plan key (records (heard past)) p = subst (λ (t : List Record). IsSession plan key t p) (sym same) s in
        subst (AreTold key (says_in past))
        (law plan key (heard past) p there ∙ ap (λ (t : List Record). reported plan.timeout p.extent (of_key plan key t)) same)
        (all_told past)
