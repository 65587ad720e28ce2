-- The numbers behind one more step.
use Rattle.std.proofs.Common.{◌≡◌, ◌∙◌, ◌^◌, ℕ, suc, ◌+◌, ◌-◌, ◌*◌, ◌≤◌, cond, min, Bool, true, false, List, [], ◌∷◌, length, Option, Some, None, refl, sym, ap, ap₂, arith, count_by}
use Rattle.std.specs.Prelude.{if◌then◌else◌}
use Rattle.tail_frame.specs.Frames.{FrameOf}
use Rattle.tail_frame.specs.declared.logged.Record.{Record}
use Rattle.can_id.specs.declared.key.Key.{Key}
use Rattle.can_id.specs.Identifiers.{key_of}
use Rattle.rx_table.specs.Heard.{frame_for, frames}
use Rattle.rx_table.specs.Keys.{KeyedFrame}
use Rattle.rx_table.specs.Ports.{Port, is_admitted}
use Rattle.rx_table.specs.Received.{Delivery}
use Rattle.rx_table.specs.Table.{keyed, port_on}
use Rattle.node_plan.specs.Bound.{bound_of}
use Rattle.node_plan.specs.IsPlan.{IsPlan}
use Rattle.node_plan.specs.declared.plan.Plan.{Plan}
use Rattle.report_lines.specs.declared.line.Line.{Line}
use Rattle.report_lines.specs.declared.line.FullLine.{FullLine}
use Rattle.report_lines.specs.declared.line.Line.TheVariants.{Full}
use Rattle.report_lines.specs.declared.numbers.Numbers.{Numbers}
use Rattle.node_core.specs.Heard.{ports_of}
use Rattle.node_core.specs.declared.file_reply.FileReply.{FileReply}
use Rattle.node_core.specs.Queues.{Queue, Sends, full_line, fulls, fulls_from, leaving, takes, waiting}
use Rattle.node_core.specs.Received.{of_delivery, of_frame, of_session, of_source, on_port, refused_line}
use Rattle.node_core.specs.Steps.{Step, Heard, Tick, all_lines, emptying, badcrcs, got, held_at, is_bad_at, is_nosession, is_rx, is_tx, kept, lines, lines_at, moment_of, node_lines, numbers, one_if, pushed, received_at, records, sends}
use Rattle.node_run.specs.Goes.{IsFew, with_sent}
use Rattle.node_run.specs.Hears.{counted}
use Rattle.node_run.specs.declared.log.tally.Seen.{Seen}
use Rattle.node_run.proofs.Waits.{count_append, few_leave, few_rounds, few_wait, nosession_leaving, rx_leaving, tx_leaving, tx_rounds}

-- a line on a full bus counts nothing

module _ (p : Line → Bool) (none : (f : FullLine) → p (Full f) ≡ false) where
  one : (f : FullLine) → count_by p (Full f ∷ []) ≡ 0
  one f = ap (λ (b : Bool). 0 + cond {A = ℕ} b 1 0) (none f)

  full_one : (moment bus : ℕ) (x : Sends) (q : Queue) → count_by p (full_line moment bus x q) ≡ 0
  full_one moment bus x q = go (takes x q) _
    where
      go : (b : Bool) (f : FullLine) → count_by p (if◌then◌else◌ {A = List Line} b [] (Full f ∷ [])) ≡ 0
      go true f = refl
      go false f = one f

  from : (moment bus : ℕ) (x : Sends) (qs : List Queue) → count_by p (fulls_from moment bus x qs) ≡ 0
  from moment bus x [] = refl
  from moment bus x (q ∷ qs) =
      count_append p (full_line moment bus x q) (fulls_from moment (bus + 1) x qs) ∙ ap₂ (λ a b. a + b) (full_one moment bus x q) (from moment (bus + 1) x qs)

  count_fulls : (moment : ℕ) (x : Option Sends) (qs : List Queue) → count_by p (fulls moment x qs) ≡ 0
  count_fulls moment None qs = refl
  count_fulls moment (Some x) qs = from moment 0 x qs

-- what is received is not sent

tx_delivery : (plan : Plan) (extent : ℕ) (key : Key) (d : Option Delivery) → count_by is_tx (of_delivery plan extent key d) ≡ 0
tx_delivery plan extent key None = refl
tx_delivery plan extent key (Some d) = refl

tx_session : (plan : Plan) (p : Port) (key : Key) (k : KeyedFrame) (log : List KeyedFrame) → count_by is_tx (of_session plan p key k log) ≡ 0
tx_session plan p key k log = go (is_admitted p k log) _
  where
    start : (b : Bool) → count_by is_tx (if b then refused_line key k.rec ∷ [] else []) ≡ 0
    start true = refl
    start false = refl

    go : (b : Bool) (d : Option Delivery) → count_by is_tx (if b then of_delivery plan p.extent key d else (if k.rec.start then refused_line key k.rec ∷ [] else [])) ≡ 0
    go true d = tx_delivery plan p.extent key d
    go false d = start k.rec.start

tx_source : (plan : Plan) (p : Port) (f : FrameOf) (log : List KeyedFrame) (k : Option KeyedFrame) → count_by is_tx (of_source plan p f log k) ≡ 0
tx_source plan p f log None = refl
tx_source plan p f log (Some k) = tx_session plan p (key_of f.ident) k log

tx_port : (plan : Plan) (f : FrameOf) (log : List KeyedFrame) (p : Option Port) → count_by is_tx (on_port plan f log p) ≡ 0
tx_port plan f log None = refl
tx_port plan f log (Some p) = tx_source plan p f log (keyed f)

tx_frame : (plan : Plan) (log : List KeyedFrame) (f : Option FrameOf) → count_by is_tx (of_frame plan log f) ≡ 0
tx_frame plan log None = refl
tx_frame plan log (Some f) = tx_port plan f log (port_on (ports_of plan) f)

tx_received : (plan : Plan) (s : Step) (past : List Step) → count_by is_tx (received_at plan s past) ≡ 0
tx_received plan (Heard rec file) past = tx_frame plan (frames plan.node (records past)) (frame_for plan.node rec)
tx_received plan (Tick number moment) past = refl

-- One step.

module _ (plan : Plan) (s : Step) (past : List Step) where
  abbrev k : Option Sends
  k = sends plan s past (kept plan past)

  abbrev out : List Line
  out = leaving (moment_of s) (pushed plan s past (kept plan past)).queues

  in_node : (p : Line → Bool) → ((f : FullLine) → p (Full f) ≡ false) → count_by p (lines_at plan s past) ≡ count_by p (received_at plan s past) + count_by p out
  in_node p none =
      count_append p (node_lines plan s past (kept plan past)) out
      ∙ ap (λ n. n + count_by p out) (count_append p (received_at plan s past) (fulls (moment_of s) k (kept plan past).queues)
      ∙ (ap (λ n. count_by p (received_at plan s past) + n) (count_fulls p none (moment_of s) k (kept plan past).queues) ∙ omega arith))

  pub tx_at : count_by is_tx (lines_at plan s past) ≡ length out
  tx_at = in_node is_tx (λ f. refl) ∙ ap₂ (λ a b. a + b) (tx_received plan s past) (tx_leaving (moment_of s) (pushed plan s past (kept plan past)).queues) ∙ omega arith

  pub rx_at : count_by is_rx (lines_at plan s past) ≡ count_by is_rx (received_at plan s past)
  rx_at = in_node is_rx (λ f. refl) ∙ (ap (λ n. count_by is_rx (received_at plan s past) + n) (rx_leaving (moment_of s) (pushed plan s past (kept plan past)).queues) ∙ omega arith)

  pub nosession_at : count_by is_nosession (lines_at plan s past) ≡ count_by is_nosession (received_at plan s past)
  nosession_at = in_node is_nosession (λ f. refl) ∙ (ap (λ n. count_by is_nosession (received_at plan s past) + n) (nosession_leaving (moment_of s) (pushed plan s past (kept plan past)).queues) ∙ omega arith)

  next : (p : Line → Bool) → count_by p (lines plan (s ∷ past)) ≡ count_by p (lines plan past) + count_by p (lines_at plan s past)
  next p = count_append p (lines plan past) (lines_at plan s past)

-- no more frames are sent than can leave behind the steps
few_sent : (plan : Plan) (all : List Step) → IsPlan plan → count_by is_tx (lines plan all) ≤ 12288 * length all
few_sent plan [] is = omega arith
few_sent plan (s ∷ past) is =
    let before = few_sent plan past is in
    let here = few_leave plan past (moment_of s) (sends plan s past (kept plan past)) is in
    let all = next plan s past is_tx in
    let sent = tx_at plan s past in omega arith

few_emptied : (plan : Plan) (all : List Step) → IsPlan plan → length (emptying plan all) ≤ 12288
few_emptied plan [] is = omega arith
few_emptied plan (s ∷ past) is =
    let qs = (kept plan (s ∷ past)).queues in
    let few = few_rounds (waiting qs) (moment_of s) qs in
    let wait = few_wait plan (s ∷ past) is in omega arith

tx_emptied : (plan : Plan) (all : List Step) → count_by is_tx (emptying plan all) ≡ length (emptying plan all)
tx_emptied plan [] = refl
tx_emptied plan (s ∷ past) = let qs = (kept plan (s ∷ past)).queues in tx_rounds (waiting qs) (moment_of s) qs

module _ (plan : Plan) (past : List Step) (is : IsPlan plan) where
  -- so they can be counted
  pub sent_next : (s : Step) → IsFew (s ∷ past) → (n : ℕ) → n ≡ count_by is_tx (lines plan past) → (more : ℕ) → more ≡ length (leaving (moment_of s) (pushed plan s past (kept plan past)).queues)
      → min (n + more) (2 ^ 64 - 1) ≡ count_by is_tx (lines plan (s ∷ past))
  sent_next s few n e more f =
      let most = few_sent plan (s ∷ past) is in
      let all = next plan s past is_tx in
      let here = tx_at plan s past in omega arith

  -- a tick
  pub numbers_tick : (number moment : ℕ) → let s = Tick number moment in IsFew (s ∷ past) → (n : Numbers) → n ≡ numbers plan past → (more : ℕ) → more ≡ length (leaving moment (pushed plan s past (kept plan past)).queues)
      → with_sent n more ≡ numbers plan (s ∷ past)
  numbers_tick number moment few n e more f =
      let s = Tick number moment in
      let sent = sent_next s few n.sent (ap (λ (m : Numbers). m.sent) e) more f in
      let rx = next plan s past is_rx ∙ ap (λ x. count_by is_rx (lines plan past) + x) (rx_at plan s past) in
      let refused = next plan s past is_nosession ∙ ap (λ x. count_by is_nosession (lines plan past) + x) (nosession_at plan s past) in
      let q2 : n.delivered ≡ count_by is_rx (lines plan (s ∷ past)) = ap (λ (m : Numbers). m.delivered) e ∙ (omega arith ∙ sym rx) in
      let q3 : n.nosession ≡ count_by is_nosession (lines plan (s ∷ past)) = ap (λ (m : Numbers). m.nosession) e ∙ (omega arith ∙ sym refused) in
      let q4 : n.badcrc ≡ badcrcs plan past + 0 = ap (λ (m : Numbers). m.badcrc) e ∙ omega arith in
      λ i. record {
        records = ap (λ (m : Numbers). m.records) e i;
        delivered = q2 i;
        badcrc = q4 i;
        nosession = q3 i;
        sent = sent i;
        held = ap (λ (m : Numbers). m.held) e i;
        bound = ap (λ (m : Numbers). m.bound) e i;
      }

  -- a record, behind which so many frames left
  pub numbers_heard : (rec : Record) (file : FileReply) → let s = Heard rec file in IsFew (s ∷ past) → (n m : Numbers) → n ≡ numbers plan past → (more : ℕ) → more ≡ length (leaving rec.moment (pushed plan s past (kept plan past)).queues) → m ≡ with_sent n more
      → (seen : Seen) (held : ℕ) → seen.delivered ≡ count_by is_rx (got plan rec (records past)) → seen.badcrc ≡ one_if (is_bad_at plan rec (records past))
      → seen.nosession ≡ count_by is_nosession (got plan rec (records past)) → held ≡ held_at plan (rec ∷ records past) → counted m seen held ≡ numbers plan (s ∷ past)
  numbers_heard rec file few n m e more f g seen held d b r h =
      let s = Heard rec file in
      let sent = ap (λ (x : Numbers). x.sent) g ∙ sent_next s few n.sent (ap (λ (x : Numbers). x.sent) e) more f in
      let rx = next plan s past is_rx ∙ ap (λ x. count_by is_rx (lines plan past) + x) (rx_at plan s past) in
      let refused = next plan s past is_nosession ∙ ap (λ x. count_by is_nosession (lines plan past) + x) (nosession_at plan s past) in
      let old = λ (field : Numbers → ℕ). ap field e in
      let q1 : m.records + 1 ≡ suc (length (records past)) = ap (λ (x : Numbers). x.records + 1) (g ∙ ap (λ (x : Numbers). with_sent x more) e) ∙ omega arith in
      let q2 : m.delivered + seen.delivered ≡ count_by is_rx (lines plan (s ∷ past)) = ap (λ (x : Numbers). x.delivered + seen.delivered) (g ∙ ap (λ (x : Numbers). with_sent x more) e) ∙ (ap (λ x. count_by is_rx (lines plan past) + x) d ∙ sym rx) in
      let q3 : m.nosession + seen.nosession ≡ count_by is_nosession (lines plan (s ∷ past)) =
      ap (λ (x : Numbers). x.nosession + seen.nosession) (g ∙ ap (λ (x : Numbers). with_sent x more) e) ∙ (ap (λ x. count_by is_nosession (lines plan past) + x) r ∙ sym refused) in
      let q4 : m.badcrc + seen.badcrc ≡ badcrcs plan past + one_if (is_bad_at plan rec (records past)) = ap (λ (x : Numbers). x.badcrc + seen.badcrc) (g ∙ ap (λ (x : Numbers). with_sent x more) e) ∙ ap (λ x. badcrcs plan past + x) b in
      let q7 : m.bound ≡ bound_of plan = ap (λ (x : Numbers). x.bound) (g ∙ ap (λ (x : Numbers). with_sent x more) e) in
      λ i. record { records = q1 i; delivered = q2 i; badcrc = q4 i; nosession = q3 i; sent = sent i; held = h i; bound = q7 i }

  -- the frames that left at the end can be counted too
  pub sent_at_end : length past ≤ 2 ^ 50 → (n : ℕ) → n ≡ count_by is_tx (lines plan past) → (emptied : ℕ) → emptied ≡ length (emptying plan past) → min (n + emptied) (2 ^ 64 - 1) ≡ count_by is_tx (all_lines plan past)
  sent_at_end few n e emptied f =
      let most = few_sent plan past is in
      let last = few_emptied plan past is in
      let all = count_append is_tx (lines plan past) (emptying plan past) in
      let here = tx_emptied plan past in omega arith
