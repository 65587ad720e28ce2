-- What is told of all records is what a run tells of them.
use Rattle.std.proofs.Common.{◌≡◌, ◌∙◌, ℕ, zero, suc, ◌+◌, ◌-◌, ◌*◌, List, [], ◌∷◌, ◌++◌, map, Option, Some, None, refl, sym, ap, append-nil, arith}
use Rattle.std.proofs.lemmas.Bool.{cond_both}
use Rattle.tx_queue.specs.declared.frame.OutFrame.{OutFrame}
use Rattle.tail_frame.specs.declared.logged.Record.{Record}
use Rattle.node_plan.specs.declared.plan.Plan.{Plan}
use Rattle.node_core.specs.Queues.{Queue, Sends, bus_lines, drained, full_line, fulls, fulls_from, leave, leaving, leaving_from, rounds, takes, tx_line, waiting}
use Rattle.node_core.specs.Steps.{Heard, Met, Step, Tick, badcrcs, emptying, first_of, got, is_bad_at, kept, lines as run_lines, lines_at, met_records, moment_of, node_lines, one_if, pushed, received_at, records, sends, steps, ticks_before, ticks_done, ticks_from, ticks_until, ticks_upto}
use Rattle.report_lines.specs.declared.line.Line.{Line}
use Rattle.report_lines.specs.declared.line.Line.TheVariants.{Rx, NoSession as Refusal, Tx, Full}
use Rattle.node_core.proofs.Waits.{records_behind, records_of_steps}
use Rattle.log_explain.specs.Explained.{listens_by}
use Rattle.log_explain.specs.ReasonLaws.{is_badcrc}
use Rattle.log_explain.specs.Counts.{count}
use Rattle.log_explain.specs.Laws.{AsRuns, nosession_lines, rx_lines, told_lines, told_refusals}
use Rattle.log_explain.specs.Lines.{lines}
use Rattle.log_explain.proofs.AsRun.{as_run}

rx_append : (a b : List Line) → rx_lines (a ++ b) ≡ rx_lines a ++ rx_lines b
rx_append [] b = refl
rx_append (Rx rx ∷ a) b = ap (λ (t : List (ℕ × ℕ)). (rx.first, rx.last) ∷ t) (rx_append a b)
rx_append (Refusal refused ∷ a) b = rx_append a b
rx_append (Tx tx ∷ a) b = rx_append a b
rx_append (Full full ∷ a) b = rx_append a b

refused_append : (a b : List Line) → nosession_lines (a ++ b) ≡ nosession_lines a ++ nosession_lines b
refused_append [] b = refl
refused_append (Rx rx ∷ a) b = refused_append a b
refused_append (Refusal refused ∷ a) b = ap (λ (t : List ℕ). refused.line ∷ t) (refused_append a b)
refused_append (Tx tx ∷ a) b = refused_append a b
refused_append (Full full ∷ a) b = refused_append a b

-- lines on what is sent
record Sent (ls : List Line) : Type 0 where
  rx : rx_lines ls ≡ []
  refused : nosession_lines ls ≡ []

none_sent : Sent []
none_sent = record { rx = refl; refused = refl }

both_sent : (a b : List Line) → Sent a → Sent b → Sent (a ++ b)
both_sent a b x y = record { rx = rx_append a b ∙ (λ i. x.rx i ++ y.rx i); refused = refused_append a b ∙ (λ i. x.refused i ++ y.refused i) }

bus_sent : (moment bus : ℕ) (fs : List OutFrame) → Sent (map (tx_line moment bus) fs)
bus_sent moment bus [] = none_sent
bus_sent moment bus (f ∷ fs) = let more = bus_sent moment bus fs in record { rx = more.rx; refused = more.refused }

leaving_sent : (moment bus : ℕ) (qs : List Queue) → Sent (leaving_from moment bus qs)
leaving_sent moment bus [] = none_sent
leaving_sent moment bus (q ∷ qs) = both_sent (bus_lines moment bus q) (leaving_from moment (bus + 1) qs) (bus_sent moment bus (leave q.rate q.waiting)) (leaving_sent moment (bus + 1) qs)

rounds_sent : (n moment : ℕ) (qs : List Queue) → Sent (rounds n moment qs)
rounds_sent zero moment qs = none_sent
rounds_sent (suc n) moment qs = both_sent (leaving moment qs) (rounds n moment (map drained qs)) (leaving_sent moment 0 qs) (rounds_sent n moment (map drained qs))

full_sent : (moment bus : ℕ) (x : Sends) (q : Queue) → Sent (full_line moment bus x q)
full_sent moment bus x q = cond_both (takes x q) [] _ Sent (λ _. none_sent) (λ _. record { rx = refl; refused = refl })

fulls_sent : (moment bus : ℕ) (x : Sends) (qs : List Queue) → Sent (fulls_from moment bus x qs)
fulls_sent moment bus x [] = none_sent
fulls_sent moment bus x (q ∷ qs) = both_sent (full_line moment bus x q) (fulls_from moment (bus + 1) x qs) (full_sent moment bus x q) (fulls_sent moment (bus + 1) x qs)

all_fulls : (moment : ℕ) (x : Option Sends) (qs : List Queue) → Sent (fulls moment x qs)
all_fulls moment None qs = none_sent
all_fulls moment (Some x) qs = fulls_sent moment 0 x qs

-- what stands before lines on what is sent
before_sent : (a b : List Line) → Sent b → (rx_lines (a ++ b) ≡ rx_lines a) × (nosession_lines (a ++ b) ≡ nosession_lines a)
before_sent a b x = (rx_append a b ∙ (ap (λ (t : List (ℕ × ℕ)). rx_lines a ++ t) x.rx ∙ append-nil (rx_lines a)), refused_append a b ∙ (ap (λ (t : List ℕ). nosession_lines a ++ t) x.refused ∙ append-nil (nosession_lines a)))

module _ (plan : Plan) where
  -- a step gives what it receives
  step_is : (step : Step) (past : List Step) → (rx_lines (lines_at plan step past) ≡ rx_lines (received_at plan step past)) × (nosession_lines (lines_at plan step past) ≡ nosession_lines (received_at plan step past))
  step_is step past =
      let k = kept plan past in
      let left_ = leaving (moment_of step) (pushed plan step past k).queues in
      let full = fulls (moment_of step) (sends plan step past k) k.queues in
      let got_ = received_at plan step past in
      let outer = before_sent (node_lines plan step past k) left_ (leaving_sent (moment_of step) 0 (pushed plan step past k).queues) in
      let inner = before_sent got_ full (all_fulls (moment_of step) (sends plan step past k) k.queues) in
      (outer.0 ∙ inner.0, outer.1 ∙ inner.1)

  -- and a tick nothing
  tick_is : (number moment : ℕ) (past : List Step) → (rx_lines (run_lines plan (Tick number moment ∷ past)) ≡ rx_lines (run_lines plan past)) × (nosession_lines (run_lines plan (Tick number moment ∷ past)) ≡ nosession_lines (run_lines plan past))
  tick_is number moment past =
      let s = step_is (Tick number moment) past in
      before_sent (run_lines plan past) (lines_at plan (Tick number moment) past) (record { rx = s.0; refused = s.1 })

  -- what a run told behind some steps
  record Told (steps_ older : List Step) : Type 0 where
    rx : rx_lines (run_lines plan steps_) ≡ rx_lines (run_lines plan older)
    refused : nosession_lines (run_lines plan steps_) ≡ nosession_lines (run_lines plan older)
    bad : badcrcs plan steps_ ≡ badcrcs plan older

  ticks_are : (first number n : ℕ) (past : List Step) → Told (ticks_from first number n ++ past) past
  ticks_are first number zero past = record { rx = refl; refused = refl; bad = refl }
  ticks_are first number (suc n) past =
      let more = ticks_are first number n past in
      let t = tick_is (number + n) (first + (number + n) * 1000000) (ticks_from first number n ++ past) in
      record { rx = t.0 ∙ more.rx; refused = t.1 ∙ more.refused; bad = nothing_more (badcrcs plan (ticks_from first number n ++ past)) ∙ more.bad }
    where
      nothing_more : (n : ℕ) → n + 0 ≡ n
      nothing_more n = omega arith

  before_are : (rec : Record) (mets : List Met) → Told (ticks_before plan rec (met_records mets) ++ steps plan mets) (steps plan mets)
  before_are rec mets =
      let past = met_records mets in
      cond_both plan.silent [] (ticks_upto (first_of rec past) (ticks_done past) rec.moment) (λ (t : List Step). Told (t ++ steps plan mets) (steps plan mets))
      (λ _. record { rx = refl; refused = refl; bad = refl })
      (λ _. ticks_are (first_of rec past) (ticks_done past) (ticks_until (first_of rec past) rec.moment - ticks_done past) (steps plan mets))

  -- over all steps
  record Said (mets : List Met) : Type 0 where
    delivered : told_lines (lines (listens_by plan) (met_records mets)) ≡ rx_lines (run_lines plan (steps plan mets))
    refused : told_refusals (lines (listens_by plan) (met_records mets)) ≡ nosession_lines (run_lines plan (steps plan mets))
    bad : count is_badcrc (lines (listens_by plan) (met_records mets)) ≡ badcrcs plan (steps plan mets)

  said : (mets : List Met) → Said mets
  said [] = record { delivered = refl; refused = refl; bad = refl }
  said (m ∷ mets) =
      let rec = m.rec in
      let past = met_records mets in
      let T = ticks_before plan rec past ++ steps plan mets in
      let step = Heard rec m.file in
      let more = said mets in
      let t = before_are rec mets in
      let s = step_is step T in
      let same : records T ≡ past = records_behind plan rec mets past ∙ records_of_steps plan mets in
      record {
        delivered = (λ i. (more.delivered ∙ sym t.rx) i ++ (as_run.delivered plan rec past ∙ (ap (λ (p : List Record). rx_lines (got plan rec p)) (sym same) ∙ sym s.0)) i)
            ∙ sym (rx_append (run_lines plan T) (lines_at plan step T));
        refused = (λ i. (more.refused ∙ sym t.refused) i ++ (as_run.refused plan rec past ∙ (ap (λ (p : List Record). nosession_lines (got plan rec p)) (sym same) ∙ sym s.1)) i)
            ∙ sym (refused_append (run_lines plan T) (lines_at plan step T));
        bad = λ i. (more.bad ∙ sym t.bad) i + one_if ((as_run.bad_crcs plan rec past ∙ ap (λ (p : List Record). is_bad_at plan rec p) (sym same)) i);
      }

  empty_sent : (all : List Step) → Sent (emptying plan all)
  empty_sent [] = none_sent
  empty_sent (step ∷ past) = rounds_sent (waiting (kept plan (step ∷ past)).queues) (moment_of step) (kept plan (step ∷ past)).queues

pub as_runs : AsRuns
as_runs = record {
  delivered = λ plan mets. (said plan mets).delivered ∙ sym (before_sent (run_lines plan (steps plan mets)) (emptying plan (steps plan mets)) (empty_sent plan (steps plan mets))).0;
  refused = λ plan mets. (said plan mets).refused ∙ sym (before_sent (run_lines plan (steps plan mets)) (emptying plan (steps plan mets)) (empty_sent plan (steps plan mets))).1;
  bad_crcs = λ plan mets. (said plan mets).bad;
}
