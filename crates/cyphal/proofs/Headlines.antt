-- From what was run to the headline.
use Rattle.std.proofs.Common.{◌≡◌, ◌∙◌, ◌⊎◌, inl, inr, ℕ, true, List, [], ◌++◌, Option, Some, None, IfSome, refl, sym, ap, subst, append-nil, append_assoc}
use Rattle.std.proofs.lemmas.Bool.{both_ways, true≢false}
use Rattle.std.proofs.lemmas.List.{append_cancel_left}
use Rattle.tail_frame.specs.Chains.{KeyRecord}
use Rattle.tail_frame.specs.declared.logged.Record.{Record}
use Rattle.rx_table.specs.Keys.{SessionKey, KeyedFrame, history}
use Rattle.rx_table.specs.Ports.{Port}
use Rattle.frag.specs.Sent.{transfer_at}
use Rattle.frag.specs.declared.sent.Pair.{Pair}
use Rattle.frag.specs.declared.sent.Sent.{Sent}
use Rattle.delivery_theorems.specs.Report.{AnyRx, Explains, IsDue, SelectedRx}
use Rattle.delivery_theorems.specs.Report as rx_report
use Rattle.cy_outside.specs.Files.{Files}
use Rattle.cy_outside.specs.Written.{behind, Begins}
use Rattle.dsdl_resolve.specs.Laws.{HaveOneAnswer}
use Rattle.node_plan.specs.Laws.{OnePlan}
use Rattle.dsdl_types.specs.Schemas.{Sch}
use Rattle.node_plan.specs.IsPlan.{TypesKeepRules}
use Rattle.node_plan.specs.declared.plan.Plan.{Plan}
use Rattle.frame_log.specs.Log.{log_of}
use Rattle.frame_log.specs.declared.error.LogError.{LogError}
use Rattle.frame_log.specs.declared.error.LogError.TheVariants.{Failed}
use Rattle.log_loop.specs.Gone.{FirstOf}
use Rattle.log_loop.proofs.Written.{begins_none}
use Rattle.report_lines.specs.declared.line.Line.{Line}
use Rattle.rx_table.specs.Heard.{frames}
use Rattle.report_lines.specs.LineSinks.{put_behind}
use Rattle.node_core.specs.Steps.{AreServed, Met, Step, lines, all_lines, met_records, records, steps, without_files}
use Rattle.text_lines.specs.Text.{text}
use Rattle.session_lines.specs.Reported.{rxs, of_key, IsSession, StepsReportAll}
use Rattle.session_lines.specs.Values.{type_of, IsSentTo, SayValues, SaysDueValue}
use Rattle.session_lines.proofs.Frames.{frames_are, are_records, in_order}
use Rattle.session_lines.proofs.Sending.{rxs_append}
use Rattle.node_run.specs.Failures.{Failures}
use Rattle.node_run.specs.declared.form.Form.{Form}
use Rattle.node_run.specs.declared.form.Form.TheVariants.{Text, Json}
use Rattle.node_run.specs.HasRun.{HasRun}
use Rattle.node_run.specs.Ran.{Reported, Ran, IsBegun, IsWritten, names_of, newest_first, due_lines, end_part, json_end_part, whole_text}
use Rattle.node_run.specs.Streamed.{IsStreamed}
use Rattle.node_run.specs.Taken.{IsOfTaken}
use Rattle.node_run.specs.declared.status.Status.{Status}
use Rattle.node_run.specs.declared.status.Status.TheVariants as status
use Rattle.node_run.proofs.Forms.{text_append}
use Rattle.cyphal.specs.Words.{Command}
use Rattle.cyphal.specs.Cause.{Outside}
use Rattle.cyphal.specs.Job.{CallsAtMost, Told, Outcome, flow_of, is_settled, NotDone}
use Rattle.cyphal.specs.Plans.{PlanAt, counted_from, plan_calls}
use Rattle.cyphal.specs.jobs.Run.{HasRunAt}
use Rattle.cyphal.specs.Expected.{job_asked, job_for, WasDone}
use Rattle.rx_table.specs.Heard.{heard_as}
use Rattle.cyphal.specs.Laws.{HeadlineLaws}
use Rattle.cyphal.proofs.Plans.{one_plan}
use Rattle.cyphal.specs.Headline.{log_in, logged_in, lines_of, AreMet, HasReport, BeginsReport, Asked, ExplainsIn, OnceIn, DueIn, ValuesIn, DueValuesIn, HeadlineOf, HasPut, OncePut, DuePut, ValuesPut, DueValuesPut}
use Rattle.cyphal.proofs.Fronts.{IsFront, first_front, whole_front, came_lines, steps_due, due_all}
use Rattle.cyphal.proofs.Mets.{met_all}

-- all that was written is a beginning of it
begins_all : (written : List ℕ) (before after : Option (List ℕ)) → after ≡ behind before written → Begins written before after
begins_all written before after w = record { front = written; rest = []; whole = sym (append-nil written); written = w }

-- where all was written, a beginning was
begun_whole : (form : Form) (plan : Plan) (all : List Step) (refusal : Option LogError) (before after : Option (List ℕ))
    → IsWritten form plan all refusal before after → IsBegun form plan all refusal before after
begun_whole Text plan all refusal before after w = begins_all (whole_text plan all refusal) before after w
begun_whole Json plan all refusal before after w = record {
  front = due_lines plan all refusal;
  rest = [];
  parts = sym (append-nil (due_lines plan all refusal));
  said = w.said;
  spelled = w.spelled;
  end = json_end_part plan all refusal;
  ended = inr (refl, refl);
  written = begins_all (w.said ++ json_end_part plan all refusal) before after w.written;
}

-- where all on the records that came was written, a beginning was
begun_came : (form : Form) (plan : Plan) (mets came : List Met) (refusal : Option LogError) (before after : Option (List ℕ)) → FirstOf mets came
    → IsWritten form plan (steps plan came) (Some Failed) before after → IsBegun form plan (steps plan mets) refusal before after
begun_came Text plan mets came refusal before after is_first w =
    let more = came_lines plan mets came refusal is_first in
    let first = text plan.buses (lines plan (steps plan came)) in
    let last = end_part plan (steps plan mets) refusal in record {
      front = first;
      rest = text plan.buses more.0 ++ last;
      whole =
          ap (λ t. t ++ last) (ap (text plan.buses) more.1 ∙ text_append plan.buses (lines plan (steps plan came)) more.0)
          ∙ append_assoc first (text plan.buses more.0) last;
      written = w ∙ ap (behind before) (append-nil first);
    }
begun_came Json plan mets came refusal before after is_first w =
    let more = came_lines plan mets came refusal is_first in record {
      front = lines plan (steps plan came);
      rest = more.0;
      parts = more.1;
      said = w.said;
      spelled = w.spelled;
      end = [];
      ended = inl refl;
      written = begins_all (w.said ++ []) before after w.written;
    }

-- where nothing was written, a beginning was
begun_none : (form : Form) (plan : Plan) (all : List Step) (refusal : Option LogError) (before : Option (List ℕ)) → IsBegun form plan all refusal before before
begun_none Text plan all refusal before = begins_none (whole_text plan all refusal) before
begun_none Json plan all refusal before = record {
  front = [];
  rest = due_lines plan all refusal;
  parts = refl;
  said = [];
  spelled = refl;
  end = [];
  ended = inl refl;
  written = begins_none [] before;
}

-- what was run over a log with these records that ends so
module _ (form : Form) (plan : Plan) (mets : List Met) (refusal : Option LogError) (r : Reported) (f : Failures) (before after : Option (List ℕ)) where
  -- the steps of the log
  abbrev all : List Step
  all = steps plan mets

  -- whatever the status, the first lines of the log were put
  came_front : (came : List Met) → FirstOf mets came → r.new ≡ put_behind r.old (lines plan (steps plan came)) → IsFront plan all refusal r
  came_front came first put =
      let more = came_lines plan mets came refusal first in
      record { mine = lines plan (steps plan came); rest = more.0; put = put; whole = more.1 }

  front : (stat : Status) → Ran form plan mets refusal stat r f before after → IsFront plan all refusal r
  front status.Ok x = whole_front plan all refusal r x.1.at
  front status.Usage x = absurd x
  front (status.Dsdl file n w) x = absurd x
  front (status.Plan n w) x = absurd x
  front (status.Log n w) x = whole_front plan all refusal r x.1.at
  front (status.Text line) x = absurd x
  front (status.Unreadable line path w) x = absurd x
  front (status.NotNewer path w) x = absurd x
  front status.LogLong x = whole_front plan all refusal r x.1.at
  front (status.NoFile path) x = absurd x
  front status.ReadFault x = came_front x.came x.first x.settled.at.reported
  front status.WriteFault x = first_front plan all refusal r f x.first
  front status.NoMemory x = first_front plan all refusal r f x.first

  -- where the run wasn't cut short, all of them were put
  whole : (stat : Status) → is_settled stat ≡ true → Ran form plan mets refusal stat r f before after → r.new ≡ put_behind r.old (due_lines plan all refusal)
  whole status.Ok s x = x.1.at.reported
  whole status.Usage s x = absurd x
  whole (status.Dsdl file n w) s x = absurd x
  whole (status.Plan n w) s x = absurd x
  whole (status.Log n w) s x = x.1.at.reported
  whole (status.Text line) s x = absurd x
  whole (status.Unreadable line path w) s x = absurd x
  whole (status.NotNewer path w) s x = absurd x
  whole status.LogLong s x = x.1.at.reported
  whole (status.NoFile path) s x = absurd x
  whole status.ReadFault s x = absurd (true≢false (sym s))
  whole status.WriteFault s x = absurd (true≢false (sym s))
  whole status.NoMemory s x = absurd (true≢false (sym s))

  -- and all was written
  written_whole : (stat : Status) → is_settled stat ≡ true → Ran form plan mets refusal stat r f before after → IsWritten form plan all refusal before after
  written_whole status.Ok s x = x.1.written
  written_whole status.Usage s x = absurd x
  written_whole (status.Dsdl file n w) s x = absurd x
  written_whole (status.Plan n w) s x = absurd x
  written_whole (status.Log n w) s x = x.1.written
  written_whole (status.Text line) s x = absurd x
  written_whole (status.Unreadable line path w) s x = absurd x
  written_whole (status.NotNewer path w) s x = absurd x
  written_whole status.LogLong s x = x.1.written
  written_whole (status.NoFile path) s x = absurd x
  written_whole status.ReadFault s x = absurd (true≢false (sym s))
  written_whole status.WriteFault s x = absurd (true≢false (sym s))
  written_whole status.NoMemory s x = absurd (true≢false (sym s))

  -- whatever the status, a beginning of it was written
  written_first : (stat : Status) → Ran form plan mets refusal stat r f before after → IsBegun form plan all refusal before after
  written_first status.Ok x = begun_whole form plan all refusal before after x.1.written
  written_first status.Usage x = absurd x
  written_first (status.Dsdl file n w) x = absurd x
  written_first (status.Plan n w) x = absurd x
  written_first (status.Log n w) x = begun_whole form plan all refusal before after x.1.written
  written_first (status.Text line) x = absurd x
  written_first (status.Unreadable line path w) x = absurd x
  written_first (status.NotNewer path w) x = absurd x
  written_first status.LogLong x = begun_whole form plan all refusal before after x.1.written
  written_first (status.NoFile path) x = absurd x
  written_first status.ReadFault x = begun_came form plan mets x.came refusal before after x.first x.settled.written
  written_first status.WriteFault x = x.written
  written_first status.NoMemory x = x.written

-- what was done where the words name a run: that run
did_run : (words : List (List ℕ)) (told : Told) (came : Outcome) (plan : Plan) (bytes : List ℕ)
    → (job_for words).did told came → (a : Asked words told plan bytes) → HasRunAt a.form a.root a.path told came
did_run words told came plan bytes d a = subst (λ (o : Option Command). (job_asked o).did told came) a.command d

-- the run of a plan over told files and a told input
pub record RunOver (form : Form) (root path : List ℕ) (plan : Plan) (tree : Files) (bytes : List ℕ) (told : Told) (came : Outcome) : Type 0 where
  pub mets : List Met
  pub are : AreMet plan tree bytes mets
  pub calls : ℕ
  pub loaded : CallsAtMost (plan_calls root path) told.files came.failures.before.calls calls
  pub ran : Ran form plan mets (log_in plan bytes).refusal came.status came.reported (counted_from calls came.failures) told.written came.written
  pub taken : came.status ≡ status.ReadFault → IsOfTaken form plan mets (flow_of told came) came.reported (counted_from calls came.failures)
  pub streamed : IsStreamed form plan mets (flow_of told came) came.status came.reported

module _ (one : HaveOneAnswer × OnePlan) (words : List (List ℕ)) (told : Told) (came : Outcome) (plan : Plan) (bytes : List ℕ) (a : Asked words told plan bytes) where
  -- a run is of the plan that is asked for
  of_plan : (at : HasRunAt a.form a.root a.path told came) → HasRun a.form plan told.files (flow_of told came) came.status came.reported (counted_from at.run.calls came.failures)
  of_plan r =
      let same : r.plan ≡ plan = one_plan one a.root a.path a.tree r.plan plan (subst (λ f. PlanAt a.root a.path f r.plan) a.is_tree r.is) a.is_plan in
      subst (λ (q : Plan). HasRun a.form q told.files (flow_of told came) came.status came.reported (counted_from r.run.calls came.failures)) same r.run.is

  -- over the told files and the told input
  run_over : HasRunAt a.form a.root a.path told came → RunOver a.form a.root a.path plan a.tree bytes told came
  run_over at =
      let r = of_plan at in
      let is : r.bytes ≡ bytes = subst (λ (i : Option (List ℕ)). IfSome i (λ (left : List ℕ). r.bytes ≡ left)) a.is_input r.is in
      record {
        mets = r.mets;
        are = record {
          of_log = r.of_log ∙ ap (λ (b : List ℕ). newest_first (log_of (names_of plan) b)) is;
          served = subst (λ (f : Option Files). AreServed f plan (steps plan r.mets)) a.is_tree r.served;
        };
        calls = at.run.calls;
        loaded = at.run.loaded;
        ran = subst (λ (b : List ℕ). Ran a.form plan r.mets (log_of (names_of plan) b).refusal came.status came.reported (counted_from at.run.calls came.failures) told.written came.written) is r.ran;
        taken = r.taken;
        streamed = r.streamed;
      }

  pub did_over : (job_for words).did told came → RunOver a.form a.root a.path plan a.tree bytes told came
  did_over d = run_over (did_run words told came plan bytes d a)

  -- or nothing was done
  pub run_done : {L : Type 0} (old new : Outside L) → WasDone words told came old new → NotDone told came old new ⊎ RunOver a.form a.root a.path plan a.tree bytes told came
  run_done old new (inl n) = inl n
  run_done old new (inr d) = inr (did_over d)

-- the lines that are due report of a session what those of the steps do
due_report : StepsReportAll → (plan : Plan) (key : SessionKey) (past : List Step) (refusal : Option LogError) → rxs key (due_lines plan past refusal) ≡ rxs key (lines plan past)
due_report law plan key past None = law plan key past
due_report law plan key past (Some refusal) = refl

module _ (law : HeadlineLaws) (plan : Plan) (bytes : List ℕ) (key : SessionKey) where
  abbrev past : List Record
  past = logged_in plan bytes

  -- a sent list that explains its records by identifier and data explains them by their fields
  pub by_fields : (sent : Sent) (origin : List Pair) → ExplainsIn plan bytes sent key origin → Explains plan.timeout sent key origin (of_key plan key past)
  by_fields sent origin x =
      subst (λ (log : List KeyedFrame). Explains plan.timeout sent key origin (history key log)) (frames_are plan.node past)
      (law.fields (heard_as plan.node) (are_records plan.node) plan.timeout sent key origin past x)

  module _ (mets : List Met) (is : met_records mets ≡ past) where
    abbrev log_steps : List Step
    log_steps = steps plan mets

    -- the records of the steps are those of the log
    log_is : records log_steps ≡ past
    log_is = law.records plan mets ∙ is

    -- what is reported of a session over the whole log
    session : (p : Port) → IsSession plan key past p → rxs key (lines_of plan bytes mets) ≡ rx_report.reported plan.timeout p.extent (of_key plan key past)
    session p s =
        due_report law.all plan key log_steps (log_in plan bytes).refusal
        ∙ (law.sessions plan key log_steps p (subst (λ t. IsSession plan key t p) (sym log_is) s) ∙ ap (λ t. rx_report.reported plan.timeout p.extent (of_key plan key t)) log_is)

    -- what a front of all lines of the log says
    front_values : (mine rest : List Line) → all_lines plan log_steps ≡ mine ++ rest → (p : Port) (port : Sch) (sent : Sent) (origin : List Pair)
        → IsSentTo plan key past p port sent origin → SayValues key port sent origin (of_key plan key past) mine
    front_values mine rest front p port sent origin =
        subst (λ (t : List Record). IsSentTo plan key t p port sent origin → SayValues key port sent origin (of_key plan key t) mine)
        log_is (λ x. law.values plan key log_steps p port sent origin mine rest x front)

    -- and those of its steps, whatever comes behind them
    behind_values : (behind : List Line) (p : Port) (port : Sch) (sent : Sent) (origin : List Pair) (q : KeyRecord) → IsSentTo plan key past p port sent origin
        → (due : IsDue plan.timeout sent origin (of_key plan key past) q) → SaysDueValue key port (transfer_at sent due.j).payload q (lines plan log_steps ++ behind)
    behind_values behind p port sent origin q =
        subst
        (λ (t : List Record). IsSentTo plan key t p port sent origin → (due : IsDue plan.timeout sent origin (of_key plan key t) q) → SaysDueValue key port (transfer_at sent due.j).payload q (lines plan log_steps ++ behind))
        log_is (law.due_values plan key log_steps p port sent origin q behind)

-- the types of a plan that is asked for keep the rules
types_of : HeadlineLaws → (words : List (List ℕ)) (told : Told) (plan : Plan) (bytes : List ℕ) → Asked words told plan bytes → TypesKeepRules plan
types_of law words told plan bytes a =
    let at = a.is_plan in
    law.plans at.names at.gives.0 plan (law.namespaces at.is.files at.names at.is.compiled) at.gives.2

sent_to : HeadlineLaws → (plan : Plan) (bytes : List ℕ) → TypesKeepRules plan → (key : SessionKey) (p : Port) (port : Sch) (sent : Sent) (origin : List Pair)
    → IsSession plan key (logged_in plan bytes) p → type_of plan key ≡ Some port → ExplainsIn plan bytes sent key origin → IsSentTo plan key (logged_in plan bytes) p port sent origin
sent_to law plan bytes rules key p port sent origin s t x = record {
  rules = rules;
  session = s;
  typed = t;
  log = in_order plan.node (log_in plan bytes).records (law.order (names_of plan) bytes);
  explains = by_fields law plan bytes key sent origin x;
}

module _ (law : HeadlineLaws) (plan : Plan) (bytes : List ℕ) (mets : List Met) (is : met_records mets ≡ logged_in plan bytes) where
  -- of each front of the lines of a log
  once_in : (mine rest : List Line) → lines_of plan bytes mets ≡ mine ++ rest → OnceIn plan bytes mine
  once_in mine rest e key p sent origin s x =
      law.once plan.timeout p.extent sent key origin (frames plan.node (logged_in plan bytes)) (rxs key mine) (rxs key rest)
      (in_order plan.node (log_in plan bytes).records (law.order (names_of plan) bytes)) (by_fields law plan bytes key sent origin x)
      (sym (session law plan bytes key mets is p s) ∙ (ap (rxs key) e ∙ rxs_append key mine rest))

  -- of all of them
  due_in : DueIn plan bytes (lines_of plan bytes mets)
  due_in key p sent origin q s x d =
      subst (AnyRx (λ rx. rx.last ≡ q.line)) (sym (session law plan bytes key mets is p s))
      (law.due plan.timeout p.extent sent key origin (of_key plan key (logged_in plan bytes)) q (by_fields law plan bytes key sent origin x) d)

  values_in : TypesKeepRules plan → (mine rest : List Line) → lines_of plan bytes mets ≡ mine ++ rest → ValuesIn plan bytes mine
  values_in rules mine rest e key p port sent origin s t x =
      let all = due_all plan (steps plan mets) (log_in plan bytes).refusal in
      front_values law plan bytes key mets is mine (rest ++ all.0) (all.1 ∙ (ap (λ t. t ++ all.0) e ∙ append_assoc mine rest all.0)) p port sent origin
      (sent_to law plan bytes rules key p port sent origin s t x)

  due_values_in : TypesKeepRules plan → DueValuesIn plan bytes (lines_of plan bytes mets)
  due_values_in rules key p port sent origin q s t x due =
      let all = steps_due plan (steps plan mets) (log_in plan bytes).refusal in
      subst (λ (ls : List Line). SaysDueValue key port (transfer_at sent due.j).payload q ls) (sym all.1)
      (behind_values law plan bytes key mets is all.0 p port sent origin q (sent_to law plan bytes rules key p port sent origin s t x) due)

-- what was met of a log, and what was written of it
record Writes (form : Form) (plan : Plan) (tree : Files) (bytes : List ℕ) (stat : Status) (before after : Option (List ℕ)) : Type 0 where
  mets : List Met
  are : AreMet plan tree bytes mets
  written : is_settled stat ≡ true → HasReport form plan bytes mets before after
  begun : BeginsReport form plan bytes mets before after

-- the lines that were put are the first of the log
record PutsFront (plan : Plan) (bytes : List ℕ) (mine : List Line) : Type 0 where
  mets : List Met
  is : met_records mets ≡ logged_in plan bytes
  rest : List Line
  whole : lines_of plan bytes mets ≡ mine ++ rest

-- they are all
record PutsAll (plan : Plan) (bytes : List ℕ) (mine : List Line) : Type 0 where
  mets : List Met
  is : met_records mets ≡ logged_in plan bytes
  all : lines_of plan bytes mets ≡ mine

module _ {L : Type 0} (one : HaveOneAnswer × OnePlan) (words : List (List ℕ)) (told : Told) (came : Outcome) (old new : Outside L) (done : WasDone words told came old new) (law : HeadlineLaws) where
  writes : (plan : Plan) (bytes : List ℕ) (a : Asked words told plan bytes) → Writes a.form plan a.tree bytes came.status told.written came.written
  writes plan bytes a = by_run (run_done one words told came plan bytes a old new done)
    where
      by_run : NotDone told came old new ⊎ RunOver a.form a.root a.path plan a.tree bytes told came → Writes a.form plan a.tree bytes came.status told.written came.written
      by_run (inl n) =
          let m = met_all (Some a.tree) plan law.served (logged_in plan bytes) in record {
            mets = m.mets;
            are = record { of_log = m.records_are; served = m.served };
            written = λ s. absurd (both_ways (is_settled came.status) n.not_settled s);
            begun = subst (λ w. BeginsReport a.form plan bytes m.mets told.written w) (sym n.written) (begun_none a.form plan (steps plan m.mets) (log_in plan bytes).refusal told.written);
          }
      by_run (inr r) =
          let refusal = (log_in plan bytes).refusal in record {
            mets = r.mets;
            are = r.are;
            written = λ s. written_whole a.form plan r.mets refusal came.reported (counted_from r.calls came.failures) told.written came.written came.status s r.ran;
            begun = written_first a.form plan r.mets refusal came.reported (counted_from r.calls came.failures) told.written came.written came.status r.ran;
          }

  pub headline_of : HeadlineOf words told came
  headline_of plan bytes a =
      let rules = types_of law words told plan bytes a in
      let w = writes plan bytes a in
      let is = w.are.of_log in
      record {
        mets = w.mets;
        are = w.are;
        plain = λ none. law.plain (Some a.tree) plan w.mets none w.are.served ∙ ap without_files is;
        written = w.written;
        begun = w.begun;
        once = once_in law plan bytes w.mets is;
        due = due_in law plan bytes w.mets is;
        values = values_in law plan bytes w.mets is rules;
        due_values = due_values_in law plan bytes w.mets is rules;
      }

  -- what a sink tells is what was put
  same_put : (mine put : List Line) → HasPut came.reported mine → came.reported.new ≡ put_behind came.reported.old put → put ≡ mine
  same_put mine put h e =
      let all : Some (h.0 ++ put) ≡ Some (h.0 ++ mine) = ap (λ o. put_behind o put) (sym h.1) ∙ (sym e ∙ h.2) in
      append_cancel_left h.0 put mine cc

  front_put : (plan : Plan) (bytes : List ℕ) (mine : List Line) → Asked words told plan bytes → HasPut came.reported mine → PutsFront plan bytes mine
  front_put plan bytes mine a h = by_run (run_done one words told came plan bytes a old new done)
    where
      by_run : NotDone told came old new ⊎ RunOver a.form a.root a.path plan a.tree bytes told came → PutsFront plan bytes mine
      by_run (inl n) =
          let none : [] ≡ mine = same_put mine [] h (n.empty.lines ∙ (h.1 ∙ (ap Some (sym (append-nil h.0)) ∙ ap (λ o. put_behind o []) (sym h.1)))) in
          let m = met_all (Some a.tree) plan law.served (logged_in plan bytes) in
          record { mets = m.mets; is = m.records_are; rest = lines_of plan bytes m.mets; whole = ap (λ t. t ++ lines_of plan bytes m.mets) none }
      by_run (inr r) =
          let f = front a.form plan r.mets (log_in plan bytes).refusal came.reported (counted_from r.calls came.failures) told.written came.written came.status r.ran in
          record { mets = r.mets; is = r.are.of_log; rest = f.rest; whole = f.whole ∙ ap (λ t. t ++ f.rest) (same_put mine f.mine h f.put) }

  -- where all that counts was run
  whole_put : (plan : Plan) (bytes : List ℕ) (mine : List Line) → Asked words told plan bytes → HasPut came.reported mine → is_settled came.status ≡ true → PutsAll plan bytes mine
  whole_put plan bytes mine a h s = by_run (run_done one words told came plan bytes a old new done)
    where
      by_run : NotDone told came old new ⊎ RunOver a.form a.root a.path plan a.tree bytes told came → PutsAll plan bytes mine
      by_run (inl n) = absurd (both_ways (is_settled came.status) n.not_settled s)
      by_run (inr r) = record {
        mets = r.mets;
        is = r.are.of_log;
        all = same_put mine (lines_of plan bytes r.mets) h (whole a.form plan r.mets (log_in plan bytes).refusal came.reported (counted_from r.calls came.failures) told.written came.written came.status s r.ran);
      }

  pub once_of : OncePut words told came
  once_of mine h plan bytes a = let f = front_put plan bytes mine a h in once_in law plan bytes f.mets f.is mine f.rest f.whole

  pub due_of : DuePut words told came
  due_of mine h plan bytes a s = let f = whole_put plan bytes mine a h s in subst (λ ls. DueIn plan bytes ls) f.all (due_in law plan bytes f.mets f.is)

  pub values_of : ValuesPut words told came
  values_of mine h plan bytes a =
      let f = front_put plan bytes mine a h in values_in law plan bytes f.mets f.is (types_of law words told plan bytes a) mine f.rest f.whole

  pub due_values_of : DueValuesPut words told came
  due_values_of mine h plan bytes a s =
      let f = whole_put plan bytes mine a h s in
      subst (λ ls. DueValuesIn plan bytes ls) f.all (due_values_in law plan bytes f.mets f.is (types_of law words told plan bytes a))
