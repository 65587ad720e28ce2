-- From what a listener's loop did to what a run did.
use Rattle.std.proofs.Common.{◌≡◌, ◌∙◌, ◌⊎◌, inl, inr, ◌<◌, ◌≤◌, ◌-◌, ℕ, List, length, [], ◌∷◌, ◌++◌, Option, Some, None, Bool, true, false, zero, suc, refl, sym, ap, ap₂, subst, append-nil, arith}
use Rattle.std.specs.Prelude.{if◌then◌else◌}
use Rattle.std.proofs.lemmas.List.{map-append}
use Rattle.tail_frame.specs.declared.logged.Record.{Record}
use Rattle.cy_outside.specs.Files.{Files}
use Rattle.cy_outside.specs.Written.{behind, Begins}
use Rattle.frame_log.specs.Log.{log_of}
use Rattle.frame_log.specs.declared.error.LogError.{LogError}
use Rattle.frame_log.specs.declared.error.LogError.TheVariants as error
use Rattle.log_loop.specs.Voice.{MayCome, Voice, said, whole_text as all_said}
use Rattle.log_loop.specs.Gone.{FirstOf, Stages, HeardOrEnded, Settled as HeardAll, Upto as HeardUpto, Begun as HeardFirst, BegunWhole as HeardWhole, BrokenOff as HeardBroken, CutShort as HeardCut, Gone, before_newest}
use Rattle.log_loop.specs.Listened.{HasListened}
use Rattle.log_loop.proofs.Events.{first_of as first_events}
use Rattle.log_loop.specs.Taken.{AreOfBytes as HeardOfBytes, IsOfTaken as HeardTaken}
use Rattle.log_loop.specs.Streamed.{BreaksBehind, BrokeBehind, HasSaid, HearsBytes, IsStreamed as HeardStreamed}
use Rattle.log_loop.specs.declared.ended.Ended.{Ended}
use Rattle.log_loop.specs.declared.ended.Ended.TheVariants as end
use Rattle.node_plan.specs.Bound.{bound_of}
use Rattle.node_plan.specs.declared.plan.BusPlan.{BusPlan}
use Rattle.node_plan.specs.declared.plan.Plan.{Plan}
use Rattle.report_lines.specs.declared.line.Line.{Line}
use Rattle.report_lines.specs.declared.numbers.Numbers.{Numbers}
use Rattle.node_core.specs.Steps.{AreServed, Met, Step, emptying, first_of, lines, met_records, numbers, steps, ticks_before, ticks_done, ticks_from, ticks_until, ticks_upto}
use Rattle.report_lines.specs.LineSinks.{put_behind}
use Rattle.node_run.specs.declared.log.running.Running.{Running}
use Rattle.node_run.specs.declared.status.Status.{Status}
use Rattle.node_run.specs.declared.status.Status.TheVariants as status
use Rattle.node_run.specs.Failures.{AreFailures, Failures}
use Rattle.node_run.specs.Forms.{Form, Style, in_style}
use Rattle.node_run.specs.HasRun.{HasRun}
use Rattle.node_run.specs.Ran.{Reported, reported, Tells, At, AtEnd, AtFirst, Emptied, due_lines, due_numbers, next_lines, end_sent, Settled, Begun, CutOff, Upto, Ran, names_of, status_of}
use Rattle.node_run.specs.Taken.{AreOfBytes, IsOfTaken}
use Rattle.node_run.specs.Streamed.{IsReported, IsStreamed, ReportsBytes, ReportsOn, WritesBytes}
use Rattle.node_run.specs.Goes.{Runs, State, report_of, state_in}
use Rattle.node_run.specs.Hears.{AreSaid, BrokeOff, CutShort, HasEnded, Said, mets_of, run_voice}
use Rattle.node_run.specs.Listens.{HasBrokenOff, HasEndedBehind, HasHeardAll, IsCutShort, IsOver, OfBroken, OfSaid, Views, failed_since}
use Rattle.node_run.specs.ValueLines.{flow}
use Rattle.node_run.proofs.Goes.{broke_grow}
use Rattle.node_run.proofs.Spoken.{begins_steps, first_mets, is_begun, is_begun_whole, is_written, lines_written, may_first, records_same, said_front, same_first, voice_in}
use Rattle.node_run.proofs.Steps.{first_steps}

-- What the tree did in each step is what it may do.

served_ticks : (told : Option Files) (plan : Plan) (first number n : ℕ) (past : List Step) → AreServed told plan past → AreServed told plan (ticks_from first number n ++ past)
served_ticks told plan first number zero past h = h
served_ticks told plan first number (suc n) past h = (tt, served_ticks told plan first number n past h)

served_before : (told : Option Files) (plan : Plan) (rec : Record) (log : List Record) (past : List Step) → AreServed told plan past → AreServed told plan (ticks_before plan rec log ++ past)
served_before told plan rec log past h = go plan.silent
  where
    go : (silent : Bool) → AreServed told plan ((if silent then [] else ticks_upto (first_of rec log) (ticks_done log) rec.moment) ++ past)
    go true = h
    go false = served_ticks told plan (first_of rec log) (ticks_done log) (ticks_until (first_of rec log) rec.moment - ticks_done log) past h

pub are_served : (s : Style) (told : Option Files) (plan : Plan) (past : List Said) → MayCome (run_voice s told plan) past → AreServed told plan (steps plan (mets_of past))
are_served s told plan [] may = tt
are_served s told plan (it ∷ past) may =
    let mets = mets_of past in (may.0.0, served_before told plan it.met.rec (met_records mets) (steps plan mets) (are_served s told plan past may.1))

-- What a run has reported, and in which requests the tree failed, at each of its stages.
pub record AreRuns (plan : Plan) (before : Option (List Line)) (s : State) (sent : ℕ) (f : Failures) (stages : Stages Said) : Type 0 where
  pub heard : (past : List Said) → stages.heard past → OfSaid (λ mets. Runs plan before s (steps plan mets) × AreFailures (steps plan mets) f) past
  pub ended : (past : List Said) → stages.ended past → OfSaid (λ mets. HasEnded plan (report_of before s) sent mets × AreFailures (steps plan mets) f) past
  pub broke : (past : List Said) → stages.broke past → OfBroken (BrokeOff plan (report_of before s) f) past
  pub cut : (past : List Said) → stages.cut_short past → OfSaid (CutShort plan (report_of before s) f) past

abbrev pub stages_of : {W K T : Type 0} → Views W K T → Running W K T → Running W K T → Stages Said
stages_of v first now =
    record { heard = OfSaid (HasHeardAll v first now); ended = OfSaid (HasEndedBehind v first now); broke = OfBroken (HasBrokenOff v first now); cut_short = OfSaid (IsCutShort v first now) }

pub are_runs : {W K T : Type 0} (v : Views W K T) (first now : Running W K T) → AreRuns first.node.now.plan (v.lines first.lines.now) (state_in v.style v.lines now) now.sent (failed_since v first now) (stages_of v first now)
are_runs v first now = record {
  heard = λ past h. record { met = (h.met.hears.runs, h.met.failed); said = h.said };
  ended = λ past h. record { met = (h.met.ended, h.met.failed); said = h.said };
  broke = λ past h. record { met = h.met.broke; said = h.said };
  cut = λ past h. record { met = h.met.cut; said = h.said };
}

-- The events before the newest.

before_of : (past : List Said) → before_newest (mets_of past) ≡ mets_of (before_newest past)
before_of [] = refl
before_of (it ∷ past) = refl

first_before : (events past : List Said) → FirstOf events past → FirstOf events (before_newest past)
first_before events [] f = f
first_before events (it ∷ past) f = first_events events (it ∷ past) (it ∷ []) past f refl

-- A whole run.

-- a run whose loop over its log ended so, where so many frames were sent in all
module _ (form : Form) (told : Option Files) (plan : Plan) (before : Option (List Line)) (s : State) (sent : ℕ) (f : Failures) (stages : Stages Said) (runs : AreRuns plan before s sent f stages) where
  abbrev steps_report : Reported
  steps_report = report_of before s

  abbrev end_report : Reported
  end_report = reported before s.told (end_sent end.Ok s.numbers sent)

  abbrev voice : Voice Said
  voice = voice_in form told plan

  abbrev steps_of : List Said → List Step
  steps_of past = steps plan (mets_of past)

  at_end : (past : List Said) → stages.ended past → AtEnd plan (steps_of past) end_report
  at_end past k =
      let x = (runs.ended past k).met.0 in record {
        reported = x.at.reported;
        counted = ap₂ (λ (n : Numbers) m. record n { sent = m }) x.at.counted x.sent_is;
      }

  -- what holds of records that were heard
  record IsDone (is : Option LogError) (r : Reported) (past : List Said) : Type 0 where
    at : Tells (due_lines plan (steps_of past) is) (due_numbers plan (steps_of past) is) r
    failed : AreFailures (steps_of past) f
    said : AreSaid past

  done_heard : (e : LogError) (past : List Said) → stages.heard past → IsDone (Some e) steps_report past
  done_heard e past k = let h = runs.heard past k in record { at = h.met.0.at; failed = h.met.1; said = h.said }

  done_ended : (past : List Said) → stages.ended past → IsDone None end_report past
  done_ended past k = let h = runs.ended past k in record { at = at_end past k; failed = h.met.1; said = h.said }

  settled : (events : List Said) → MayCome voice events → (is refusal : Option LogError) (r : Reported) (done : List Said → Type 0) (before_text after : Option (List ℕ)) → ((past : List Said) → done past → IsDone is r past) → refusal ≡ is
      → HeardAll voice done events refusal before_text after → Settled form plan (steps_of events) refusal r f before_text after
  settled events may is refusal r done before_text after by e x =
      let d = by events x.hears in record {
        at = subst (λ (y : Option LogError). Tells (due_lines plan (steps_of events) y) (due_numbers plan (steps_of events) y) r) (sym e) d.at;
        failed = d.failed;
        written = is_written form told plan events refusal before_text after may d.said x.written;
      }

  -- exactly these records are reported and written, whatever came behind them
  settled_upto : (past : List Said) (before_text after : Option (List ℕ)) → MayCome voice past → stages.heard past → after ≡ behind before_text (said voice past) → Settled form plan (steps_of past) (Some error.Failed) steps_report f before_text after
  settled_upto past before_text after may k w =
      let h = runs.heard past k in record {
        at = h.met.0.at;
        failed = h.met.1;
        written = is_written form told plan past (Some error.Failed) before_text after may h.said (w ∙ ap (behind before_text) (sym (append-nil (said voice past))));
      }

  upto : (events : List Said) (before_text after : Option (List ℕ)) → MayCome voice events → HeardUpto voice stages.heard events before_text after → Upto form plan (mets_of events) steps_report f before_text after
  upto events before_text after may u = record {
    came = mets_of u.came;
    first = first_mets events u.came u.first;
    settled = settled_upto u.came before_text after (may_first voice events u.came u.first may) u.hears u.written;
  }

  -- memory was wanting in a step, or in the last lines
  begun : (events : List Said) (refusal : Option LogError) (before_text after : Option (List ℕ)) → MayCome voice events → HeardBroken voice stages.broke events refusal before_text after → Begun form plan (steps_of events) refusal steps_report f before_text after
  begun events refusal before_text after may x =
      let h = runs.broke x.came x.is in
      let heard = before_newest x.came in
      let few = first_before events x.came x.first in
      let n = first_steps plan (mets_of events) (mets_of x.came) (first_mets events x.came x.first) in
      let b = broke_grow plan n.newer (steps_of x.came) (steps plan (before_newest (mets_of x.came))) steps_report f h.met in
      let first = b.first refusal in record {
        first = record { newer = first.newer; past = first.past; parts = n.parts ∙ first.parts; told = first.told; rest = first.rest; next = first.next; at = first.at; failed = first.failed };
        of_first =
            begins_steps form told plan first.past heard before_text after (subst (λ (mets : List Met). FirstOf first.past (steps plan mets)) (before_of x.came) (b.behind refusal)) (may_first voice events heard few may) h.said
            x.begins;
        written = is_begun form told plan events heard refusal before_text after may few h.said x.begins x.written;
      }

  begun_whole : (events : List Said) (refusal : Option LogError) (before_text after : Option (List ℕ)) → MayCome voice events → HeardCut voice stages.cut_short events refusal before_text after → Begun form plan (steps_of events) refusal steps_report f before_text after
  begun_whole events refusal before_text after may x =
      let h = runs.cut events x.is in
      let first = h.met.first in record {
        first = record { newer = first.newer; past = first.past; parts = first.parts; told = first.told; rest = first.rest; next = ap (next_lines plan first.newer first.past) x.read ∙ first.next; at = first.at; failed = first.failed };
        of_first = begins_steps form told plan first.past events before_text after h.met.behind may h.said x.begins;
        written = is_begun_whole form told plan events refusal before_text after may h.said x.written;
      }

  -- a write failed behind a step, or behind the last line
  cut_off : (events : List Said) (refusal : Option LogError) (before_text after : Option (List ℕ)) → MayCome voice events → HeardFirst voice stages.heard events refusal before_text after → CutOff form plan (steps_of events) refusal steps_report f before_text after
  cut_off events refusal before_text after may x =
      let n = first_steps plan (mets_of events) (mets_of x.came) (first_mets events x.came x.first) in
      let past = steps_of x.came in
      let h = runs.heard x.came x.is in record {
        first = record {
          newer = n.newer;
          past = past;
          parts = n.parts;
          told = [];
          rest = next_lines plan n.newer past refusal;
          next = refl;
          at = record { reported = h.met.0.at.reported ∙ ap (put_behind before) (sym (append-nil (lines plan past))); counted = h.met.0.at.counted };
          failed = h.met.1.tells;
        };
        failed = h.met.1;
        of_first = inl (refl, begins_steps form told plan past x.came before_text after (record { newer = []; parts = refl }) (may_first voice events x.came x.first may) h.said x.begins);
        written = is_begun form told plan events x.came refusal before_text after may x.first h.said x.begins x.written;
      }

  cut_whole : (events : List Said) (refusal : Option LogError) (before_text after : Option (List ℕ)) → MayCome voice events → HeardWhole voice stages.ended events refusal before_text after → CutOff form plan (steps_of events) refusal steps_report f before_text after
  cut_whole events refusal before_text after may x =
      let all = steps_of events in
      let h = runs.ended events x.is in
      subst (λ (z : Option LogError). CutOff form plan all z steps_report f before_text after) (sym x.read) (record {
        first = record {
          newer = [];
          past = all;
          parts = refl;
          told = emptying plan all;
          rest = [];
          next = sym (append-nil (emptying plan all));
          at = h.met.0.at;
          failed = h.met.1.tells;
        };
        failed = h.met.1;
        of_first = inr (refl, refl);
        written = is_begun_whole form told plan events None before_text after may h.said (subst (λ (z : Option LogError). Begins (all_said voice events z) before_text after) x.read x.written);
      })

  ran : (events : List Said) (refusal : Option LogError) (how : Ended) (before_text after : Option (List ℕ)) → MayCome voice events → Gone voice stages events refusal how before_text after
      → Ran form plan (mets_of events) refusal (status_of how) (reported before s.told (end_sent how s.numbers sent)) f before_text after
  ran events refusal end.Ok before_text after may g = (g.0, settled events may None refusal end_report stages.ended before_text after done_ended g.0 g.1)
  ran events refusal (end.Log line why) before_text after may g = (g.0, settled events may (Some _) refusal steps_report stages.heard before_text after (done_heard _) g.0 g.1)
  ran events refusal end.LogLong before_text after may g = (g.0, settled events may (Some _) refusal steps_report stages.heard before_text after (done_heard _) g.0 g.1)
  ran events refusal end.ReadFault before_text after may g = upto events before_text after may g
  ran events refusal end.WriteFault before_text after may g = elim g [
    | inl x ↦ cut_off events refusal before_text after may x
    | inr x ↦ cut_whole events refusal before_text after may x
  ]
  ran events refusal end.NoMemory before_text after may g = elim g [
    | inl x ↦ begun events refusal before_text after may x
    | inr x ↦ begun_whole events refusal before_text after may x
  ]

  of_bytes : (events : List Said) (bytes : List ℕ) (came : List Said) → HeardOfBytes (names_of plan) voice events bytes came → AreOfBytes plan (mets_of events) bytes (mets_of came)
  of_bytes events bytes came are = record { unrefused = are.unrefused; first = first_mets events came are.first; records_are = records_same came ∙ are.records_are }

  has_taken : (events : List Said) (left new before_text after : Option (List ℕ)) → MayCome voice events → HeardTaken (names_of plan) voice stages.heard events left new before_text after → IsOfTaken form plan (mets_of events) (flow left new before_text after) steps_report f
  has_taken events left new before_text after may t = record {
    taken = t.taken;
    took = t.took;
    came = mets_of t.came;
    are = of_bytes events t.taken t.came t.are;
    settled = settled_upto t.came before_text after (may_first voice events t.came t.are.first may) t.hears t.written;
  }

  is_reported : (past : List Said) → HeardOrEnded stages past → At plan (steps_of past) steps_report ⊎ (AtEnd plan (steps_of past) steps_report ⊎ Emptied plan (steps_of past) steps_report)
  is_reported past k = elim k [
    | inl x ↦ inl (runs.heard past x).met.0.at
    | inr x ↦ inr (inr (runs.ended past x).met.0.at)
  ]

  -- where memory was wanting
  reports_on : (all : List Step) (z : Option LogError) (past : List Met) (x : AtFirst plan all z steps_report f) → FirstOf x.past (steps plan past) → ReportsOn plan (steps plan past) steps_report
  reports_on all z past x b = record {
    newer = b.newer;
    told = x.told;
    at = subst (λ (ss : List Step). Tells (lines plan ss ++ x.told) (numbers plan ss) steps_report) b.parts x.at;
  }

  broke_reported : (events past : List Said) → BrokeBehind stages events past → ReportsOn plan (steps_of past) steps_report
  broke_reported events past k = elim k [
    | inl x ↦ (let b = (runs.broke (x.next ∷ past) x.is).met in reports_on (steps_of (x.next ∷ past)) None (mets_of past) (b.first None) (b.behind None))
    | inr x ↦ (let c = (runs.cut past x.1).met in reports_on (steps_of past) None (mets_of past) c.first c.behind)
  ]

  broke_first : (events past : List Said) → BrokeBehind stages events past → FirstOf events past
  broke_first events past k = elim k [ inl x ↦ first_events events (x.next ∷ past) (x.next ∷ []) past x.first refl | inr x ↦ x.0 ]

  broke_said : (events past : List Said) → BrokeBehind stages events past → AreSaid past
  broke_said events past k = elim k [ inl x ↦ (runs.broke (x.next ∷ past) x.is).said | inr x ↦ (runs.cut past x.1).said ]

  are_said : (past : List Said) → HeardOrEnded stages past → AreSaid past
  are_said past k = elim k [ inl x ↦ (runs.heard past x).said | inr x ↦ (runs.ended past x).said ]

  mets_both : (newer came : List Said) → mets_of (newer ++ came) ≡ mets_of newer ++ mets_of came
  mets_both newer came = map-append (λ (it : Said). it.met) newer came

  -- what was heard is reported
  reports : (stat : Status) → ((all : List Step) → At plan all steps_report ⊎ (AtEnd plan all steps_report ⊎ Emptied plan all steps_report) → IsReported stat plan all steps_report)
      → (events : List Said) (front : List ℕ) → HearsBytes (names_of plan) voice stages events front → ReportsBytes plan (mets_of events) stat steps_report front
  reports stat is events front k =
      let newer = k.hears.newer in
      let both = mets_both newer k.came in record {
        came = mets_of k.came;
        are = of_bytes events front k.came k.are;
        newer = mets_of newer;
        first = subst (λ (mets : List Met). FirstOf (mets_of events) mets) both (first_mets events (newer ++ k.came) k.hears.first);
        reported = subst (λ (mets : List Met). IsReported stat plan (steps plan mets) steps_report) both (is (steps_of (newer ++ k.came)) (is_reported (newer ++ k.came) k.hears.hears));
      }

  reports_end : (events : List Said) (front : List ℕ) → stages.ended events → HearsBytes (names_of plan) voice stages events front → ReportsBytes plan (mets_of events) status.Ok end_report front
  reports_end events front e k =
      let are = of_bytes events front k.came k.are in
      let n = are.first in record {
        came = mets_of k.came;
        are = are;
        newer = n.newer;
        first = record { newer = []; parts = n.parts };
        reported = subst (λ (mets : List Met). IsReported status.Ok plan (steps plan mets) end_report) n.parts (inr (inl (at_end events e)));
      }

  reports_broke : (events : List Said) (front : List ℕ) → BreaksBehind (names_of plan) voice stages events front → ReportsBytes plan (mets_of events) status.NoMemory steps_report front
  reports_broke events front k =
      let past = k.newer ++ k.came in
      let both = mets_both k.newer k.came in record {
        came = mets_of k.came;
        are = of_bytes events front k.came k.are;
        newer = mets_of k.newer;
        first = subst (λ (mets : List Met). FirstOf (mets_of events) mets) both (first_mets events past (broke_first events past k.broke));
        reported = subst (λ (mets : List Met). ReportsOn plan (steps plan mets) steps_report) both (broke_reported events past k.broke);
      }

  -- what is written of the lines that end among some bytes, if each was heard
  writes : (events : List Said) (left new before_text after : Option (List ℕ)) (front : List ℕ) → MayCome voice events → (w : HasSaid (names_of plan) voice events front before_text after) → AreSaid w.came → WritesBytes form plan (mets_of events) (flow left new before_text after) front
  writes events left new before_text after front may w h = record {
    came = mets_of w.came;
    are = of_bytes events front w.came w.are;
    written = lines_written form told plan w.came before_text after (may_first voice events w.came w.are.first may) h w.written;
  }

  -- on each event of the lines that end among some bytes something was said
  said_bytes : (events newer past : List Said) (front : List ℕ) (came : List Said) → HeardOfBytes (names_of plan) voice events front came → HeardOfBytes (names_of plan) voice events front past → AreSaid (newer ++ past) → AreSaid came
  said_bytes events newer past front came are other k =
      let same = same_first events past came other.first are.first (other.records_are ∙ sym are.records_are) in subst AreSaid same (said_front newer past k)

  said_heard : (events : List Said) (front : List ℕ) (came : List Said) → HeardOfBytes (names_of plan) voice events front came → HearsBytes (names_of plan) voice stages events front → AreSaid came
  said_heard events front came are k = said_bytes events k.hears.newer k.came front came are k.are (are_said (k.hears.newer ++ k.came) k.hears.hears)

  has_streamed : (events : List Said) (refusal : Option LogError) (left new : Option (List ℕ)) (how : Ended) (before_text after : Option (List ℕ)) → MayCome voice events → Gone voice stages events refusal how before_text after
      → HeardStreamed (names_of plan) voice stages events left new how before_text after → IsStreamed form plan (mets_of events) (flow left new before_text after) (status_of how) (reported before s.told (end_sent how s.numbers sent))
  has_streamed events refusal left new how before_text after may g x = record {
    taken = x.taken;
    took = x.took;
    few = x.few;
    written = λ front more same long.
        let w = x.written front more same long in writes events left new before_text after front may w (all_said how x front more same long w.came w.are);
    reported = λ front more same long. by how g x front more same long;
  }
    where
      -- all of this, by how it ended
      all_said : (how : Ended) (y : HeardStreamed (names_of plan) voice stages events left new how before_text after) (front more : List ℕ) → y.taken ≡ front ++ more → 8192 < length more
          → (came : List Said) → HeardOfBytes (names_of plan) voice events front came → AreSaid came
      all_said end.Ok y front more same long came are = said_heard events front came are (y.hears (λ o. cc) front more same long)
      all_said (end.Log line why) y front more same long came are = said_heard events front came are (y.hears (λ o. cc) front more same long)
      all_said end.LogLong y front more same long came are = said_heard events front came are (y.hears (λ o. cc) front more same long)
      all_said end.ReadFault y front more same long came are = said_heard events front came are (y.hears (λ o. cc) front more same long)
      all_said end.WriteFault y front more same long came are = said_heard events front came are (y.hears (λ o. cc) front more same long)
      all_said end.NoMemory y front more same long came are =
          let k = y.broke refl front more same long in said_bytes events k.newer k.came front came are k.are (broke_said events (k.newer ++ k.came) k.broke)

      by : (how : Ended) → Gone voice stages events refusal how before_text after → (y : HeardStreamed (names_of plan) voice stages events left new how before_text after) (front more : List ℕ) → y.taken ≡ front ++ more → 8192 < length more
          → ReportsBytes plan (mets_of events) (status_of how) (reported before s.told (end_sent how s.numbers sent)) front
      by end.Ok e y front more same long = reports_end events front e.1.hears (y.hears (λ o. cc) front more same long)
      by (end.Log line why) e y front more same long = reports (status.Log line why) (λ all k. k) events front (y.hears (λ o. cc) front more same long)
      by end.LogLong e y front more same long = reports status.LogLong (λ all k. k) events front (y.hears (λ o. cc) front more same long)
      by end.ReadFault e y front more same long = reports status.ReadFault (λ all k. k) events front (y.hears (λ o. cc) front more same long)
      by end.WriteFault e y front more same long = reports status.WriteFault (λ all k. k) events front (y.hears (λ o. cc) front more same long)
      by end.NoMemory e y front more same long = reports_broke events front (y.broke refl front more same long)

  has_run : (left new : Option (List ℕ)) (how : Ended) (before_text after : Option (List ℕ)) → HasListened (names_of plan) voice stages left new how before_text after
      → HasRun form plan told (flow left new before_text after) (status_of how) (reported before s.told (end_sent how s.numbers sent)) f
  has_run left new how before_text after g = record {
    bytes = g.bytes;
    is = g.is;
    mets = mets_of g.events;
    of_log = records_same g.events ∙ g.of_log.records_are;
    served = are_served (in_style form plan.buses) told plan g.events g.of_log.may;
    ran = ran g.events (log_of (names_of plan) g.bytes).refusal how before_text after g.of_log.may g.gone;
    taken = taken_by how g.taken;
    streamed = has_streamed g.events (log_of (names_of plan) g.bytes).refusal left new how before_text after g.of_log.may g.gone g.streamed;
  }
    where
      taken_by : (how : Ended) → (how ≡ end.ReadFault → HeardTaken (names_of plan) voice stages.heard g.events left new before_text after) → status_of how ≡ status.ReadFault
          → IsOfTaken form plan (mets_of g.events) (flow left new before_text after) (reported before s.told (end_sent how s.numbers sent)) f
      taken_by end.Ok t e = absurd cc
      taken_by (end.Log line why) t e = absurd cc
      taken_by end.LogLong t e = absurd cc
      taken_by end.ReadFault t e = has_taken g.events left new before_text after g.of_log.may (t refl)
      taken_by end.WriteFault t e = absurd cc
      taken_by end.NoMemory t e = absurd cc

-- The same in a style of the plan's buses, for a node that was opened by the plan, and what was
-- reported in the end.
pub run_gone : (style : Style) (told : Option Files) (plan of_node : Plan) → of_node ≡ plan → style.buses ≡ plan.buses → (names : List (List ℕ)) → names ≡ names_of plan → (before : Option (List Line)) (s : State) (sent : ℕ) (f : Failures) (stages : Stages Said) → AreRuns of_node before s sent f stages
    → (left new before_text after : Option (List ℕ)) (how : Ended) → HasListened names (run_voice style told of_node) stages left new how before_text after → (stat : Status) → stat ≡ status_of how → (r : Reported) → r ≡ reported before s.told (end_sent how s.numbers sent) → (g : Failures) → g ≡ f
    → HasRun style.form plan told (flow left new before_text after) stat r g
run_gone style told plan of_node same buses names named before s sent f stages runs left new before_text after how h stat by r is g are =
    let heard : HasListened names (run_voice (in_style style.form of_node.buses) told of_node) stages left new how before_text after =
    subst (λ (bs : List BusPlan). HasListened names (run_voice (in_style style.form bs) told of_node) stages left new how before_text after) (buses ∙ ap (λ (p : Plan). p.buses) (sym same)) h in
    let there : HasRun style.form of_node told (flow left new before_text after) (status_of how) (reported before s.told (end_sent how s.numbers sent)) f =
    has_run style.form told of_node before s sent f stages runs left new how before_text after
    (subst (λ (t : List (List ℕ)). HasListened t (run_voice (in_style style.form of_node.buses) told of_node) stages left new how before_text after) (named ∙ ap names_of (sym same)) heard) in
    subst (λ (x : Failures). HasRun style.form plan told (flow left new before_text after) stat r x) (sym are)
    (subst (λ (x : Reported). HasRun style.form plan told (flow left new before_text after) stat x f) (sym is)
    (subst (λ (x : Status). HasRun style.form plan told (flow left new before_text after) x (reported before s.told (end_sent how s.numbers sent)) f) (sym by)
    (subst (λ (p : Plan). HasRun style.form p told (flow left new before_text after) (status_of how) (reported before s.told (end_sent how s.numbers sent)) f) same there)))

-- what holds of the records that were heard, or broken off on, whichever they are
pub whichever : (P : Type 0) (names : List (List ℕ)) (v : Voice Said) (stages : Stages Said) (left new before after : Option (List ℕ)) (how : Ended) → ((past : List Said) → stages.heard past → P) → ((past : List Said) → stages.ended past → P) → ((past : List Said) → stages.broke past → P) → ((past : List Said) → stages.cut_short past → P)
    → HasListened names v stages left new how before after → P
whichever P names v stages left new before after how h e b c g = of_gone how g.gone
  where
    refusal : Option LogError
    refusal = (log_of names g.bytes).refusal

    of_gone : (how : Ended) → Gone v stages g.events refusal how before after → P
    of_gone end.Ok k = e g.events k.1.hears
    of_gone (end.Log line why) k = h g.events k.1.hears
    of_gone end.LogLong k = h g.events k.1.hears
    of_gone end.ReadFault k = h k.came k.hears
    of_gone end.WriteFault k = elim k [ inl x ↦ h x.came x.is | inr x ↦ e g.events x.is ]
    of_gone end.NoMemory k = elim k [ inl x ↦ b x.came x.is | inr x ↦ c g.events x.is ]

-- whatever it heard, it is over the sink and the tree that it was over
pub over_all : {W K T : Type 0} (v : Views W K T) (first now : Running W K T) (names : List (List ℕ)) (voice : Voice Said) (left new before after : Option (List ℕ)) (how : Ended) → HasListened names voice (stages_of v first now) left new how before after → IsOver v.style v.files first now
over_all v first now names voice left new before after how g =
    whichever (IsOver v.style v.files first now) names voice (stages_of v first now) left new before after how (λ past h. h.met.over) (λ past h. h.met.over) (λ past h. h.met.over) (λ past h. h.met.over) g

-- its bound is the plan's, and it holds no more
pub bound_all : {W K T : Type 0} (v : Views W K T) (first now : Running W K T) (names : List (List ℕ)) (voice : Voice Said) (left new before after : Option (List ℕ)) (how : Ended) → HasListened names voice (stages_of v first now) left new how before after
    → (now.tally.numbers.bound ≡ bound_of first.node.now.plan) × (now.tally.numbers.held ≤ bound_of first.node.now.plan)
bound_all v first now names voice left new before after how g =
    whichever _ names voice (stages_of v first now) left new before after how (λ past h. (ap (λ (n : Numbers). n.bound) h.met.hears.runs.at.counted, h.met.hears.runs.within)) (λ past h. (ap (λ (n : Numbers). n.bound) h.met.ended.at.counted, h.met.ended.within))
    (λ past h. (ap (λ (n : Numbers). n.bound) (h.met.broke.first (Some error.Failed)).at.counted, h.met.broke.within)) (λ past h. (ap (λ (n : Numbers). n.bound) h.met.cut.first.at.counted, h.met.cut.within)) g

-- The memory bound, and what is held.

end_bound : (how : Ended) (n : Numbers) (sent : ℕ) → (end_sent how n sent).bound ≡ n.bound
end_bound end.Ok n sent = refl
end_bound (end.Log line why) n sent = refl
end_bound end.LogLong n sent = refl
end_bound end.ReadFault n sent = refl
end_bound end.WriteFault n sent = refl
end_bound end.NoMemory n sent = refl

end_held : (how : Ended) (n : Numbers) (sent : ℕ) → (end_sent how n sent).held ≡ n.held
end_held end.Ok n sent = refl
end_held (end.Log line why) n sent = refl
end_held end.LogLong n sent = refl
end_held end.ReadFault n sent = refl
end_held end.WriteFault n sent = refl
end_held end.NoMemory n sent = refl

pub run_bound : (plan of_node : Plan) → of_node ≡ plan → (how : Ended) (s n : Numbers) (sent : ℕ) → n ≡ end_sent how s sent → s.bound ≡ bound_of of_node → n.bound ≡ bound_of plan
run_bound plan of_node same how s n sent e b = ap (λ (m : Numbers). m.bound) e ∙ (end_bound how s sent ∙ (b ∙ ap bound_of same))

pub run_held : (of_node : Plan) (how : Ended) (s n : Numbers) (sent : ℕ) → n ≡ end_sent how s sent → (s.bound ≡ bound_of of_node) × (s.held ≤ bound_of of_node) → n.held ≤ n.bound
run_held of_node how s n sent e b =
    let held = ap (λ (m : Numbers). m.held) e ∙ end_held how s sent in
    let bound = ap (λ (m : Numbers). m.bound) e ∙ end_bound how s sent in omega (arith, held, bound, b.0, b.1)
