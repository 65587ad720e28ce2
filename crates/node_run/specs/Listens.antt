-- A run as the listener of a log: what it is over, and what holds of it once it has met records.
use Rattle.std.specs.Prelude.{◌≡◌, ◌++◌, ℕ, refl, List, Option, [], ◌∷◌}
use Rattle.cy_outside.specs.Files.{Files}
use Rattle.tail_frame.specs.declared.logged.Record.{Record}
use Rattle.log_loop.specs.Gone.{FirstOf, before_newest}
use Rattle.log_loop.specs.Met.{Comes}
use Rattle.log_loop.specs.Voice.{Voice}
use Rattle.node_plan.specs.declared.plan.Plan.{Plan}
use Rattle.node_core.specs.Keeps.{IsServedBy}
use Rattle.node_core.specs.Laws.{SomethingServed}
use Rattle.node_core.specs.Steps.{Heard, IsServedAt, Met, Step, lines_on, met}
use Rattle.node_core.specs.Steps.{met_records, new_steps, steps, ticks_before}
use Rattle.node_core.specs.declared.file_reply.FileReply.{FileReply}
use Rattle.report_lines.specs.declared.line.Line.{Line}
use Rattle.node_run.specs.Failures.{AreFailures, Failures, FailsAs, FailsUntold, TellsFailures}
use Rattle.node_run.specs.Failures.{failures, tree_counts}
use Rattle.node_run.specs.Forms.{Style}
use Rattle.node_run.specs.Goes.{Broke, GoesOn, Runs, State, report_of, state_in, unbroken}
use Rattle.node_run.specs.Hears.{AreSaid, AreSaidButNewest, BrokeOff, CutShort, HasEnded, Hears}
use Rattle.node_run.specs.Hears.{Said, but_newest, may_be_unheard, mets_of, run_voice, said}
use Rattle.node_run.specs.Hears.{unheard}
use Rattle.node_run.specs.Ran.{Reported}
use Rattle.node_run.specs.declared.log.running.Running.{Running}

-- a run is over the sink and the tree that it was over, whose files stayed, and writes in the style
-- in which it wrote
pub record IsOver {W K T : Type 0} (style_of : W → Style) (files : T → Option Files)
    (old new : Running W K T) : Type 0 where
  pub lines : new.lines.ghost_name ≡ old.lines.ghost_name
  pub tree : new.tree.ghost_name ≡ old.tree.ghost_name
  pub told : files new.tree.now ≡ files old.tree.now
  pub style : style_of new.writer.now ≡ style_of old.writer.now

-- the requests in which the tree of a run failed, and how often it was called, by what its sink
-- and its tree tell of that
abbrev pub failures_in : {W K T : Type 0} → (K → Option (List ℕ)) → (T → ℕ) → (T → ℕ)
    → Running W K T → Running W K T → Failures
failures_in failed faults calls old new =
    failures (failed old.lines.now) (failed new.lines.now)
    (tree_counts (faults old.tree.now) (calls old.tree.now))
    (tree_counts (faults new.tree.now) (calls new.tree.now))

-- it asked its tree nothing, and told of no request in which that failed
pub record AsksNone {W K T : Type 0} (style_of : W → Style) (failed : K → Option (List ℕ))
    (old new : Running W K T) : Type 0 where
  pub lines : new.lines.ghost_name ≡ old.lines.ghost_name
  pub tree : new.tree ≡ old.tree
  pub untold : failed new.lines.now ≡ failed old.lines.now
  pub style : style_of new.writer.now ≡ style_of old.writer.now

-- the style of a run's writer, and what its sink of lines and its tree tell
pub record Views (W K T : Type 0) : Type 0 where
  pub style : W → Style
  pub lines : K → Option (List Line)
  pub failed : K → Option (List ℕ)
  pub files : T → Option Files
  pub faults : T → ℕ
  pub calls : T → ℕ

abbrev pub views : {W K T : Type 0} → (W → Style) → (K → Option (List Line))
    → (K → Option (List ℕ)) → (T → Option Files) → (T → ℕ) → (T → ℕ) → Views W K T
views style lines failed files faults calls = record {
  style = style;
  lines = lines;
  failed = failed;
  files = files;
  faults = faults;
  calls = calls;
}

-- what a run says over a log, by what it is at first
abbrev pub voice_of : {W K T : Type 0} → Views W K T → Running W K T → Voice Said
voice_of v first = run_voice (v.style first.writer.now) (v.files first.tree.now) first.node.now.plan

-- what a run has reported that was this at first
abbrev pub reported_since : {W K T : Type 0} → Views W K T → Running W K T → Running W K T
    → Reported
reported_since v first now = report_of (v.lines first.lines.now) (state_in v.style v.lines now)

-- and the requests in which its tree failed, and how often that was called
abbrev pub failed_since : {W K T : Type 0} → Views W K T → Running W K T → Running W K T → Failures
failed_since v first now = failures_in v.failed v.faults v.calls first now

-- a run that was this at first heard these records
pub record HasHeardAll {W K T : Type 0} (v : Views W K T) (first now : Running W K T)
    (past : List Met) : Type 0 where
  pub over : IsOver v.style v.files first now
  pub hears : let s = state_in v.style v.lines now in
      Hears first.node.now.plan (v.lines first.lines.now) s now.clock past
  pub failed : AreFailures (steps first.node.now.plan past) (failed_since v first now)

-- behind these records it has said its last line
pub record HasEndedBehind {W K T : Type 0} (v : Views W K T) (first now : Running W K T)
    (past : List Met) : Type 0 where
  pub over : IsOver v.style v.files first now
  pub ended : HasEnded first.node.now.plan (reported_since v first now) now.sent past
  pub failed : AreFailures (steps first.node.now.plan past) (failed_since v first now)

-- it broke off in a step of the newest of these records, or behind them
pub record HasBrokenOff {W K T : Type 0} (v : Views W K T) (first now : Running W K T)
    (past : List Met) : Type 0 where
  pub over : IsOver v.style v.files first now
  pub broke : let r = reported_since v first now in
      BrokeOff first.node.now.plan r (failed_since v first now) past

-- it broke off in its last words behind these records
pub record IsCutShort {W K T : Type 0} (v : Views W K T) (first now : Running W K T)
    (past : List Met) : Type 0 where
  pub over : IsOver v.style v.files first now
  pub cut : let r = reported_since v first now in
      CutShort first.node.now.plan r (failed_since v first now) past

-- what holds of the records holds of the events, on each of which something was said
pub record OfSaid (holds : List Met → Type 0) (past : List Said) : Type 0 where
  pub met : holds (mets_of past)
  pub said : AreSaid past

-- the same but for the newest event, on which it may have broken off
pub record OfBroken (holds : List Met → Type 0) (past : List Said) : Type 0 where
  pub met : holds (mets_of past)
  pub said : AreSaidButNewest past

-- the steps over the records before the newest are the first
abbrev pub steps_before : (plan : Plan) (past : List Met)
    → FirstOf (steps plan past) (steps plan (before_newest past))
steps_before plan [] = record { newer = []; parts = refl }
steps_before plan (m ∷ past) = record { newer = new_steps plan m past; parts = refl }

-- what was heard is not broken off
abbrev pub unbroken_off : {W K T : Type 0} (v : Views W K T) (first now : Running W K T)
    (past : List Met) → HasHeardAll v first now past → HasBrokenOff v first now past
unbroken_off v first now past h =
    let all = steps first.node.now.plan past in record {
      over = h.over;
      broke =
          unbroken first.node.now.plan (v.lines first.lines.now) (state_in v.style v.lines now)
          (failed_since v first now) all (steps first.node.now.plan (before_newest past))
          (steps_before first.node.now.plan past) h.hears.runs h.failed.tells;
    }

abbrev pub unbroken_said : {W K T : Type 0} (v : Views W K T) (first now : Running W K T)
    (past : List Said) → OfSaid (HasHeardAll v first now) past
    → OfBroken (HasBrokenOff v first now) past
unbroken_said v first now past h =
    record { met = unbroken_off v first now (mets_of past) h.met; said = but_newest past h.said }

-- there is something that the tree may tell for a record; on it is said what is to be said
abbrev pub some_said : SomethingServed
    → (s : Style) (told : Option Files) (plan : Plan) (rec : Record) (past : List Said)
    → Comes (run_voice s told plan) rec past
some_said some s told plan rec past =
    let mets = mets_of past in
    let x = some told plan rec (ticks_before plan rec (met_records mets) ++ steps plan mets) in
    let m = met rec x.0 in
    record {
      event = said m (unheard s.form s.buses (lines_on plan m mets));
      of = refl;
      may = (x.1, may_be_unheard s.form s.buses plan m mets);
    }

-- a record was heard: there is what the tree told of a file, by which the run goes on
pub record HasTaken (told : Option Files) (rec : Record) (old new : State) (before after : List ℕ)
    (f : Failures) : Type 0 where
  pub file : FileReply
  pub served : IsServedBy told old.node (Heard rec file)
  pub goes : GoesOn (Heard rec file ∷ []) old new before after
  pub fails : FailsAs file (Heard rec file) f

-- a run of a plan broke off on a record behind these steps, by what the tree told of a file or
-- might have told
pub record BreaksAt (told : Option Files) (plan : Plan) (rec : Record) (past : List Step)
    (r : Reported) (f : Failures) : Type 0 where
  pub file : FileReply
  pub served : IsServedAt told plan (Heard rec file) past
  pub broke : Broke plan r f (Heard rec file ∷ past) past

-- it broke off on a record, whatever steps it was behind and whichever of their failures are told
pub record BreaksOn (told : Option Files) (rec : Record) (old new : State)
    (f : Failures) : Type 0 where
  pub breaks : (plan : Plan) (before : Option (List Line)) (past : List Step) (since : Failures)
      → Runs plan before old past → TellsFailures past since
      → BreaksAt told plan rec past (report_of before new) since
  pub untold : FailsUntold f
