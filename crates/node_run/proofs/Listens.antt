-- A run as the listener of a log.
use Rattle.std.proofs.Common.{◌≡◌, ◌∙◌, ◌^◌, ◌+◌, ◌<◌, ◌≤◌, ◌++◌, ℕ, List, Option, Some, MutBor, length, drop, refl, sym, ap, subst, arith}
use Rattle.std.proofs.Math.Seq.{drop-append_seam}
use Rattle.cy_outside.specs.Files.{Files}
use Rattle.tail_frame.specs.declared.logged.Record.{Record}
use Rattle.log_loop.specs.Met.{Breaks, Hears as HearsOne}
use Rattle.node_plan.specs.declared.plan.Plan.{Plan}
use Rattle.file_service.specs.Causes.{TellsFault}
use Rattle.node_core.specs.Files.{is_failed}
use Rattle.node_core.specs.Keeps.{keeps}
use Rattle.report_lines.specs.LineSinks.{put_behind}
use Rattle.report_lines.specs.declared.line.Line.{Line}
use Rattle.node_core.specs.Steps.{Heard, Met, Step, failed_at, lines_on, met, steps, ticks_from}
use Rattle.node_core.specs.Types.{type_on}
use Rattle.node_core.proofs.Served.{something_served}
use Rattle.node_run.specs.Failures.{FailsAs, FailsUntold, TellsFailures, TreeCounts, failures, one_if_file, tree_counts}
use Rattle.node_run.specs.Forms.{Adds, Spells, Style}
use Rattle.node_run.specs.Goes.{BreaksOff, GoesOn, IsFrom, IsLast, State, last_tick, next_behind, state_in, ticks_left}
use Rattle.node_run.specs.Hears.{IsServedMet, MaySay, Said, may_be_unheard, mets_of, said, unheard}
use Rattle.node_run.specs.Listens.{AsksNone, BreaksOn, HasBrokenOff, HasHeardAll, HasTaken, IsOver, OfBroken, OfSaid, Views, failed_since, failures_in, reported_since, some_said, voice_of}
use Rattle.node_run.specs.declared.log.running.Running.{Running}
use Rattle.node_run.proofs.Fails.{failed_broke, failed_next}
use Rattle.node_run.proofs.Hearing.{breaks_at, broke_record, broke_ticks, failed_heard, heard_text, hears_next, served_broken, served_record}

-- By two calls, one after the other.
pub over_then : {W K T : Type 0} {style : W → Style} {files : T → Option Files} {a b c : Running W K T} → IsOver style files a b → IsOver style files b c → IsOver style files a c
over_then x y = record { lines = y.lines ∙ x.lines; tree = y.tree ∙ x.tree; told = y.told ∙ x.told; style = y.style ∙ x.style }

pub asks_then : {W K T : Type 0} {style : W → Style} {failed : K → Option (List ℕ)} {a b c : Running W K T} → AsksNone style failed a b → AsksNone style failed b c → AsksNone style failed a c
asks_then x y = record { lines = y.lines ∙ x.lines; tree = y.tree ∙ x.tree; untold = y.untold ∙ x.untold; style = y.style ∙ x.style }

-- where nothing is asked of the tree
pub over_none : {W K T : Type 0} {style : W → Style} {failed : K → Option (List ℕ)} {a b : Running W K T} (files : T → Option Files) → AsksNone style failed a b → IsOver style files a b
over_none {W} {K} {T} files x = record { lines = x.lines; tree = ap (λ (t : MutBor T). t.ghost_name) x.tree; told = ap (λ (t : MutBor T). files t.now) x.tree; style = x.style }

-- what was said last, where a text stands behind another
abbrev pub said_last : List ℕ → List ℕ → List ℕ
said_last before after = drop (length before) after

-- where lines were added, it is a text of them
module _ (s : Style) (plan : Plan) (m : Met) (past : List Met) (before after : List ℕ) (h : Adds s (type_on plan) (lines_on plan m past) before after) where
  last_is : said_last before after ≡ h.said
  last_is = ap (drop (length before)) h.is ∙ drop-append_seam before h.said

  pub may_say : MaySay s plan m past (Some (said_last before after))
  may_say = subst (Spells s.form (type_on plan) s.buses (lines_on plan m past)) (sym last_is) h.spelled

  pub says : after ≡ before ++ said_last before after
  says = h.is ∙ ap (λ t. before ++ t) (sym last_is)

-- One more record, behind the ticks before it, in which the run asks nothing.
module _ (W K T : Type 0) (v : Views W K T) (rec : Record) (old mid : Running W K T) (asks : AsksNone v.style v.failed old mid) (low : rec.moment < 10 ^ 18) (last : last_tick old.clock.number old.clock.next ≤ rec.moment) (few : old.tally.numbers.records < 2 ^ 28) where
  abbrev left : ℕ
  left = ticks_left old.clock.number old.clock.next rec.moment

  abbrev state : Running W K T → State
  state run = state_in v.style v.lines run

  abbrev counts : Running W K T → TreeCounts
  counts run = tree_counts (v.faults run.tree.now) (v.calls run.tree.now)

  same_faults : v.faults mid.tree.now ≡ v.faults old.tree.now
  same_faults = ap (λ (t : MutBor T). v.faults t.now) asks.tree

  same_calls : v.calls mid.tree.now ≡ v.calls old.tree.now
  same_calls = ap (λ (t : MutBor T). v.calls t.now) asks.tree

  module _ (first : Running W K T) (past : List Said) (h : OfSaid (HasHeardAll v first old) past) where
    abbrev plan : Plan
    plan = first.node.now.plan

    abbrev mets : List Met
    mets = mets_of past

    abbrev all : List Step
    all = steps plan mets

    abbrev before : Option (List Line)
    before = v.lines first.lines.now

    abbrev style : Style
    style = v.style first.writer.now

    same_files : v.files mid.tree.now ≡ v.files first.tree.now
    same_files = (over_none v.files asks).told ∙ h.met.over.told

    -- the requests in which the tree had failed are told, where a step broke off
    tells_broken : (now : Running W K T) → FailsUntold (failures (v.failed old.lines.now) (v.failed now.lines.now) (counts old) (counts now)) → TellsFailures all (failed_since v first now)
    tells_broken now u = failed_broke all (v.failed first.lines.now) (v.failed old.lines.now) (v.failed now.lines.now) (counts first) (counts old) (counts now) h.met.failed u

    -- it broke off in a tick
    pub breaks_ticks : ((x : ℕ) → IsFrom x old.clock.number old.clock.next rec.moment → BreaksOff (ticks_from x old.clock.number left) (state old) (state mid)) → Breaks (voice_of v) (λ f now p. OfBroken (HasBrokenOff v f now) p) mid rec first past
    breaks_ticks b =
        let some = some_said something_served style (v.files first.tree.now) plan rec past in record {
          event = some.event;
          of = some.of;
          may = some.may;
          breaks = record {
            met = record {
              over = over_then h.met.over (over_none v.files asks);
              broke =
                  broke_ticks plan before rec mets (state old) old.clock h.met.hears low last few some.event.met.file (state mid) (failed_since v first mid)
                  (tells_broken mid (record { told = asks.untold; count = let e = same_faults in omega arith; called = let e = same_calls in omega arith })) b;
            };
            said = h.said;
          };
        }

    module _ (t now : List ℕ) (goes : (x : ℕ) → IsFrom x old.clock.number old.clock.next rec.moment → GoesOn (ticks_from x old.clock.number left) (state old) (state mid) t now) (new : Running W K T) (over : IsOver v.style v.files mid new) where
      over_new : IsOver v.style v.files first new
      over_new = over_then h.met.over (over_then (over_none v.files asks) over)

      -- in the record's step
      pub breaks_record : BreaksOn (v.files mid.tree.now) rec (state mid) (state new) (failures_in v.failed v.faults v.calls mid new) → Breaks (voice_of v) (λ f now p. OfBroken (HasBrokenOff v f now) p) new rec first past
      breaks_record b =
          let f = failed_since v first new in
          let failed = tells_broken new (record { told = b.untold.told ∙ asks.untold; count = let e = same_faults in let more = b.untold.count in omega arith; called = let e = same_calls in let more = b.untold.called in omega arith }) in
          let at = breaks_at plan before rec mets (state old) old.clock h.met.hears low last few (state mid) t now goes (v.files mid.tree.now) (state new) (failures_in v.failed v.faults v.calls mid new) f failed b in
          let served = served_broken plan before rec mets (state old) old.clock h.met.hears low last few (state mid) t now goes (v.files mid.tree.now) (reported_since v first new) f at in
          let m = met rec at.file in record {
            event = said m (unheard style.form style.buses (lines_on plan m mets));
            of = refl {a = rec};
            may = (subst (λ (told : Option Files). IsServedMet told plan m mets) same_files served, may_be_unheard style.form style.buses plan m mets);
            breaks = record {
              met = record {
                over = over_new;
                broke = broke_record plan before rec mets (state old) old.clock h.met.hears low last few (state mid) t now goes (v.files mid.tree.now) (reported_since v first new) f at;
              };
              said = h.said;
            };
          }

      -- or it was heard
      pub hears_record : (after : List ℕ) (x : HasTaken (v.files mid.tree.now) rec (state mid) (state new) now after (failures_in v.failed v.faults v.calls mid new)) → new.clock.number ≡ old.clock.number + left → new.clock.next ≡ next_behind old.clock.number old.clock.next rec.moment
          → IsLast rec.moment (keeps new.node.now).queues new.clock.last → HearsOne (voice_of v) (λ f now p. OfSaid (HasHeardAll v f now) p) old new (said (met rec x.file) (Some (said_last t after))) first past t after
      hears_record after x number next lasts =
          let m = met rec x.file in
          let served = served_record plan before rec mets (state old) old.clock h.met.hears low last few (state mid) t now goes (v.files mid.tree.now) x.file x.served in
          let fails : FailsAs x.file (Heard rec x.file) (failures (v.failed old.lines.now) (v.failed new.lines.now) (counts old) (counts new)) = record {
            told = x.fails.told ∙ ap (λ o. put_behind o (failed_at (Heard rec x.file))) asks.untold;
            cause = subst (λ n. TellsFault (is_failed x.file) n (v.faults new.tree.now)) same_faults x.fails.cause;
            called = subst (λ n. v.calls new.tree.now ≤ n + one_if_file x.file) same_calls x.fails.called;
          } in
          let adds = subst (λ (s : Style). Adds s (type_on plan) (lines_on plan m mets) t after) h.met.over.style
          (heard_text plan before rec mets (state old) old.clock h.met.hears low last few (state mid) t now goes x.file (state new) after x.goes) in record {
            may = (subst (λ (told : Option Files). IsServedMet told plan m mets) same_files served, may_say style plan m mets t after adds);
            hears = record {
              met = record {
                over = over_new;
                hears = hears_next plan before rec mets (state old) old.clock h.met.hears low last few (state mid) t now goes x.file (state new) after x.goes new.clock number next lasts;
                failed = failed_heard plan before rec mets (state old) old.clock h.met.hears low last few x.file (failed_since v first new)
                    (failed_next rec x.file all (v.failed first.lines.now) (v.failed old.lines.now) (v.failed new.lines.now) (counts first) (counts old) (counts new) h.met.failed fails);
              };
              said = ((said_last t after, refl), h.said);
            };
            text = says style plan m mets t after adds;
          }
