-- The lines that a run names rise, and requests ended on them in which the tree failed.
use mathlib.Core.List.{reverse_aux}
use Rattle.std.proofs.Common.{◌≡◌, ◌∙◌, ◌+◌, ◌-◌, ◌<◌, ◌≤◌, ℕ, zero, suc, Bool, true, false, List, [], ◌∷◌, ◌++◌, All, length, Option, Some, None, refl, sym, ap, subst, arith, append_assoc, append-nil}
use Rattle.std.specs.Prelude.{if◌then◌else◌, slice_index, ⊤}
use Rattle.std.specs.List.Sorted.{IsStrictlyIncreasing}
use Rattle.std.proofs.Math.Seq.{take-append_seam}
use Rattle.std.proofs.lemmas.List.Elements.{All-append, All-cons, All-nil, All-take}
use Rattle.cy_outside.specs.Files.{Files}
use Rattle.frame_log.specs.Log.{log_of}
use Rattle.frame_log.specs.Order.{IsAhead}
use Rattle.frame_log.specs.declared.error.LogError.{LogError}
use Rattle.log_loop.specs.Gone.{FirstOf}
use Rattle.tail_frame.specs.declared.logged.Record.{Record}
use Rattle.node_plan.specs.declared.plan.Plan.{Plan}
use Rattle.node_core.specs.Files.{IsServed, is_failed}
use Rattle.node_core.specs.Steps.{AreServed, Heard, Met, Step, failed_at, failed_lines, first_of, got, met_records, records, request_on, steps, ticks_before, ticks_done, ticks_until, ticks_upto}
use Rattle.node_core.specs.declared.file_reply.FileReply.{FileReply}
use Rattle.node_core.specs.declared.request.Request.{Request}
use Rattle.node_core.proofs.Waits.{records_behind, records_of_steps}
use Rattle.node_run.specs.FailedLines.{EndsFailed, FailedAreNamed}
use Rattle.node_run.specs.Failures.{Failures, HasRisen, TellsFailures, failures}
use Rattle.node_run.specs.Forms.{Form}
use Rattle.node_run.specs.Ran.{Ran, Reported, names_of}
use Rattle.node_run.specs.declared.status.Status.{Status}
use Rattle.node_run.specs.declared.status.Status.TheVariants as status
use Rattle.node_run.proofs.Fails.{ticks_fail_not}
use Rattle.node_run.proofs.Steps.{first_steps}

-- Lines that rise.

-- each of these is above this one, or below it
abbrev IsOver : ℕ → List ℕ → Type 0
IsOver n [] = ⊤
IsOver n (l ∷ ls) = (n < l) × IsOver n ls

abbrev IsUnder : ℕ → List ℕ → Type 0
IsUnder n [] = ⊤
IsUnder n (l ∷ ls) = (l < n) × IsUnder n ls

abbrev Rise : List ℕ → Type 0
Rise [] = ⊤
Rise (l ∷ ls) = IsOver l ls × Rise ls

over_more : (n m : ℕ) (ls : List ℕ) → IsOver n ls → n < m → IsOver n (ls ++ m ∷ [])
over_more n m [] h below = (below, tt)
over_more n m (l ∷ ls) h below = (h.0, over_more n m ls h.1 below)

over_front : (n : ℕ) (ls more : List ℕ) → IsOver n (ls ++ more) → IsOver n ls
over_front n [] more h = tt
over_front n (l ∷ ls) more h = (h.0, over_front n ls more h.1)

under_append : (n : ℕ) (ls more : List ℕ) → IsUnder n ls → IsUnder n more → IsUnder n (ls ++ more)
under_append n [] more h g = g
under_append n (l ∷ ls) more h g = (h.0, under_append n ls more h.1 g)

rise_more : (ls : List ℕ) (m : ℕ) → Rise ls → IsUnder m ls → Rise (ls ++ m ∷ [])
rise_more [] m h u = (tt, tt)
rise_more (l ∷ ls) m h u = (over_more l m ls h.0 u.0, rise_more ls m h.1 u.1)

rise_front : (ls more : List ℕ) → Rise (ls ++ more) → Rise ls
rise_front [] more h = tt
rise_front (l ∷ ls) more h = (over_front l ls more h.0, rise_front ls more h.1)

increasing : (ls : List ℕ) → Rise ls → IsStrictlyIncreasing ls
increasing [] h k within = absurd (omega (arith, within))
increasing (l ∷ []) h k within = absurd (omega (arith, within))
increasing (l ∷ m ∷ ls) h zero within = h.0.0
increasing (l ∷ m ∷ ls) h (suc k) within =
    let next : suc (k + 1) ≡ suc k + 1 = omega arith in
    subst (λ n. slice_index (m ∷ ls) k < slice_index (l ∷ m ∷ ls) n) next (increasing (m ∷ ls) h.1 k (omega (arith, within)))

-- Records, the newest first, whose lines fall.

abbrev AreBelow : ℕ → List Record → Type 0
AreBelow n [] = ⊤
AreBelow n (r ∷ past) = (r.line < n) × AreBelow n past

abbrev Fall : List Record → Type 0
Fall [] = ⊤
Fall (r ∷ past) = AreBelow r.line past × Fall past

below_more : (n m : ℕ) (past : List Record) → n ≤ m → AreBelow n past → AreBelow m past
below_more n m [] less h = tt
below_more n m (r ∷ past) less h = (omega (arith, h.0, less), below_more n m past less h.1)

falls : (moment line : ℕ) (recs past : List Record) → IsAhead moment line recs → AreBelow (line + 1) past → Fall past → Fall (reverse_aux recs past)
falls moment line [] past ahead below fall = fall
falls moment line (r ∷ recs) past ahead below fall =
    let here = below_more (line + 1) r.line past (omega (arith, ahead.1)) below in
    falls r.moment r.line recs (r ∷ past) ahead.2 (omega arith, below_more r.line (r.line + 1) past (omega arith) here) (here, fall)

-- The lines that a log with these records names.

-- one more record, with the ticks before it
failed_on : (plan : Plan) (m : Met) (past : List Met) → failed_lines (steps plan (m ∷ past)) ≡ failed_lines (steps plan past) ++ failed_at (Heard m.rec m.file)
failed_on plan m past = ap (λ (ls : List ℕ). ls ++ failed_at (Heard m.rec m.file)) (go plan.silent)
  where
    log : List Record
    log = met_records past

    go : (silent : Bool) → failed_lines ((if silent then [] else ticks_upto (first_of m.rec log) (ticks_done log) m.rec.moment) ++ steps plan past) ≡ failed_lines (steps plan past)
    go true = refl
    go false = ticks_fail_not (first_of m.rec log) (ticks_done log) (ticks_until (first_of m.rec log) m.rec.moment - ticks_done log) (steps plan past)

failed_under : (plan : Plan) (mets : List Met) (n : ℕ) → AreBelow n (met_records mets) → IsUnder n (failed_lines (steps plan mets))
failed_under plan [] n h = tt
failed_under plan (m ∷ past) n h =
    subst (IsUnder n) (sym (failed_on plan m past)) (under_append n (failed_lines (steps plan past)) (failed_at (Heard m.rec m.file)) (failed_under plan past n h.1) (at (is_failed m.file)))
  where
    at : (b : Bool) → IsUnder n (if b then m.rec.line ∷ [] else [])
    at true = (h.0, tt)
    at false = tt

rise_with : (lines : List ℕ) (line : ℕ) → Rise lines → IsUnder line lines → (failed : Bool) → Rise (lines ++ (if failed then line ∷ [] else []))
rise_with lines line rise under true = rise_more lines line rise under
rise_with lines line rise under false = subst Rise (sym (append-nil lines)) rise

failed_rise : (plan : Plan) (mets : List Met) → Fall (met_records mets) → Rise (failed_lines (steps plan mets))
failed_rise plan [] h = tt
failed_rise plan (m ∷ past) h =
    subst Rise (sym (failed_on plan m past)) (rise_with (failed_lines (steps plan past)) m.rec.line (failed_rise plan past h.1) (failed_under plan past m.rec.line h.0) (is_failed m.file))

-- Where the tree failed, a request was made.

asked : (told : Option Files) (plan : Plan) (request : Option Request) (file : FileReply) → IsServed told plan request file → is_failed file ≡ true → (r : Request) × (request ≡ Some r)
asked told plan None file served failed = absurd (let none : is_failed file ≡ false = ap is_failed served in cc)
asked told plan (Some r) file served failed = (r, refl)

served_older : (told : Option Files) (plan : Plan) (newer past : List Step) → AreServed told plan (newer ++ past) → AreServed told plan past
served_older told plan [] past h = h
served_older told plan (s ∷ newer) past h = served_older told plan newer past h.1

ends_more : (plan : Plan) (m : Met) (past : List Met) (lines : List ℕ) → All (EndsFailed plan past) lines → All (EndsFailed plan (m ∷ past)) lines
ends_more plan m past lines h k d within =
    let e = h k d within in record {
      newer = m ∷ e.newer;
      last = e.last;
      past = e.past;
      parts = ap (λ (t : List Met). m ∷ t) e.parts;
      line_is = e.line_is;
      request = e.request;
      ended = e.ended;
      failed = e.failed;
    }

module _ (told : Option Files) (plan : Plan) where
  ends_here : (m : Met) (past : List Met) → AreServed told plan (steps plan (m ∷ past)) → (failed : Bool) → is_failed m.file ≡ failed → All (EndsFailed plan (m ∷ past)) (if failed then m.rec.line ∷ [] else [])
  ends_here m past served false e = All-nil (EndsFailed plan (m ∷ past))
  ends_here m past served true e =
      let request = asked told plan (request_on plan m.rec (got plan m.rec (records (ticks_before plan m.rec (met_records past) ++ steps plan past)))) m.file served.0 e in
      All-cons (EndsFailed plan (m ∷ past)) m.rec.line [] (record {
        newer = [];
        last = m;
        past = past;
        parts = refl;
        line_is = refl;
        request = request.0;
        ended =
            ap (λ (log : List Record). request_on plan m.rec (got plan m.rec log)) (sym (records_behind plan m.rec past (met_records past) ∙ records_of_steps plan past))
            ∙ request.1;
        failed = e;
      }) (All-nil (EndsFailed plan (m ∷ past)))

  failed_end : (mets : List Met) → AreServed told plan (steps plan mets) → All (EndsFailed plan mets) (failed_lines (steps plan mets))
  failed_end [] served = All-nil (EndsFailed plan [])
  failed_end (m ∷ past) served =
      let older = served_older told plan (ticks_before plan m.rec (met_records past)) (steps plan past) served.1 in
      subst (All (EndsFailed plan (m ∷ past))) (sym (failed_on plan m past))
      (All-append (EndsFailed plan (m ∷ past)) (failed_lines (steps plan past)) (failed_at (Heard m.rec m.file))
      (ends_more plan m past (failed_lines (steps plan past)) (failed_end past older)) (ends_here m past served (is_failed m.file) refl))

-- What a run names are the first of these lines.

failed_front : (newer past : List Step) → (more : List ℕ) × (failed_lines (newer ++ past) ≡ failed_lines past ++ more)
failed_front [] past = ([], sym (append-nil (failed_lines past)))
failed_front (s ∷ newer) past =
    let f = failed_front newer past in
    (f.0 ++ failed_at s, ap (λ (ls : List ℕ). ls ++ failed_at s) f.1 ∙ append_assoc (failed_lines past) f.0 (failed_at s))

-- the failures of the first steps are told
record NamesFirst (all : List Step) (f : Failures) : Type 0 where
  past : List Step
  first : FirstOf all past
  tells : TellsFailures past f

names_all : (all : List Step) (f : Failures) → TellsFailures all f → NamesFirst all f
names_all all f t = record { past = all; first = record { newer = []; parts = refl }; tells = t }

module _ (form : Form) (plan : Plan) (mets : List Met) (refusal : Option LogError) (r : Reported) (f : Failures) (before after : Option (List ℕ)) where
  names_first : (stat : Status) → Ran form plan mets refusal stat r f before after → NamesFirst (steps plan mets) f
  names_first status.Ok x = names_all (steps plan mets) f x.1.failed.tells
  names_first status.Usage x = absurd x
  names_first (status.Dsdl file n w) x = absurd x
  names_first (status.Plan n w) x = absurd x
  names_first (status.Log n w) x = names_all (steps plan mets) f x.1.failed.tells
  names_first (status.Text line) x = absurd x
  names_first (status.Unreadable line path w) x = absurd x
  names_first (status.NotNewer path w) x = absurd x
  names_first status.LogLong x = names_all (steps plan mets) f x.1.failed.tells
  names_first (status.NoFile path) x = absurd x
  names_first status.ReadFault x = record { past = steps plan x.came; first = first_steps plan mets x.came x.first; tells = x.settled.failed.tells }
  names_first status.WriteFault x = record { past = x.first.past; first = record { newer = x.first.newer; parts = x.first.parts }; tells = x.first.failed }
  names_first status.NoMemory x = record { past = x.first.past; first = record { newer = x.first.newer; parts = x.first.parts }; tells = x.first.failed }

lines_are : (lines told : List ℕ) → Some lines ≡ Some ([] ++ told) → told ≡ lines
lines_are lines told e = cc

pub failed_named : ((buses : List (List ℕ)) (bytes : List ℕ) → IsAhead 0 0 (log_of buses bytes).records) → FailedAreNamed
failed_named ordered form plan files flow stat r lines counts_before counts h =
    let log = log_of (names_of plan) h.bytes in
    let n = names_first form plan h.mets log.refusal r (failures (Some []) (Some lines) counts_before counts) flow.before flow.after stat h.ran in
    let is = lines_are lines (failed_lines n.past) n.tells.told in
    let more = failed_front n.first.newer n.past in
    let whole : failed_lines (steps plan h.mets) ≡ failed_lines n.past ++ more.0 = ap failed_lines n.first.parts ∙ more.1 in
    let fall = subst Fall (sym h.of_log) (falls 0 0 log.records [] (ordered (names_of plan) h.bytes) tt tt) in
    let rise = rise_front (failed_lines n.past) more.0 (subst Rise whole (failed_rise plan h.mets fall)) in
    let ended =
    subst (All (EndsFailed plan h.mets)) (take-append_seam (failed_lines n.past) more.0)
    (All-take (EndsFailed plan h.mets) (length (failed_lines n.past)) (failed_lines n.past ++ more.0) (subst (All (EndsFailed plan h.mets)) whole (failed_end files plan h.mets h.served))) in (
      record { rise = subst IsStrictlyIncreasing is (increasing (failed_lines n.past) rise); ended = subst (All (EndsFailed plan h.mets)) is ended },
      subst (λ (ls : List ℕ). HasRisen ls counts_before.faults counts.faults) is n.tells.rose,
    )
