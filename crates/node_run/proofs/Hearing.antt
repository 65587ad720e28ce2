-- One more record is heard: the ticks before it, and its step.
use Rattle.std.proofs.Common.{◌≡◌, ◌∙◌, ◌^◌, ℕ, ◌+◌, ◌<◌, ◌≤◌, Bool, true, false, List, [], ◌∷◌, ◌++◌, Option, length, sym, ap, subst, inl, inr, arith}
use Rattle.std.specs.Prelude.{if◌then◌else◌}
use Rattle.cy_outside.specs.Files.{Files}
use Rattle.tail_frame.specs.declared.logged.Record.{Record}
use Rattle.node_plan.specs.declared.plan.Plan.{Plan}
use Rattle.node_core.specs.declared.file_reply.FileReply.{FileReply}
use Rattle.report_lines.specs.declared.line.Line.{Line}
use Rattle.report_lines.specs.declared.numbers.Numbers.{Numbers}
use Rattle.node_core.specs.Keeps.{IsServedBy, keeps}
use Rattle.node_core.specs.Queues.{Queue, rounds, waiting}
use Rattle.node_core.specs.Steps.{Heard, IsServedAt, Kept, Met, Step, failed_at, failed_lines, first_of, kept, lines_behind, lines_on, met, met_records, steps, ticks_before, ticks_done, ticks_from}
use Rattle.node_core.specs.Types.{type_on}
use Rattle.node_core.proofs.Waits.{records_of_steps}
use Rattle.node_run.specs.declared.log.clock.Clock.{Clock}
use Rattle.node_run.specs.Forms.{Adds}
use Rattle.node_run.specs.Goes.{BreaksOff, Broke, GoesOn, HasGoneOn, IsFew, IsFrom, IsLast, Runs, State, last_tick, next_behind, report_of, ticks_left}
use Rattle.node_run.specs.Hears.{Hears, IsServedMet, ticks_of}
use Rattle.node_run.specs.Listens.{BreaksAt, BreaksOn}
use Rattle.node_run.specs.Failures.{AreFailures, Failures, TellsFailures, file_request_at, file_requests}
use Rattle.node_run.specs.Ran.{Reported}
use Rattle.node_run.proofs.Fails.{are_same, tells_later, ticks_ask_not, ticks_fail_not}
use Rattle.node_run.proofs.Goes.{broke_grow, broke_older, goes_more}
use Rattle.node_run.proofs.Steps.{length_behind}
use Rattle.node_run.proofs.Ticks.{Before, before_are}
use Rattle.node_run.proofs.Waits.{none_rounds}

few_ticks : (plan : Plan) (rec : Record) (past : List Record) → rec.moment < 10 ^ 18 → ticks_of plan (rec ∷ past) ≤ 2 ^ 45
few_ticks plan rec past low = go plan.silent
  where
    go : (b : Bool) → (if b then 0 else ticks_done (rec ∷ past)) ≤ 2 ^ 45
    go true = omega arith
    go false = omega arith

-- the numbers count the records
count_is : (plan : Plan) (before : Option (List Line)) (s : State) (past : List Met) → Runs plan before s (steps plan past) → s.numbers.records ≡ length (met_records past)
count_is plan before s past h = ap (λ (n : Numbers). n.records) h.at.counted ∙ ap length (records_of_steps plan past)

module _ (plan : Plan) (before : Option (List Line)) (rec : Record) (past : List Met) (old : State) (from : Clock) (h : Hears plan before old from past) (low : rec.moment < 10 ^ 18) (last : last_tick from.number from.next ≤ rec.moment) (few : old.numbers.records < 2 ^ 28) where
  abbrev left : ℕ
  left = ticks_left from.number from.next rec.moment

  abbrev first : ℕ
  first = first_of rec (met_records past)

  abbrev ticks : List Step
  ticks = ticks_from first from.number left

  are : Before plan rec (met_records past) from.number from.next
  are = before_are plan rec (met_records past) from.number from.next h.clock_is.number h.clock_is.next low last

  behind : ticks ++ steps plan past ≡ ticks_before plan rec (met_records past) ++ steps plan past
  behind = ap (λ (ts : List Step). ts ++ steps plan past) (sym are.ticks)

  same : (file : FileReply) → Heard rec file ∷ (ticks ++ steps plan past) ≡ steps plan (met rec file ∷ past)
  same file = ap (λ (ss : List Step). Heard rec file ∷ ss) behind

  failed_same : (file : FileReply) → failed_lines (Heard rec file ∷ steps plan past) ≡ failed_lines (steps plan (met rec file ∷ past))
  failed_same file =
      ap (λ (ls : List ℕ). ls ++ failed_at (Heard rec file)) (sym (ticks_fail_not first from.number left (steps plan past)))
      ∙ ap failed_lines (same file)

  requests_same : (file : FileReply) → file_requests (Heard rec file ∷ steps plan past) ≡ file_requests (steps plan (met rec file ∷ past))
  requests_same file =
      ap (λ (n : ℕ). n + file_request_at (Heard rec file)) (sym (ticks_ask_not first from.number left (steps plan past)))
      ∙ ap file_requests (same file)

  -- in no tick before it the tree fails, or is called
  pub failed_heard : (file : FileReply) (f : Failures) → AreFailures (Heard rec file ∷ steps plan past) f → AreFailures (steps plan (met rec file ∷ past)) f
  failed_heard file f = are_same (Heard rec file ∷ steps plan past) (steps plan (met rec file ∷ past)) f (failed_same file) (requests_same file)

  few_here : IsFew (ticks ++ steps plan past)
  few_here =
      let size = length_behind first from.number left (steps plan past) in
      let all = few_ticks plan rec (met_records past) low in omega (arith, size, all, are.number_is, h.few, few)

  few_next : (file : FileReply) → IsFew (Heard rec file ∷ (ticks ++ steps plan past))
  few_next file =
      let size = length_behind first from.number left (steps plan past) in
      let all = few_ticks plan rec (met_records past) low in omega (arith, size, all, are.number_is, h.few, few)

  -- it broke off in a tick
  pub broke_ticks : (file : FileReply) (new : State) (f : Failures) → TellsFailures (steps plan past) f → ((x : ℕ) → IsFrom x from.number from.next rec.moment → BreaksOff (ticks_from x from.number left) old new)
      → Broke plan (report_of before new) f (steps plan (met rec file ∷ past)) (steps plan past)
  broke_ticks file new f failed b =
      subst (λ (all : List Step). Broke plan (report_of before new) f all (steps plan past)) (same file)
      (broke_grow plan (Heard rec file ∷ []) (ticks ++ steps plan past) (steps plan past) (report_of before new) f (b first are.first plan before (steps plan past) f few_here h.runs failed))

  module _ (mid : State) (t now : List ℕ) (goes : (x : ℕ) → IsFrom x from.number from.next rec.moment → GoesOn (ticks_from x from.number left) old mid t now) where
    runs_mid : Runs plan before mid (ticks ++ steps plan past)
    runs_mid = (goes first are.first plan before (steps plan past) few_here h.runs).runs

    served_met : (told : Option Files) (file : FileReply) → IsServedAt told plan (Heard rec file) (ticks ++ steps plan past) → IsServedMet told plan (met rec file) past
    served_met told file s = subst (IsServedAt told plan (Heard rec file)) behind s

    -- what the tree did for it is what it may do
    pub served_record : (told : Option Files) (file : FileReply) → IsServedBy told mid.node (Heard rec file) → IsServedMet told plan (met rec file) past
    served_record told file by =
        served_met told file (subst (λ (p : Plan). IsServedAt told p (Heard rec file) (ticks ++ steps plan past)) runs_mid.same (by (ticks ++ steps plan past) runs_mid.stands))

    -- or in the record's step
    pub breaks_at : (told : Option Files) (new : State) (f since : Failures) → TellsFailures (steps plan past) since → BreaksOn told rec mid new f → BreaksAt told plan rec (ticks ++ steps plan past) (report_of before new) since
    breaks_at told new f since failed b = b.breaks plan before (ticks ++ steps plan past) since runs_mid (tells_later first from.number left (steps plan past) since failed)

    pub served_broken : (told : Option Files) (r : Reported) (f : Failures) (b : BreaksAt told plan rec (ticks ++ steps plan past) r f) → IsServedMet told plan (met rec b.file) past
    served_broken told r f b = served_met told b.file b.served

    pub broke_record : (told : Option Files) (r : Reported) (f : Failures) (b : BreaksAt told plan rec (ticks ++ steps plan past) r f) → Broke plan r f (steps plan (met rec b.file ∷ past)) (steps plan past)
    broke_record told r f b =
        subst (λ (all : List Step). Broke plan r f all (steps plan past)) (same b.file) (broke_older plan ticks (Heard rec b.file ∷ (ticks ++ steps plan past)) (steps plan past) r f b.broke)

    module _ (file : FileReply) (new : State) (after : List ℕ) (goes_on : GoesOn (Heard rec file ∷ []) mid new now after) where
      both : HasGoneOn plan before (Heard rec file ∷ ticks) (steps plan past) old new t after
      both = goes_more ticks (Heard rec file ∷ []) old mid new t now after (goes first are.first) goes_on plan before (steps plan past) (few_next file) h.runs

      runs_new : Runs plan before new (steps plan (met rec file ∷ past))
      runs_new = subst (Runs plan before new) (same file) both.runs

      pub heard_text : Adds old.style (type_on plan) (lines_on plan (met rec file) past) t after
      heard_text = subst (λ (ts : List Step). Adds old.style (type_on plan) (lines_behind plan (Heard rec file ∷ ts) (steps plan past)) t after) (sym are.ticks) both.adds

      pub hears_next : (upto : Clock) → upto.number ≡ from.number + left → upto.next ≡ next_behind from.number from.next rec.moment → IsLast rec.moment (keeps new.node).queues upto.last → Hears plan before new upto (met rec file ∷ past)
      hears_next upto n x l =
          let qs = (kept plan (steps plan (met rec file ∷ past))).queues in
          let number = n ∙ are.number_is in
          let count_old = count_is plan before old past h.runs in
          let count_new = count_is plan before new (met rec file ∷ past) runs_new in
          let size = ap length (sym (same file)) in
          let behind_size = length_behind first from.number left (steps plan past) in
          let all = few_ticks plan rec (met_records past) low in record {
            runs = runs_new;
            clock_is = record { number = number; next = x ∙ are.next_is; last = leaves qs (ap (λ (k : Kept). k.queues) runs_new.keeps_are) l };
            few = omega (arith, n, count_old, count_new, size, behind_size, h.few);
            few_records = omega (arith, count_old, count_new, few);
            few_ticks = omega (arith, number, all);
          }
        where
          leaves : (qs : List Queue) → (keeps new.node).queues ≡ qs → IsLast rec.moment (keeps new.node).queues upto.last → rounds (waiting qs) upto.last qs ≡ rounds (waiting qs) rec.moment qs
          leaves qs e y = elim y [
            | inl w ↦ (let z : waiting qs ≡ 0 = sym (ap waiting e) ∙ w in none_rounds (waiting qs) upto.last qs z ∙ sym (none_rounds (waiting qs) rec.moment qs z))
            | inr m ↦ ap (λ k. rounds (waiting qs) k qs) m
          ]
