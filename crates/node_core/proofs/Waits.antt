-- The steps of a log, and lists on which nothing waits.
use Rattle.std.proofs.Common.{◌≡◌, ◌∙◌, ℕ, zero, suc, ◌+◌, ◌-◌, List, [], ◌∷◌, ◌++◌, length, map, count_by, refl, sym, ap, arith, append_assoc, append-nil}
use Rattle.std.proofs.lemmas.Bool.{cond_both}
use Rattle.tail_frame.specs.declared.logged.Record.{Record}
use Rattle.tx_queue.specs.declared.frame.OutFrame.{OutFrame}
use Rattle.node_plan.specs.declared.plan.Plan.{Plan}
use Rattle.node_core.specs.Laws.{LinesJoin, NothingEmptied, NothingLeaves, RecordsOfSteps}
use Rattle.node_core.specs.Queues.{Queue, bus_lines, drained, leave, leaving_from, rounds, stay, tx_line, waiting}
use Rattle.node_core.specs.Steps.{Met, Step, Heard, Tick, all_lines, is_tx, emptying, kept, lines, lines_at, lines_behind, met_records, moment_of, numbers, records, steps, ticks_before, ticks_from, ticks_done, ticks_until, first_of, ticks_upto}
use Rattle.report_lines.specs.declared.line.Line.{Line}

records-append : (newer older : List Step) → records (newer ++ older) ≡ records newer ++ records older
records-append [] older = refl
records-append (Heard rec file ∷ newer) older = ap (λ (t : List Record). rec ∷ t) (records-append newer older)
records-append (Tick number moment ∷ newer) older = records-append newer older

no_records : (first number n : ℕ) → records (ticks_from first number n) ≡ []
no_records first number zero = refl
no_records first number (suc n) = no_records first number n

ticks_have_none : (plan : Plan) (rec : Record) (past : List Record) → records (ticks_before plan rec past) ≡ []
ticks_have_none plan rec past =
    cond_both plan.silent [] (ticks_upto (first_of rec past) (ticks_done past) rec.moment) (λ (t : List Step). records t ≡ []) (λ _. refl) (λ _. no_records (first_of rec past) (ticks_done past) (ticks_until (first_of rec past) rec.moment - ticks_done past))

-- ticks don't change the records behind which they are
pub records_behind : (plan : Plan) (rec : Record) (past : List Met) (before : List Record)
    → records (ticks_before plan rec before ++ steps plan past) ≡ records (steps plan past)
records_behind plan rec past before =
    records-append (ticks_before plan rec before) (steps plan past)
    ∙ ap (λ (t : List Record). t ++ records (steps plan past)) (ticks_have_none plan rec before)

pub records_of_steps : RecordsOfSteps
records_of_steps plan [] = refl
records_of_steps plan (m ∷ past) =
    ap (λ (t : List Record). m.rec ∷ t) (records_behind plan m.rec past (met_records past) ∙ records_of_steps plan past)

pub lines_join : LinesJoin
lines_join plan [] older = sym (append-nil (lines plan older))
lines_join plan (step ∷ newer) older =
    ap (λ (t : List Line). t ++ lines_at plan step (newer ++ older)) (lines_join plan newer older)
    ∙ append_assoc (lines plan older) (lines_behind plan newer older) (lines_at plan step (newer ++ older))

none_left : (fs : List OutFrame) → length fs ≡ 0 → fs ≡ []
none_left [] e = refl
none_left (f ∷ fs) e = absurd (omega (arith, e))

leave_none : (n : ℕ) → leave n [] ≡ []
leave_none zero = refl
leave_none (suc n) = refl

stay_none : (n : ℕ) → stay n [] ≡ []
stay_none zero = refl
stay_none (suc n) = refl

no_bus_lines : (moment bus : ℕ) (q : Queue) → q.waiting ≡ [] → bus_lines moment bus q ≡ []
no_bus_lines moment bus q e = ap (λ (t : List OutFrame). map (tx_line moment bus) (leave q.rate t)) e ∙ ap (map (tx_line moment bus)) (leave_none q.rate)

drained_none : (q : Queue) → q.waiting ≡ [] → drained q ≡ q
drained_none q e =
    let it : stay q.rate q.waiting ≡ q.waiting = ap (stay q.rate) e ∙ (stay_none q.rate ∙ sym e) in
    λ i. record { mtu = q.mtu; rate = q.rate; places = q.places; waiting = it i }

pub none_leaves : (moment bus : ℕ) (qs : List Queue) → waiting qs ≡ 0 → leaving_from moment bus qs ≡ []
none_leaves moment bus [] e = refl
none_leaves moment bus (q ∷ qs) e =
    ap (λ (t : List Line). t ++ leaving_from moment (bus + 1) qs) (no_bus_lines moment bus q (none_left q.waiting (omega (arith, e))))
    ∙ none_leaves moment (bus + 1) qs (omega (arith, e))

pub all_stay : (qs : List Queue) → waiting qs ≡ 0 → map drained qs ≡ qs
all_stay [] e = refl
all_stay (q ∷ qs) e =
    (λ i. drained_none q (none_left q.waiting (omega (arith, e))) i ∷ map drained qs)
    ∙ ap (λ (t : List Queue). q ∷ t) (all_stay qs (omega (arith, e)))

pub nothing_leaves : NothingLeaves
nothing_leaves moment qs e = (none_leaves moment 0 qs e, all_stay qs e)

no_emptying : (plan : Plan) (all : List Step) → waiting (kept plan all).queues ≡ 0 → emptying plan all ≡ []
no_emptying plan [] e = refl
no_emptying plan (step ∷ past) e = ap (λ n. rounds n (moment_of step) (kept plan (step ∷ past)).queues) e

pub nothing_emptied : NothingEmptied
nothing_emptied plan all e =
    let same : all_lines plan all ≡ lines plan all = ap (λ (t : List Line). lines plan all ++ t) (no_emptying plan all e) ∙ append-nil (lines plan all) in
    (same, ap (λ (t : List Line). record (numbers plan all) { sent = count_by is_tx t }) same)
