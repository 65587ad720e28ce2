-- What a node sends is in no report of a session.
use Rattle.std.proofs.Common.{◌≡◌, ◌∙◌, ℕ, zero, suc, ◌+◌, List, [], ◌∷◌, ◌++◌, map, Option, Some, None, refl, sym, ap, append-nil, append_assoc}
use Rattle.std.specs.Prelude.{All, ⊤}
use Rattle.std.proofs.lemmas.Bool.{cond_both}
use Rattle.std.proofs.lemmas.List.Elements.{All-nil, All-cons}
use Rattle.rx_table.specs.Keys.{SessionKey}
use Rattle.node_plan.specs.declared.plan.Plan.{Plan}
use Rattle.node_core.specs.Queues.{Sends, Queue, takes, needs, room, full_line, fulls, fulls_from, leave, tx_line, bus_lines, leaving, leaving_from, drained, rounds, waiting}
use Rattle.node_core.specs.Steps.{Step, moment_of, kept, pushed, sends, received_at, node_lines, lines, lines_at, emptying}
use Rattle.report_lines.specs.declared.line.Line.{Line}
use Rattle.report_lines.specs.declared.line.Line.TheVariants.{Rx, NoSession, Tx, Full}
use Rattle.session_lines.specs.Readings.{HasReading}
use Rattle.session_lines.specs.Reported.{of_line, rxs, EmptyingIsQuiet, StepsReportAll}

-- a line on what is sent: on a frame that left, or on a bus without room
abbrev IsSending : Line → Type 0
IsSending (Rx rx) = ⊥
IsSending (NoSession refused) = ⊥
IsSending (Tx tx) = ⊤
IsSending (Full full) = ⊤

abbrev pub AreSending : List Line → Type 0
AreSending [] = ⊤
AreSending (line ∷ lines) = IsSending line × AreSending lines

sending_append : (a b : List Line) → AreSending a → AreSending b → AreSending (a ++ b)
sending_append [] b p q = q
sending_append (line ∷ a) b p q = (p.0, sending_append a b p.1 q)

-- ---- these are such lines

each_sends : {X : Type 0} (line : X → Line) → ((x : X) → IsSending (line x)) → (xs : List X) → AreSending (map line xs)
each_sends line h [] = tt
each_sends line h (x ∷ xs) = (h x, each_sends line h xs)

txs : (moment bus : ℕ) (q : Queue) → AreSending (bus_lines moment bus q)
txs moment bus q = each_sends (tx_line moment bus) (λ _. tt) (leave q.rate q.waiting)

leaving_sends : (moment bus : ℕ) (qs : List Queue) → AreSending (leaving_from moment bus qs)
leaving_sends moment bus [] = tt
leaving_sends moment bus (q ∷ qs) =
    sending_append (bus_lines moment bus q) (leaving_from moment (bus + 1) qs) (txs moment bus q) (leaving_sends moment (bus + 1) qs)

rounds_send : (n moment : ℕ) (qs : List Queue) → AreSending (rounds n moment qs)
rounds_send zero moment qs = tt
rounds_send (suc n) moment qs = sending_append (leaving moment qs) (rounds n moment (map drained qs)) (leaving_sends moment 0 qs) (rounds_send n moment (map drained qs))

full_sends : (moment bus : ℕ) (x : Sends) (q : Queue) → AreSending (full_line moment bus x q)
full_sends moment bus x q =
    cond_both (takes x q) [] (Full (record { moment = moment; bus = bus; port = x.port; needed = needs x q; free = room q }) ∷ []) AreSending (λ _. tt) (λ _. (tt, tt))

fulls_send_from : (moment bus : ℕ) (x : Sends) (qs : List Queue) → AreSending (fulls_from moment bus x qs)
fulls_send_from moment bus x [] = tt
fulls_send_from moment bus x (q ∷ qs) =
    sending_append (full_line moment bus x q) (fulls_from moment (bus + 1) x qs) (full_sends moment bus x q) (fulls_send_from moment (bus + 1) x qs)

fulls_send : (moment : ℕ) (x : Option Sends) (qs : List Queue) → AreSending (fulls moment x qs)
fulls_send moment None qs = tt
fulls_send moment (Some x) qs = fulls_send_from moment 0 x qs

pub emptying_sends : (plan : Plan) (steps : List Step) → AreSending (emptying plan steps)
emptying_sends plan [] = tt
emptying_sends plan (step ∷ past) =
    let qs = (kept plan (step ∷ past)).queues in rounds_send (waiting qs) (moment_of step) qs

-- ---- what such lines say

-- nothing of what payloads say
pub sending_reads : (plan : Plan) (ls : List Line) → AreSending ls → All (HasReading plan) ls
sending_reads plan [] h = All-nil (HasReading plan)
sending_reads plan (Rx rx ∷ ls) h = absurd h.0
sending_reads plan (NoSession refused ∷ ls) h = absurd h.0
sending_reads plan (Tx tx ∷ ls) h = All-cons (HasReading plan) (Tx tx) ls tt (sending_reads plan ls h.1)
sending_reads plan (Full full ∷ ls) h = All-cons (HasReading plan) (Full full) ls tt (sending_reads plan ls h.1)

-- and nothing of a session
quiet : (key : SessionKey) (ls : List Line) → AreSending ls → rxs key ls ≡ []
quiet key [] h = refl
quiet key (Rx rx ∷ ls) h = absurd h.0
quiet key (NoSession refused ∷ ls) h = absurd h.0
quiet key (Tx tx ∷ ls) h = quiet key ls h.1
quiet key (Full full ∷ ls) h = quiet key ls h.1

pub rxs_append : (key : SessionKey) (a b : List Line) → rxs key (a ++ b) ≡ rxs key a ++ rxs key b
rxs_append key [] b = refl
rxs_append key (l ∷ a) b = ap (λ h. of_line key l ++ h) (rxs_append key a b) ∙ sym (append_assoc (of_line key l) (rxs key a) (rxs key b))

-- so behind other lines they change no report
without : (key : SessionKey) (a b : List Line) → AreSending b → rxs key (a ++ b) ≡ rxs key a
without key a b h = rxs_append key a b ∙ (ap (λ t. rxs key a ++ t) (quiet key b h) ∙ append-nil (rxs key a))

-- ---- of a step, and behind the last

pub full_lines : (plan : Plan) (step : Step) (past : List Step) → AreSending (fulls (moment_of step) (sends plan step past (kept plan past)) (kept plan past).queues)
full_lines plan step past = fulls_send (moment_of step) (sends plan step past (kept plan past)) (kept plan past).queues

pub tx_lines : (plan : Plan) (step : Step) (past : List Step) → AreSending (leaving (moment_of step) (pushed plan step past (kept plan past)).queues)
tx_lines plan step past = leaving_sends (moment_of step) 0 (pushed plan step past (kept plan past)).queues

-- a step reports of a session what its record gave
pub rxs_at : (key : SessionKey) (plan : Plan) (step : Step) (past : List Step) → rxs key (lines_at plan step past) ≡ rxs key (received_at plan step past)
rxs_at key plan step past =
    without key (node_lines plan step past (kept plan past)) _ (tx_lines plan step past)
    ∙ without key (received_at plan step past) _ (full_lines plan step past)

pub emptying_is_quiet : EmptyingIsQuiet
emptying_is_quiet plan key steps = quiet key (emptying plan steps) (emptying_sends plan steps)

pub steps_report_all : StepsReportAll
steps_report_all plan key steps = without key (lines plan steps) (emptying plan steps) (emptying_sends plan steps)
