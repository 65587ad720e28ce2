-- How many frames wait and leave.
use Rattle.std.proofs.Common.{◌≡◌, ◌∙◌, ℕ, zero, suc, ◌+◌, ◌*◌, ◌≤◌, Bool, true, false, List, [], ◌∷◌, ◌++◌, length, map, Option, Some, None, All, refl, sym, ap, ap₂, subst, arith, count_by, length-append}
use Rattle.std.specs.Prelude.{sum_by, if◌then◌else◌, ⊤}
use Rattle.std.proofs.lemmas.Bool.{leb-true}
use Rattle.std.proofs.lemmas.List.{length-map}
use Rattle.std.proofs.lemmas.List.Sums.{sum_by-append}
use Rattle.tx_queue.specs.Waiting.{least, is_less, out_frames}
use Rattle.tx_queue.specs.declared.frame.OutFrame.{OutFrame}
use Rattle.node_plan.specs.IsPlan.{IsBus, IsPlan}
use Rattle.node_plan.specs.declared.plan.BusPlan.{BusPlan}
use Rattle.node_plan.specs.declared.plan.Plan.{Plan}
use Rattle.report_lines.specs.declared.line.Line.{Line}
use Rattle.node_core.specs.Queues.{Sends, Queue, needs, room, takes, push, push_all, leave, stay, tx_line, bus_lines, leaving, leaving_from, drained, rounds, waiting}
use Rattle.node_core.specs.Steps.{Step, empty_queue, is_rx, is_nosession, is_tx, kept, sends}
use Rattle.node_core.proofs.Waits.{all_stay, none_leaves}

-- the least and the others are as many as all
least_all : (f : OutFrame) (fs : List OutFrame) → length (least f fs).1 ≡ length fs
least_all f [] = refl
least_all f (g ∷ gs) = go (least g gs) (least_all g gs) (is_less (least g gs).0 f) _ refl
  where
    go : (m : OutFrame × List OutFrame) → length m.1 ≡ length gs → (b : Bool) (r : OutFrame × List OutFrame) → r ≡ (if b then (m.0, f ∷ m.1) else (f, g ∷ gs)) → length r.1 ≡ length (g ∷ gs)
    go m e true r is = ap (λ (x : OutFrame × List OutFrame). length x.1) is ∙ ap suc e
    go m e false r is = ap (λ (x : OutFrame × List OutFrame). length x.1) is

leave_all : (n : ℕ) (w : List OutFrame) → length (leave n w) + length (stay n w) ≡ length w
leave_all zero w = omega arith
leave_all (suc n) [] = refl
leave_all (suc n) (f ∷ fs) =
    let rest = leave_all n (least f fs).1 in
    let all = least_all f fs in omega arith

-- what waits leaves or stays
left_all : (moment bus : ℕ) (qs : List Queue) → length (leaving_from moment bus qs) + waiting (map drained qs) ≡ waiting qs
left_all moment bus [] = refl
left_all moment bus (q ∷ qs) =
    let here = leave_all q.rate q.waiting in
    let rest = left_all moment (bus + 1) qs in
    let lines = length-map (leave q.rate q.waiting) (tx_line moment bus) in
    let all = length-append (bus_lines moment bus q) (leaving_from moment (bus + 1) qs) in omega arith

pub waiting_left : (moment : ℕ) (qs : List Queue) → length (leaving moment qs) + waiting (map drained qs) ≡ waiting qs
waiting_left moment qs = left_all moment 0 qs

-- where nothing waits no round gives a line
pub none_rounds : (n moment : ℕ) (qs : List Queue) → waiting qs ≡ 0 → rounds n moment qs ≡ []
none_rounds zero moment qs e = refl
none_rounds (suc n) moment qs e =
    ap₂ (λ (x : List Line) (rs : List Queue). x ++ rounds n moment rs) (none_leaves moment 0 qs e) (all_stay qs e) ∙ none_rounds n moment qs e

-- each line on a frame counts

pub count_append : (p : Line → Bool) (a b : List Line) → count_by p (a ++ b) ≡ count_by p a + count_by p b
count_append p a b = sum_by-append _ a b

tx_all : (moment bus : ℕ) (fs : List OutFrame) → count_by is_tx (map (tx_line moment bus) fs) ≡ length fs
tx_all moment bus [] = refl
tx_all moment bus (f ∷ fs) =
    let first = count_append is_tx (tx_line moment bus f ∷ []) (map (tx_line moment bus) fs) in
    let others = tx_all moment bus fs in first ∙ (ap (λ n. 1 + n) others ∙ omega arith)

rx_none : (moment bus : ℕ) (fs : List OutFrame) → count_by is_rx (map (tx_line moment bus) fs) ≡ 0
rx_none moment bus [] = refl
rx_none moment bus (f ∷ fs) =
    count_append is_rx (tx_line moment bus f ∷ []) (map (tx_line moment bus) fs) ∙ ap (λ n. 0 + n) (rx_none moment bus fs)

nosession_none : (moment bus : ℕ) (fs : List OutFrame) → count_by is_nosession (map (tx_line moment bus) fs) ≡ 0
nosession_none moment bus [] = refl
nosession_none moment bus (f ∷ fs) =
    count_append is_nosession (tx_line moment bus f ∷ []) (map (tx_line moment bus) fs) ∙ ap (λ n. 0 + n) (nosession_none moment bus fs)

tx_from : (moment bus : ℕ) (qs : List Queue) → count_by is_tx (leaving_from moment bus qs) ≡ length (leaving_from moment bus qs)
tx_from moment bus [] = refl
tx_from moment bus (q ∷ qs) =
    let a = count_append is_tx (bus_lines moment bus q) (leaving_from moment (bus + 1) qs) in
    let b = tx_all moment bus (leave q.rate q.waiting) in
    let c = tx_from moment (bus + 1) qs in
    let d = length-map (leave q.rate q.waiting) (tx_line moment bus) in
    let e = length-append (bus_lines moment bus q) (leaving_from moment (bus + 1) qs) in
    a ∙ (ap₂ (λ x y. x + y) (b ∙ sym d) c ∙ sym e)

rx_from : (moment bus : ℕ) (qs : List Queue) → count_by is_rx (leaving_from moment bus qs) ≡ 0
rx_from moment bus [] = refl
rx_from moment bus (q ∷ qs) = count_append is_rx (bus_lines moment bus q) (leaving_from moment (bus + 1) qs) ∙ ap₂ (λ x y. x + y) (rx_none moment bus (leave q.rate q.waiting)) (rx_from moment (bus + 1) qs)

nosession_from : (moment bus : ℕ) (qs : List Queue) → count_by is_nosession (leaving_from moment bus qs) ≡ 0
nosession_from moment bus [] = refl
nosession_from moment bus (q ∷ qs) = count_append is_nosession (bus_lines moment bus q) (leaving_from moment (bus + 1) qs) ∙ ap₂ (λ x y. x + y) (nosession_none moment bus (leave q.rate q.waiting)) (nosession_from moment (bus + 1) qs)

pub tx_leaving : (moment : ℕ) (qs : List Queue) → count_by is_tx (leaving moment qs) ≡ length (leaving moment qs)
tx_leaving moment qs = tx_from moment 0 qs

pub rx_leaving : (moment : ℕ) (qs : List Queue) → count_by is_rx (leaving moment qs) ≡ 0
rx_leaving moment qs = rx_from moment 0 qs

pub nosession_leaving : (moment : ℕ) (qs : List Queue) → count_by is_nosession (leaving moment qs) ≡ 0
nosession_leaving moment qs = nosession_from moment 0 qs

pub tx_rounds : (n moment : ℕ) (qs : List Queue) → count_by is_tx (rounds n moment qs) ≡ length (rounds n moment qs)
tx_rounds zero moment qs = refl
tx_rounds (suc n) moment qs =
    count_append is_tx (leaving moment qs) (rounds n moment (map drained qs))
    ∙ (ap₂ (λ x y. x + y) (tx_leaving moment qs) (tx_rounds n moment (map drained qs)) ∙ sym (length-append (leaving moment qs) (rounds n moment (map drained qs))))

-- At most its rate leaves of each bus.

abbrev rates : List Queue → ℕ
rates qs = sum_by (λ (q : Queue). q.rate) qs

rates_cons : (q : Queue) (qs : List Queue) → rates (q ∷ qs) ≡ q.rate + rates qs
rates_cons q qs = sum_by-append (λ (x : Queue). x.rate) (q ∷ []) qs ∙ omega arith

leave_few : (n : ℕ) (w : List OutFrame) → length (leave n w) ≤ n
leave_few zero w = omega arith
leave_few (suc n) [] = omega arith
leave_few (suc n) (f ∷ fs) = let h = leave_few n (least f fs).1 in omega arith

few_from : (moment bus : ℕ) (qs : List Queue) → length (leaving_from moment bus qs) ≤ rates qs
few_from moment bus [] = omega arith
few_from moment bus (q ∷ qs) =
    let here = leave_few q.rate q.waiting in
    let rest = few_from moment (bus + 1) qs in
    let lines = length-map (leave q.rate q.waiting) (tx_line moment bus) in
    let sum = rates_cons q qs in
    let all = length-append (bus_lines moment bus q) (leaving_from moment (bus + 1) qs) in omega arith

rate_push : (x : Sends) (q : Queue) → (push x q).rate ≡ q.rate
rate_push x q = go (takes x q) _
  where
    go : (b : Bool) (fs : List OutFrame) → (if◌then◌else◌ {A = Queue} b (record q { waiting = fs }) q).rate ≡ q.rate
    go true fs = refl
    go false fs = refl

rates_push : (x : Option Sends) (qs : List Queue) → rates (push_all x qs) ≡ rates qs
rates_push None qs = refl
rates_push (Some x) [] = refl
rates_push (Some x) (q ∷ qs) =
    rates_cons (push x q) (push_all (Some x) qs) ∙ (ap₂ (λ a b. a + b) (rate_push x q) (rates_push (Some x) qs) ∙ sym (rates_cons q qs))

rates_drained : (qs : List Queue) → rates (map drained qs) ≡ rates qs
rates_drained [] = refl
rates_drained (q ∷ qs) = rates_cons (drained q) (map drained qs) ∙ (ap (λ n. q.rate + n) (rates_drained qs) ∙ sym (rates_cons q qs))

few_rates : (plan : Plan) (buses : List BusPlan) → All IsBus buses → rates (map (empty_queue plan.queue) buses) ≤ 4096 * length buses
few_rates plan [] all = omega arith
few_rates plan (bus ∷ buses) all =
    let rest = few_rates plan buses (λ k d below. all (suc k) d (omega arith)) in
    let sum = rates_cons (empty_queue plan.queue bus) (map (empty_queue plan.queue) buses) in
    let here = (all 0 bus (omega arith)).low_rate in omega arith

-- and at most 12,288 frames behind a step
rates_kept : (plan : Plan) (all : List Step) → rates (kept plan all).queues ≡ rates (kept plan []).queues
rates_kept plan [] = refl
rates_kept plan (step ∷ past) =
    let k = kept plan past in
    let x = sends plan step past k in
    rates_drained (push_all x k.queues) ∙ (rates_push x k.queues ∙ rates_kept plan past)

pub few_leave : (plan : Plan) (past : List Step) (moment : ℕ) (x : Option Sends) → IsPlan plan → length (leaving moment (push_all x (kept plan past).queues)) ≤ 12288
few_leave plan past moment x is =
    let few = few_from moment 0 (push_all x (kept plan past).queues) in
    let same = rates_push x (kept plan past).queues ∙ rates_kept plan past in
    let low = few_rates plan plan.buses is.buses in
    let buses = is.few_buses in omega arith

-- No more wait than there are places.

abbrev Fits : List Queue → Type 0
Fits [] = ⊤
Fits (q ∷ qs) = ((length q.waiting ≤ q.places) × (q.places ≤ 4096)) × Fits qs

-- a queue has room for what waits, and as many places as another
record Roomy (old new : Queue) : Type 0 where
  few : length new.waiting ≤ old.places
  same : new.places ≡ old.places

fit_push : (x : Sends) (q : Queue) → length q.waiting ≤ q.places → Roomy q (push x q)
fit_push x q h = go (takes x q) refl
  where
    go : (b : Bool) → takes x q ≡ b → Roomy q (if◌then◌else◌ {A = Queue} b (record q { waiting = q.waiting ++ out_frames x.ident q.mtu x.payload x.tid }) q)
    go true e =
        let room_left = leb-true (needs x q) (room q) e in
        let all = length-append q.waiting (out_frames x.ident q.mtu x.payload x.tid) in
        let more : length (out_frames x.ident q.mtu x.payload x.tid) ≡ needs x q = length-map _ _ in record { few = omega arith; same = refl }
    go false e = record { few = h; same = refl }

fits_push : (x : Option Sends) (qs : List Queue) → Fits qs → Fits (push_all x qs)
fits_push None qs h = h
fits_push (Some x) [] h = tt
fits_push (Some x) (q ∷ qs) h =
    let f = fit_push x q h.0.0 in ((subst (λ n. length (push x q).waiting ≤ n) (sym f.same) f.few, subst (λ n. n ≤ 4096) (sym f.same) h.0.1), fits_push (Some x) qs h.1)

fits_drained : (qs : List Queue) → Fits qs → Fits (map drained qs)
fits_drained [] h = tt
fits_drained (q ∷ qs) h = let all = leave_all q.rate q.waiting in ((omega (arith, h.0.0), h.0.1), fits_drained qs h.1)

fits_empty : (places : ℕ) (buses : List BusPlan) → places ≤ 4096 → Fits (map (empty_queue places) buses)
fits_empty places [] h = tt
fits_empty places (bus ∷ buses) h = ((omega arith, h), fits_empty places buses h)

fits_kept : (plan : Plan) (all : List Step) → IsPlan plan → Fits (kept plan all).queues
fits_kept plan [] is = fits_empty plan.queue plan.buses is.few_places
fits_kept plan (step ∷ past) is =
    let k = kept plan past in
    let x = sends plan step past k in fits_drained (push_all x k.queues) (fits_push x k.queues (fits_kept plan past is))

length_push : (x : Option Sends) (qs : List Queue) → length (push_all x qs) ≡ length qs
length_push None qs = refl
length_push (Some x) qs = length-map qs (push x)

length_kept : (plan : Plan) (all : List Step) → length (kept plan all).queues ≡ length plan.buses
length_kept plan [] = length-map plan.buses (empty_queue plan.queue)
length_kept plan (step ∷ past) =
    let k = kept plan past in
    let x = sends plan step past k in length-map (push_all x k.queues) drained ∙ (length_push x k.queues ∙ length_kept plan past)

few_fit : (qs : List Queue) → Fits qs → waiting qs ≤ 4096 * length qs
few_fit [] h = omega arith
few_fit (q ∷ qs) h = let rest = few_fit qs h.1 in omega (arith, h.0.0, h.0.1, rest)

-- so at most 12,288 leave at the end
pub few_wait : (plan : Plan) (all : List Step) → IsPlan plan → waiting (kept plan all).queues ≤ 12288
few_wait plan all is =
    let few = few_fit (kept plan all).queues (fits_kept plan all is) in
    let buses = length_kept plan all in omega (arith, few, buses, is.few_buses)

pub few_rounds : (n moment : ℕ) (qs : List Queue) → length (rounds n moment qs) ≤ waiting qs
few_rounds zero moment qs = omega arith
few_rounds (suc n) moment qs =
    let rest = few_rounds n moment (map drained qs) in
    let all = waiting_left moment qs in
    let size = length-append (leaving moment qs) (rounds n moment (map drained qs)) in omega arith
