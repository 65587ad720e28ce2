-- The lists of buses, one after the other.
use Rattle.std.proofs.Common.{◌≡◌, ◌∙◌, ℕ, zero, suc, ◌+◌, ◌<◌, ◌≤◌, List, [], ◌∷◌, ◌++◌, length, map, take, drop, set, get_or, Option, Some, None, refl, sym, ap, arith, append_assoc, append-nil, length-take, length-drop, length-append}
use Rattle.std.specs.Option.{option_to_list}
use Rattle.std.proofs.lemmas.List.{get_or-map, map_more, map-append, map-set, take_more, length-map}
use Rattle.std.proofs.lemmas.List.Edits.{map_over_more}
use Rattle.node_core.specs.Buses.{queue_of}
use Rattle.node_plan.specs.declared.plan.BusPlan.{BusPlan}
use Rattle.node_core.specs.Steps.{empty_queue}
use Rattle.node_core.specs.Queues.{Sends, Queue, push, full_line, fulls_from, waiting}
use Rattle.node_core.specs.declared.bus_queue.BusQueue.{BusQueue}
use Rattle.report_lines.specs.declared.line.FullLine.{FullLine}
use Rattle.report_lines.specs.declared.line.Line.{Line}
use Rattle.report_lines.specs.declared.line.Line.TheVariants.{Full}

waiting-append : (xs ys : List Queue) → waiting (xs ++ ys) ≡ waiting xs + waiting ys
waiting-append [] ys = omega arith
waiting-append (x ∷ xs) ys = omega (arith, waiting-append xs ys)

-- the frames of one list more
pub waiting_more : (buses : List BusQueue) (n : ℕ) (q : BusQueue) → n < length buses → q ≡ get_or buses n q
    → waiting (map queue_of (take (n + 1) buses)) ≡ waiting (map queue_of (take n buses)) + length q.frames.waiting.items
waiting_more buses n q within is =
    ap waiting (map_more queue_of buses n q within)
    ∙ (waiting-append (map queue_of (take n buses)) (queue_of (get_or buses n q) ∷ [])
    ∙ (ap (λ (b : BusQueue). waiting (map queue_of (take n buses)) + waiting (queue_of b ∷ [])) (sym is) ∙ omega arith))

fulls-append : (moment bus : ℕ) (x : Sends) (ps qs : List Queue) → fulls_from moment bus x (ps ++ qs) ≡ fulls_from moment bus x ps ++ fulls_from moment (bus + length ps) x qs
fulls-append moment bus x [] qs = ap (λ n. fulls_from moment n x qs) (omega arith)
fulls-append moment bus x (p ∷ ps) qs =
    ap (λ (t : List Line). full_line moment bus x p ++ t) (fulls-append moment (bus + 1) x ps qs ∙ ap (λ n. fulls_from moment (bus + 1) x ps ++ fulls_from moment n x qs) (omega arith))
    ∙ sym (append_assoc (full_line moment bus x p) (fulls_from moment (bus + 1) x ps) (fulls_from moment (bus + length (p ∷ ps)) x qs))

-- the lines on one list more
fulls_more : (moment : ℕ) (x : Sends) (qs : List Queue) (n : ℕ) (q : Queue) → n < length qs → q ≡ get_or qs n q
    → fulls_from moment 0 x (take (n + 1) qs) ≡ fulls_from moment 0 x (take n qs) ++ full_line moment n x q
fulls_more moment x qs n q within is =
    let place : 0 + length (take n qs) ≡ n = omega (arith, length-take n qs) in
    ap (fulls_from moment 0 x) (take_more qs n q within)
    ∙ (fulls-append moment 0 x (take n qs) (get_or qs n q ∷ [])
    ∙ (ap (λ k. fulls_from moment 0 x (take n qs) ++ fulls_from moment k x (get_or qs n q ∷ [])) place
    ∙ (ap (λ (r : Queue). fulls_from moment 0 x (take n qs) ++ fulls_from moment n x (r ∷ [])) (sym is)
    ∙ ap (λ (t : List Line). fulls_from moment 0 x (take n qs) ++ t) (append-nil (full_line moment n x q)))))

-- what a loop over lists didn't reach is as it was
not_reached : (f : Queue → Queue) (qs : List Queue) (n : ℕ) (d : Queue) → n < length qs → get_or (map f (take n qs) ++ drop n qs) n d ≡ get_or qs n d
not_reached f [] zero d h = refl
not_reached f [] (suc n) d h = refl
not_reached f (q ∷ qs) zero d h = refl
not_reached f (q ∷ qs) (suc n) d h = not_reached f qs n d (omega (arith, h))

-- it keeps their number
length-map_over : (f : Queue → Queue) (n : ℕ) (qs : List Queue) → length (map f (take n qs) ++ drop n qs) ≡ length qs
length-map_over f n qs = omega (arith, length-append (map f (take n qs)) (drop n qs), length-map (take n qs) f, length-take n qs, length-drop n qs)

-- a list of the loop that pushes
module _ (x : Sends) (qs : List Queue) (buses : List BusQueue) (n : ℕ) (old new : BusQueue)
    (done : map queue_of buses ≡ map (push x) (take n qs) ++ drop n qs) (within : n < length buses) (is : old ≡ get_or buses n old)
    (pushes : queue_of new ≡ push x (queue_of old)) where
  size : length qs ≡ length buses
  size = sym (length-map_over (push x) n qs) ∙ (ap length (sym done) ∙ length-map buses queue_of)

  at_place : queue_of old ≡ get_or (map queue_of buses) n (queue_of old)
  at_place = ap queue_of is ∙ sym (get_or-map queue_of buses n old (queue_of old) within)

  pub was_there : queue_of old ≡ get_or qs n (queue_of old)
  was_there = at_place ∙ (ap (λ (t : List Queue). get_or t n (queue_of old)) done ∙ not_reached (push x) qs n (queue_of old) (omega (arith, size, within)))

  pub pushed_more : map queue_of (set buses n new) ≡ map (push x) (take (n + 1) qs) ++ drop (n + 1) qs
  pushed_more =
      map-set queue_of buses n new
      ∙ (ap (set (map queue_of buses) n) pushes
      ∙ map_over_more (push x) qs (map queue_of buses) n (queue_of old) (omega (arith, size, within)) done at_place)

  pub told_more : (moment : ℕ) (fulls more : List FullLine) → map Full fulls ≡ fulls_from moment 0 x (take n qs) → map Full more ≡ full_line moment n x (queue_of old)
      → map Full (fulls ++ more) ≡ fulls_from moment 0 x (take (n + 1) qs)
  told_more moment fulls more e m =
      map-append Full fulls more
      ∙ (ap (λ (t : List Line). t ++ map Full more) e
      ∙ (ap (λ (t : List Line). fulls_from moment 0 x (take n qs) ++ t) m
      ∙ sym (fulls_more moment x qs n (queue_of old) (omega (arith, size, within)) was_there)))

-- nothing waits on empty lists
pub nothing_waits : (places : ℕ) (buses : List BusPlan) → waiting (map (empty_queue places) buses) ≡ 0
nothing_waits places [] = refl
nothing_waits places (bus ∷ buses) = omega (arith, nothing_waits places buses)

-- a list for each bus
pub a_list_each : (places : ℕ) (queues : List BusQueue) (buses : List BusPlan) → map queue_of queues ≡ map (empty_queue places) buses → length queues ≡ length buses
a_list_each places queues buses e = sym (length-map queues queue_of) ∙ (ap length e ∙ length-map buses (empty_queue places))

-- one line at most
pub at_most_one : (o : Option FullLine) → length (option_to_list o) ≤ 1
at_most_one None = omega arith
at_most_one (Some full) = omega arith
