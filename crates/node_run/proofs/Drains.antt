-- Frames that leave, one after another and bus by bus.
use Rattle.std.proofs.Common.{◌≡◌, ◌∙◌, ℕ, zero, suc, ◌+◌, ◌<◌, List, [], ◌∷◌, ◌++◌, length, map, take, drop, Option, Some, None, refl, sym, ap, subst, arith, append_assoc, add-one, length-append, length-drop, length-set, length-take}
use Rattle.std.specs.Prelude.{set}
use Rattle.std.proofs.lemmas.List.{get_or-set_same, set-set, set-get_or, length-map, map-append}
use Rattle.std.proofs.Math.Seq.{drop-cons, get_or-append_seam, set-append_seam, take-suc}
use Rattle.tx_queue.specs.Waiting.{least, leaving as leaver, staying}
use Rattle.tx_queue.specs.declared.frame.OutFrame.{OutFrame}
use Rattle.report_lines.specs.declared.line.Line.{Line}
use Rattle.node_core.specs.Pops.{Pops, queue_at, with_waiting}
use Rattle.node_core.specs.Queues.{Queue, leave, stay, bus_lines, leaving_from, drained}
use Rattle.node_core.specs.Steps.{Kept}
use Rattle.node_run.specs.Leaves.{bus_left}

abbrev nothing : Queue
nothing = record { mtu = 0; rate = 0; places = 0; waiting = [] }

-- the list of a bus, once it is set
set_there : (q : List Queue) (bus : ℕ) (w : List OutFrame) → bus < length q → queue_at (with_waiting q bus w) bus ≡ record (queue_at q bus) { waiting = w }
set_there q bus w h = get_or-set_same q bus (record (queue_at q bus) { waiting = w }) nothing h

set_twice : (q : List Queue) (bus : ℕ) (v w : List OutFrame) → bus < length q → with_waiting (with_waiting q bus v) bus w ≡ with_waiting q bus w
set_twice q bus v w h =
    ap (λ (x : Queue). set (with_waiting q bus v) bus (record x { waiting = w })) (set_there q bus v h)
    ∙ set-set q bus (record (queue_at q bus) { waiting = v }) (record (queue_at q bus) { waiting = w })

pub set_same : (q : List Queue) (bus : ℕ) → with_waiting q bus (queue_at q bus).waiting ≡ q
set_same q bus = set-get_or q bus nothing

-- what one call gave, where these waited
pub record Gave (q : List Queue) (bus : ℕ) (base : Kept) (w : List OutFrame) (new : Kept) (f : OutFrame) : Type 0 where
  pub rest : List OutFrame
  pub leaves : (n : ℕ) → leave (suc n) w ≡ f ∷ leave n rest
  pub stays : (n : ℕ) → stay (suc n) w ≡ stay n rest
  pub keeps : new ≡ record base { queues = with_waiting q bus rest }

module _ (q : List Queue) (bus : ℕ) (base : Kept) (w : List OutFrame) (old new : Kept) (result : Option OutFrame) (h : bus < length q) (e : old ≡ record base { queues = with_waiting q bus w }) (p : Pops bus old new result) where
  waits : (queue_at old.queues bus).waiting ≡ w
  waits = ap (λ (k : Kept). (queue_at k.queues bus).waiting) e ∙ ap (λ (x : Queue). x.waiting) (set_there q bus w h)

  leaves_of : result ≡ leaver w
  leaves_of = p.leaves ∙ ap leaver waits

  keeps_of : new ≡ record base { queues = with_waiting q bus (staying w) }
  keeps_of =
      p.others
      ∙ (ap (λ (t : List OutFrame). record old { queues = with_waiting old.queues bus (staying t) }) waits
      ∙ (ap (λ (k : Kept). record k { queues = with_waiting k.queues bus (staying w) }) e
      ∙ ap (λ (qs : List Queue). record base { queues = qs }) (set_twice q bus w (staying w) h)))

  pub gave_none : ((f : OutFrame) → result ≡ Some f → ⊥) → (w ≡ []) × (new ≡ record base { queues = with_waiting q bus w })
  gave_none n = go w leaves_of keeps_of
    where
      go : (w : List OutFrame) → result ≡ leaver w → new ≡ record base { queues = with_waiting q bus (staying w) } → (w ≡ []) × (new ≡ record base { queues = with_waiting q bus w })
      go [] x y = (refl, y)
      go (f ∷ fs) x y = absurd (n (least f fs).0 x)

  pub gave_some : (f : OutFrame) → result ≡ Some f → Gave q bus base w new f
  gave_some f is = go w leaves_of keeps_of
    where
      go : (w : List OutFrame) → result ≡ leaver w → new ≡ record base { queues = with_waiting q bus (staying w) } → Gave q bus base w new f
      go [] x y = let bad : None ≡ Some f = sym x ∙ is in absurd cc
      go (g ∷ gs) x y =
          let same : Some (least g gs).0 ≡ Some f = sym x ∙ is in
          let first : (least g gs).0 ≡ f = cc in record {
            rest = (least g gs).1;
            leaves = λ m. ap (λ t. t ∷ leave m (least g gs).1) first;
            stays = λ m. refl;
            keeps = y;
          }

pub leave_none : (n : ℕ) → leave n [] ≡ []
leave_none zero = refl
leave_none (suc n) = refl

pub stay_none : (n : ℕ) → stay n [] ≡ []
stay_none zero = refl
stay_none (suc n) = refl

-- the buses before one are done
abbrev pub done : ℕ → List Queue → List Queue
done bus q = map drained (take bus q) ++ drop bus q

module _ (q : List Queue) (bus : ℕ) (h : bus < length q) where
  abbrev front : List Queue
  front = map drained (take bus q)

  size : length front ≡ bus
  size = length-map (take bus q) drained ∙ (length-take bus q ∙ omega arith)

  pub split : drop bus q ≡ queue_at q bus ∷ drop (bus + 1) q
  split = drop-cons q bus nothing h ∙ ap (λ n. queue_at q bus ∷ drop n q) (sym (add-one bus))

  pub at_bus : queue_at (done bus q) bus ≡ queue_at q bus
  at_bus = ap (λ t. queue_at (front ++ t) bus) split ∙ (ap (queue_at (front ++ queue_at q bus ∷ drop (bus + 1) q)) (sym size) ∙ get_or-append_seam front (queue_at q bus) (drop (bus + 1) q) nothing)

  pub next_done : (base : Kept) → bus_left (record base { queues = done bus q }) bus ≡ record base { queues = done (bus + 1) q }
  next_done base =
      let x = drained (queue_at q bus) in
      let behind = drop (bus + 1) q in
      let a : with_waiting (done bus q) bus (stay (queue_at (done bus q) bus).rate (queue_at (done bus q) bus).waiting) ≡ set (done bus q) bus x = ap (λ (y : Queue). set (done bus q) bus (drained y)) at_bus in
      let b : set (done bus q) bus x ≡ set (front ++ queue_at q bus ∷ behind) bus x = ap (λ t. set (front ++ t) bus x) split in
      let c : set (front ++ queue_at q bus ∷ behind) bus x ≡ front ++ x ∷ behind = ap (λ n. set (front ++ queue_at q bus ∷ behind) n x) (sym size) ∙ set-append_seam front (queue_at q bus) behind x in
      let d : map drained (take (bus + 1) q) ≡ front ++ x ∷ [] = ap (λ n. map drained (take n q)) (add-one bus) ∙ (ap (map drained) (take-suc q bus nothing h) ∙ map-append drained (take bus q) (queue_at q bus ∷ [])) in
      ap (λ (qs : List Queue). record base { queues = qs }) (a ∙ (b ∙ (c ∙ (sym (append_assoc front (x ∷ []) behind) ∙ ap (λ t. t ++ behind) (sym d)))))

  pub next_lines : (moment : ℕ) → leaving_from moment bus (drop bus q) ≡ bus_lines moment bus (queue_at q bus) ++ leaving_from moment (bus + 1) (drop (bus + 1) q)
  next_lines moment = ap (leaving_from moment bus) split

-- one more of these lines was told
pub line_more : (all front new more rest : List Line) → all ≡ front ++ new → new ≡ more ++ rest → all ≡ (front ++ more) ++ rest
line_more all front new more rest e f = e ∙ (ap (λ t. front ++ t) f ∙ sym (append_assoc front more rest))

-- a list that is set stands among as many
pub in_reach : (q : List Queue) (bus : ℕ) (base : Kept) (w : List OutFrame) (k : Kept) → bus < length q → k ≡ record base { queues = with_waiting q bus w } → bus < length k.queues
in_reach q bus base w k h e = subst (λ n. bus < n) (sym (ap (λ (x : Kept). length x.queues) e ∙ length-set q bus (record (queue_at q bus) { waiting = w }))) h

-- among those of which some are done
pub in_done : (q : List Queue) (bus : ℕ) (base : Kept) (k : Kept) → bus < length q → k ≡ record base { queues = done bus q } → bus < length k.queues
in_done q bus base k h e =
    let all = ap (λ (x : Kept). length x.queues) e in
    let parts = length-append (map drained (take bus q)) (drop bus q) in
    let front = length-map (take bus q) drained in
    let taken = length-take bus q in
    let left = length-drop bus q in omega arith
