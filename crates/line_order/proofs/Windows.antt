-- What is put into a window, and what goes.
use Rattle.std.proofs.Common.{◌≡◌, ◌∙◌, ◌-◌, ◌<◌, ◌≤◌, ℕ, Bool, true, false, List, [], ◌∷◌, ◌++◌, Result, Ok, Err, refl, sym, ap, ap₂, subst, append_assoc, append-nil, arith}
use Rattle.std.specs.Prelude.{IfOk, OnOk}
use Rattle.std.proofs.lemmas.Bool.Decides.{nat_tests}
use Rattle.line_order.specs.Held.{AreDue, HasLetGo, HasReleased, IsSound, LetsGo, Puts, first_due, first_up_to, held_of, late_of}
use Rattle.line_order.specs.Moments.{AreBefore, AreUpTo, Rises, late_first, put_all}
use Rattle.line_order.specs.Order.{Entry, put, texts}
use Rattle.line_order.specs.Queue.{queued}
use Rattle.line_order.specs.Row.{Pops}
use Rattle.line_order.specs.declared.window.Window.{Window}
use Rattle.line_order.proofs.Lists.{rises_put, texts_append}
use Rattle.line_order.proofs.Merge.{before_later, before_put, left_before, left_rises, left_up_to, pops_late, pops_queued, put_in_order, put_late, up_to_last}
use Rattle.line_order.proofs.Places.{all_due, due_at}

-- a line that comes in order
pub puts_last : (old new : Window) (e : Entry) → old.latest ≤ e.moment → new.latest ≡ e.moment → queued new.queue ≡ queued old.queue ++ (e ∷ []) → late_of new ≡ late_of old → IsSound old → Puts e old new
puts_last old new e h l q same s = record {
  held = ap₂ put_all same q ∙ put_in_order old.latest e (late_of old) (queued old.queue) h s.before s.up_to;
  latest = omega (arith, h, l);
  sound = record {
    up_to = subst (λ m. AreUpTo m (queued new.queue)) (sym l) (subst (λ (es : List Entry). AreUpTo e.moment es) (sym q) (up_to_last old.latest e (queued old.queue) h s.up_to));
    before = subst (λ m. AreBefore m (late_of new)) (sym l) (subst (λ (es : List Entry). AreBefore e.moment es) (sym same) (before_later old.latest e.moment (late_of old) h s.before));
    rises = subst (λ (es : List Entry). Rises es) (sym same) s.rises;
  };
}

-- a line that comes late
pub puts_late : (old new : Window) (e : Entry) → e.moment < old.latest → new.latest ≡ old.latest → queued new.queue ≡ queued old.queue → late_of new ≡ put e (late_of old) → IsSound old → Puts e old new
puts_late old new e h l q late s = record {
  held = ap₂ put_all late q ∙ put_late e (late_of old) (queued old.queue) s.rises;
  latest = omega (arith, h, l);
  sound = record {
    up_to = subst (λ m. AreUpTo m (queued new.queue)) (sym l) (subst (λ (es : List Entry). AreUpTo old.latest es) (sym q) s.up_to);
    before = subst (λ m. AreBefore m (late_of new)) (sym l) (subst (λ (es : List Entry). AreBefore old.latest es) (sym late) (before_put old.latest e (late_of old) h s.before));
    rises = subst (λ (es : List Entry). Rises es) (sym late) (rises_put e (late_of old) s.rises);
  };
}

-- the first of the lines that came late goes
pub goes_late : (old new : Window) (before after : List ℕ) (some : Bool) → late_first (late_of old) (queued old.queue) ≡ true → Pops (late_of old) (late_of new) before after some → queued new.queue ≡ queued old.queue → new.latest ≡ old.latest → IsSound old → LetsGo old new before after some
goes_late old new before after some first p q l s = record {
  pops = subst (λ (es : List Entry). Pops (held_of old) (put_all (late_of new) es) before after some) (sym q) (pops_late (late_of old) (late_of new) (queued old.queue) before after some s.rises first p);
  latest = l;
  sound = record {
    up_to = subst (λ m. AreUpTo m (queued new.queue)) (sym l) (subst (λ (es : List Entry). AreUpTo old.latest es) (sym q) s.up_to);
    before = subst (λ m. AreBefore m (late_of new)) (sym l) (left_before old.latest (late_of old) (late_of new) before after some p s.before);
    rises = left_rises (late_of old) (late_of new) before after some p s.rises;
  };
}

-- the first of the lines that came in order goes
pub goes_queued : (old new : Window) (before after : List ℕ) (some : Bool) → late_first (late_of old) (queued old.queue) ≡ false → Pops (queued old.queue) (queued new.queue) before after some → late_of new ≡ late_of old → new.latest ≡ old.latest → IsSound old → LetsGo old new before after some
goes_queued old new before after some first p same l s = record {
  pops = subst (λ (es : List Entry). Pops (held_of old) (put_all es (queued new.queue)) before after some) (sym same) (pops_queued (late_of old) (queued old.queue) (queued new.queue) before after some s.rises first p);
  latest = l;
  sound = record {
    up_to = subst (λ m. AreUpTo m (queued new.queue)) (sym l) (left_up_to old.latest (queued old.queue) (queued new.queue) before after some p s.up_to);
    before = subst (λ m. AreBefore m (late_of new)) (sym l) (subst (λ (es : List Entry). AreBefore old.latest es) (sym same) s.before);
    rises = subst (λ (es : List Entry). Rises es) (sym same) s.rises;
  };
}

-- of a result that may be an error
pub if_late : {E : Type 0} (r : Result Bool E) (old new : Window) (before after : List ℕ) → late_first (late_of old) (queued old.queue) ≡ true → IfOk r (λ some. Pops (late_of old) (late_of new) before after some) → OnOk r (queued new.queue ≡ queued old.queue) → OnOk r (new.latest ≡ old.latest)
    → IfOk r (λ some. IsSound old → LetsGo old new before after some)
if_late (Ok some) old new before after first p q l = λ s. goes_late old new before after some first p q l s
if_late (Err e) old new before after first p q l = tt

pub if_queued : {E : Type 0} (r : Result Bool E) (old new : Window) (before after : List ℕ) → late_first (late_of old) (queued old.queue) ≡ false → IfOk r (λ some. Pops (queued old.queue) (queued new.queue) before after some) → late_of new ≡ late_of old → new.latest ≡ old.latest
    → IfOk r (λ some. IsSound old → LetsGo old new before after some)
if_queued (Ok some) old new before after first p same l = λ s. goes_queued old new before after some first p same l s
if_queued (Err e) old new before after first p same l = tt

-- Lines that go.

pub let_go_none : (limit : ℕ) (w : Window) (text : List ℕ) → IsSound w → HasLetGo limit w w text text
let_go_none limit w text s = record { gone = []; parts = refl; up_to = tt; text = sym (append-nil text); latest = refl; sound = s }

up_to_append : (m : ℕ) (xs ys : List Entry) → AreUpTo m xs → AreUpTo m ys → AreUpTo m (xs ++ ys)
up_to_append m [] ys a b = b
up_to_append m (x ∷ xs) ys a b = (a.0, up_to_append m xs ys a.1 b)

never_none : {X : Type 0} (limit : ℕ) (held : List Entry) → first_up_to limit held ≡ true → held ≡ [] → X
never_none limit [] h e = absurd cc
never_none limit (x ∷ held) h e = absurd cc

first_le : (limit : ℕ) (e : Entry) (es : List Entry) → first_up_to limit (e ∷ es) ≡ true → e.moment ≤ limit
first_le limit e es h = grind (arith, nat_tests)

pub let_go_more : (limit : ℕ) (all held new : Window) (before mid after : List ℕ) (some : Bool) → HasLetGo limit all held before mid → first_up_to limit (held_of held) ≡ true → LetsGo held new mid after some → HasLetGo limit all new before after
let_go_more limit all held new before mid after true r due g =
    let p = g.pops in
    let le : p.0.moment ≤ limit = first_le limit p.0 (held_of new) (subst (λ (l : List Entry). first_up_to limit l ≡ true) p.1 due) in record {
      gone = r.gone ++ (p.0 ∷ []);
      parts = r.parts ∙ (ap (λ (l : List Entry). r.gone ++ l) p.1 ∙ sym (append_assoc r.gone (p.0 ∷ []) (held_of new)));
      up_to = up_to_append limit r.gone (p.0 ∷ []) r.up_to (le, tt);
      text = p.2
          ∙ (ap (λ (t : List ℕ). t ++ p.0.text) r.text
          ∙ (append_assoc before (texts r.gone) p.0.text
          ∙ ap (λ (t : List ℕ). before ++ t) (ap (λ (t : List ℕ). texts r.gone ++ t) (sym (append-nil p.0.text)) ∙ sym (texts_append r.gone (p.0 ∷ [])))));
      latest = g.latest ∙ r.latest;
      sound = g.sound;
    }
let_go_more limit all held new before mid after false r due g = never_none limit (held_of held) due g.pops.0

-- none is left where none goes
pub never_left : {X : Type 0} (limit : ℕ) (held new : Window) (before after : List ℕ) → first_up_to limit (held_of held) ≡ true → LetsGo held new before after false → X
never_left limit held new before after due g = never_none limit (held_of held) due g.pops.0

pub released_of : (window limit : ℕ) (old new : Window) (before after : List ℕ) → window ≤ old.latest → limit ≡ old.latest - window → HasLetGo limit old new before after → HasReleased window old new before after
released_of window limit old new before after h e g = record {
  released = record {
    gone = g.gone;
    parts = g.parts;
    all_due = subst (λ m. AreDue window m g.gone) (sym g.latest) (all_due window old.latest limit g.gone h e g.up_to);
    text = g.text;
  };
  latest = g.latest;
  sound = g.sound;
}

pub if_released : {A E : Type 0} (r : Result A E) (window limit : ℕ) (old new : Window) (before after : List ℕ) → window ≤ old.latest → limit ≡ old.latest - window → OnOk r (IsSound old → HasLetGo limit old new before after) → OnOk r (IsSound old → HasReleased window old new before after)
if_released (Ok x) window limit old new before after h e g = λ s. released_of window limit old new before after h e (g s)
if_released (Err x) window limit old new before after h e g = tt

pub if_none : {A E : Type 0} (r : Result A E) (window limit : ℕ) (old new : Window) (before after : List ℕ) → window ≤ old.latest → limit ≡ old.latest - window → OnOk r (IsSound old → HasLetGo limit old new before after) → OnOk r (IsSound old → first_up_to limit (held_of new) ≡ false)
    → OnOk r (IsSound old → first_due window new.latest (held_of new) ≡ false)
if_none (Ok x) window limit old new before after h e g n = λ s.
    let go = g s in
    subst (λ m. first_due window m (held_of new) ≡ false) (sym go.latest) (sym (due_at window old.latest limit (held_of new) h e) ∙ n s)
if_none (Err x) window limit old new before after h e g n = tt
