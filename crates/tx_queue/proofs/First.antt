-- The least of frames: its place, and what stands before and behind it.
use Rattle.std.proofs.Common.{◌≡◌, ℕ, zero, suc, ◌<◌, ◌≤◌, Bool, true, false, cond, List, [], ◌∷◌, ◌++◌, length, get_or, Some, refl, sym, ap, ◌∙◌, subst, arith}
use Rattle.std.proofs.lemmas.Bool.{ltb-true, ltb-false}
use Rattle.std.proofs.lemmas.List.Elements.{All-nil, All-cons, All-append, All-weaker, All-same}
use Rattle.std.specs.List.{IsFirstBest, remove}
use Rattle.tx_queue.specs.Waiting.{is_less, least, leaving, staying, IsLeast, LeastIsFirst}
use Rattle.tx_queue.specs.declared.frame.OutFrame.{OutFrame}

-- a frame and those that are left, of a frame and those behind it with their least
abbrev chosen : Bool → OutFrame → List OutFrame → OutFrame × List OutFrame → OutFrame × List OutFrame
chosen b f fs m = cond b (m.0, f ∷ m.1) (f, fs)

-- a frame stands somewhere among others
abbrev IsAt : OutFrame → OutFrame → List OutFrame → Type 0
IsAt d x fs = (k : ℕ) × (k < length fs) × (get_or fs k d ≡ x)

chosen_at : (b : Bool) (d f : OutFrame) (fs : List OutFrame) (m : OutFrame × List OutFrame) → IsAt d m.0 fs → IsAt d (chosen b f fs m).0 (f ∷ fs)
chosen_at true d f fs m r = (suc r.0, omega (arith, r.1), r.2)
chosen_at false d f fs m r = (0, omega arith, refl)

-- the least stands somewhere
least_at : (d f : OutFrame) (fs : List OutFrame) → IsAt d (least f fs).0 (f ∷ fs)
least_at d f [] = (0, omega arith, refl)
least_at d f (g ∷ gs) = chosen_at (is_less (least g gs).0 f) d f (g ∷ gs) (least g gs) (least_at d g gs)

-- a place that is the first best has the least, and without it the others are left
best_is : (d f : OutFrame) (fs : List OutFrame) (b : ℕ) → IsFirstBest is_less (f ∷ fs) (length (f ∷ fs)) b → least f fs ≡ (get_or (f ∷ fs) b d, remove (f ∷ fs) b)
best_is d f [] zero x = refl
best_is d f [] (suc b) x = absurd (omega (arith, x.0))
best_is d f (g ∷ gs) zero x =
    let r = least_at d g gs in
    let no : is_less (least g gs).0 f ≡ false = subst (λ h. is_less h f ≡ false) r.2 (x.1 (suc r.0) d (omega (arith, r.1))) in
    ap (λ c. chosen c f (g ∷ gs) (least g gs)) no
best_is d f (g ∷ gs) (suc b) x =
    let is : least g gs ≡ (get_or (g ∷ gs) b d, remove (g ∷ gs) b) =
    best_is d g gs b (omega (arith, x.0), λ k e l. x.1 (suc k) e (omega arith), λ k e l. x.2 (suc k) e (omega arith)) in
    let yes : is_less (least g gs).0 f ≡ true = subst (λ h. is_less h f ≡ true) (sym (ap (λ p. p.0) is)) (x.2 0 d (omega arith)) in
    ap (λ c. chosen c f (g ∷ gs) (least g gs)) yes ∙ ap (λ m. chosen true f (g ∷ gs) m) is

-- what leaves and what stays, by that place
pub leaves : (waiting : List OutFrame) (b : ℕ) (frame : OutFrame) → IsFirstBest is_less waiting (length waiting) b → frame ≡ get_or waiting b frame → Some frame ≡ leaving waiting
leaves [] b frame x e = absurd (omega (arith, x.0))
leaves (f ∷ fs) b frame x e = ap Some (e ∙ sym (ap (λ p. p.0) (best_is frame f fs b x)))

pub stays : (waiting : List OutFrame) (b : ℕ) → IsFirstBest is_less waiting (length waiting) b → remove waiting b ≡ staying waiting
stays [] b x = absurd (omega (arith, x.0))
stays (f ∷ fs) b x = sym (ap (λ p. p.1) (best_is f f fs b x))

chosen_first : (b : Bool) (f : OutFrame) (fs : List OutFrame) (m : OutFrame × List OutFrame) → is_less m.0 f ≡ b → IsLeast fs m.0 m.1 → IsLeast (f ∷ fs) (chosen b f fs m).0 (chosen b f fs m).1
chosen_first true f fs m e r = record {
  before = f ∷ r.before;
  behind = r.behind;
  waiting_is = ap (λ xs. f ∷ xs) r.waiting_is;
  others_are = ap (λ xs. f ∷ xs) r.others_are;
  greater = All-cons (λ x. m.0.ident < x.ident) f r.before (ltb-true m.0.ident f.ident e) r.greater;
  not_less = r.not_less;
}
chosen_first false f fs m e r =
    let le : f.ident ≤ m.0.ident = ltb-false m.0.ident f.ident e in
    let before = All-weaker (λ x. m.0.ident < x.ident) (λ x. f.ident ≤ x.ident) (λ x l. omega (arith, le, l)) r.before r.greater in
    let behind = All-weaker (λ x. m.0.ident ≤ x.ident) (λ x. f.ident ≤ x.ident) (λ x l. omega (arith, le, l)) r.behind r.not_less in
    let all = All-append (λ x. f.ident ≤ x.ident) r.before (m.0 ∷ r.behind) before (All-cons (λ x. f.ident ≤ x.ident) m.0 r.behind le behind) in
    record {
      before = [];
      behind = fs;
      waiting_is = refl;
      others_are = refl;
      greater = All-nil _;
      not_less = All-same (λ x. f.ident ≤ x.ident) fs (r.before ++ m.0 ∷ r.behind) r.waiting_is all;
    }

pub is_least : LeastIsFirst
is_least f [] = record {
  before = [];
  behind = [];
  waiting_is = refl;
  others_are = refl;
  greater = All-nil _;
  not_less = All-nil _;
}
is_least f (g ∷ gs) = chosen_first (is_less (least g gs).0 f) f (g ∷ gs) (least g gs) refl (is_least g gs)
