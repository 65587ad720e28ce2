-- The front of a line.
use Rattle.std.proofs.Common.{◌≡◌, ◌∙◌, ◌==◌, ◌+◌, ◌≤◌, ℕ, Bool, true, false, List, [], ◌∷◌, ◌++◌, Option, Some, None, length, take, refl, sym, ap, ap₂, append_assoc, append-nil, length-append, arith}
use Rattle.std.specs.Prelude.{if◌then◌else◌, ◌||◌, nat_lt}
use Rattle.std.proofs.lemmas.Bool.Decides.{nat_tests}
use Rattle.std.proofs.Math.Seq.{take-append_seam}
use Rattle.frame_log.specs.Line.{◌>>=◌, after, cut, decimal_from, seconds_of}
use Rattle.frame_log.specs.Reads.{front_of}
use Rattle.frame_log.proofs.LineLemmas.{no, some_is}
use Rattle.frame_log.proofs.PairLemmas.{take-less}
use Rattle.frame_log.proofs.CleanLemmas.{cut-at, cut-both, cut-cons, cut-found, decimal-clean}
use Rattle.line_order.specs.Front.{IsFront}

-- a step of reading that gave something
pub bound : {A B : Type 0} (o : Option A) (f : A → Option B) (y : B) → (o >>= f) ≡ Some y → (x : A) × (o ≡ Some x) × (f x ≡ Some y)
bound None f y h = absurd cc
bound (Some x) f y h = (x, refl, h)

pub when : {X : Type 0} (t : Bool) (o : Option X) (y : X) → (if t then None else o) ≡ Some y → (t ≡ false) × (o ≡ Some y)
when true o y h = absurd cc
when false o y h = (refl, h)

pub after-some : (b : ℕ) (s r : List ℕ) → after b s ≡ Some r → s ≡ b ∷ r
after-some b [] r h = absurd cc
after-some b (x ∷ s) r h = go (x == b) refl h
  where
    go : (v : Bool) → (x == b) ≡ v → (if v then Some s else None) ≡ Some r → x ∷ s ≡ b ∷ r
    go true e k = ap₂ (λ (y : ℕ) (t : List ℕ). y ∷ t) (grind (arith, nat_tests)) (some_is _ _ k)
    go false e k = absurd cc

-- SECONDS and the point, and what stands behind them
pub record IsSeconds (a r : List ℕ) (v : ℕ) : Type 0 where
  pub digits : List ℕ
  pub whole : a ≡ digits ++ 46 ∷ r
  pub point : cut 46 digits ≡ None
  pub number : decimal_from 0 digits ≡ Some v
  pub fits : ((length digits == 0) || nat_lt 12 (length digits)) ≡ false

pub seconds-parts : (a r : List ℕ) (v : ℕ) → seconds_of a ≡ Some (v, r) → IsSeconds a r v
seconds-parts a r v e =
    let p = bound (cut 46 a) _ (v, r) e in
    let d = bound (decimal_from 0 p.0.0) _ (v, r) p.2 in
    let w = when ((length p.0.0 == 0) || nat_lt 12 (length p.0.0)) (Some (d.0, p.0.1)) (v, r) d.2 in
    let is : (d.0, p.0.1) ≡ (v, r) = some_is _ _ w.1 in
    let f = cut-found 46 a p.0.0 p.0.1 p.1 in record {
      digits = p.0.0;
      whole = f.1 ∙ ap (λ (q : ℕ × List ℕ). p.0.0 ++ 46 ∷ q.1) is;
      point = f.0;
      number = d.1 ∙ ap (λ (q : ℕ × List ℕ). Some q.0) is;
      fits = w.0;
    }

seconds-again : (d t : List ℕ) (v : ℕ) → cut 46 d ≡ None → ((length d == 0) || nat_lt 12 (length d)) ≡ false → decimal_from 0 d ≡ Some v → seconds_of (d ++ 46 ∷ t) ≡ Some (v, t)
seconds-again d t v h e n =
    ap (λ (o : Option (List ℕ × List ℕ)). o >>= (λ p. decimal_from 0 p.0 >>= (λ seconds. if (length p.0 == 0) || nat_lt 12 (length p.0) then None else Some (seconds, p.1)))) (cut-at 46 d t h)
    ∙ ap (λ (o : Option ℕ). o >>= (λ seconds. if (length d == 0) || nat_lt 12 (length d) then None else Some (seconds, t))) n
    ∙ sym (no ((length d == 0) || nat_lt 12 (length d)) None (Some (v, t)) e)

-- the front of a line that was read
pub front-is : (s a r : List ℕ) (v n : ℕ) → after 40 s ≡ Some a → seconds_of a ≡ Some (v, r) → n + length r ≡ length s → n ≤ 16 → IsFront (take 16 s) n v
front-is s a r v n h e l short t =
    let p = seconds-parts a r v e in
    let front = 40 ∷ p.digits ++ 46 ∷ [] in
    let whole : s ≡ front ++ r = after-some 40 s a h ∙ ap (λ t. 40 ∷ t) p.whole ∙ ap (λ t. 40 ∷ t) (sym (append_assoc p.digits (46 ∷ []) r)) in
    let count : length s ≡ length front + length r = ap length whole ∙ length-append front r in
    let same : n ≡ length front = omega (arith, l, count) in
    let split : take n s ≡ front = ap₂ take same whole ∙ take-append_seam front r in
    let part : take n (take 16 s) ≡ take n s = take-less n 16 s short in
    ap (λ x. front_of (x ++ t)) (part ∙ split) ∙ ap (λ x. seconds_of x) (append_assoc p.digits (46 ∷ []) t) ∙ seconds-again p.digits t v p.point p.fits p.number

-- another line with the same first bytes
pub front-stored : (s text : List ℕ) (n m v : ℕ) → n ≤ m → n ≤ 16 → take m (take 16 s) ≡ take m text → IsFront text n v → IsFront s n v
front-stored s text n m v le short e f t =
    let same : take n s ≡ take n text = sym (take-less n 16 s short) ∙ sym (take-less n m (take 16 s) le) ∙ ap (take n) e ∙ take-less n m text le in
    ap (λ x. front_of (x ++ t)) same ∙ f t

-- it has no closing parenthesis
pub front-open : (p : List ℕ) (v : ℕ) → ((t : List ℕ) → front_of (p ++ t) ≡ Some (v, t)) → cut 41 p ≡ None
front-open p v f =
    let here : front_of p ≡ Some (v, []) = ap front_of (sym (append-nil p)) ∙ f [] in
    let a = bound (after 40 p) seconds_of (v, []) here in
    let d = seconds-parts a.0 [] v a.2 in
    ap (cut 41) (after-some 40 p a.0 a.1 ∙ ap (λ t. 40 ∷ t) d.whole)
    ∙ cut-cons 41 40 (d.digits ++ 46 ∷ []) refl (cut-both 41 d.digits (46 ∷ []) (decimal-clean 41 0 v d.digits refl d.number) refl)
