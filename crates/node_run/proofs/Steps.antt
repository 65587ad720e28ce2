-- The steps over the records of a log, and their lines.
use Rattle.std.proofs.Common.{◌≡◌, ◌∙◌, ℕ, zero, suc, ◌+◌, ◌*◌, List, [], ◌∷◌, ◌++◌, refl, sym, ap, ap₂, add-one, length-append, subst, append-nil, append_assoc, arith}
use Rattle.std.specs.Prelude.{length}
use Rattle.log_loop.specs.Gone.{FirstOf}
use Rattle.node_plan.specs.declared.plan.Plan.{Plan}
use Rattle.node_core.proofs.Waits.{lines_join}
use Rattle.node_core.specs.Steps.{Met, Step, Tick, ticks_from, new_steps, steps, lines, lines_at, lines_behind}

pub lines_newer : (plan : Plan) (newer past : List Step) → lines plan (newer ++ past) ≡ lines plan past ++ lines_behind plan newer past
lines_newer = lines_join

pub behind_newer : (plan : Plan) (a b past : List Step) → lines_behind plan (a ++ b) past ≡ lines_behind plan b past ++ lines_behind plan a (b ++ past)
behind_newer plan [] b past = sym (append-nil (lines_behind plan b past))
behind_newer plan (s ∷ a) b past =
    ap (λ t. lines_behind plan (a ++ b) past ++ lines_at plan s t) (append_assoc a b past)
    ∙ (ap (λ t. t ++ lines_at plan s (a ++ (b ++ past))) (behind_newer plan a b past)
    ∙ append_assoc (lines_behind plan b past) (lines_behind plan a (b ++ past)) (lines_at plan s (a ++ (b ++ past))))

-- the steps over the first records are the first steps
pub steps_newer : (plan : Plan) (newer past : List Met) → FirstOf (steps plan (newer ++ past)) (steps plan past)
steps_newer plan [] past = record { newer = []; parts = refl }
steps_newer plan (m ∷ newer) past =
    let f = steps_newer plan newer past in
    let new = new_steps plan m (newer ++ past) in record {
      newer = new ++ f.newer;
      parts = ap (λ (t : List Step). new ++ t) f.parts ∙ sym (append_assoc new f.newer (steps plan past));
    }

pub first_steps : (plan : Plan) (mets came : List Met) → FirstOf mets came → FirstOf (steps plan mets) (steps plan came)
first_steps plan mets came f =
    subst (λ (t : List Met). FirstOf (steps plan t) (steps plan came)) (sym f.parts) (steps_newer plan f.newer came)

-- Ticks.

-- the first of these ticks, and the others
pub ticks_split : (first number n d : ℕ) → (newer : List Step) × (ticks_from first number (n + d) ≡ newer ++ ticks_from first number n)
ticks_split first number n zero = ([], ap (ticks_from first number) (omega arith))
ticks_split first number n (suc d) =
    let f = ticks_split first number n d in
    let tick = Tick (number + (n + d)) (first + (number + (n + d)) * 1000000) in
    let e : n + suc d ≡ suc (n + d) = omega arith in
    (tick ∷ f.0, ap (ticks_from first number) e ∙ ap (λ t. tick ∷ t) f.1)

pub length_ticks : (first number n : ℕ) → length (ticks_from first number n) ≡ n
length_ticks first number zero = refl
length_ticks first number (suc n) = ap suc (length_ticks first number n)

-- one more tick
pub tick_more : (first number n at moment : ℕ) → at ≡ number + n → moment ≡ first + (number + n) * 1000000 → Tick at moment ∷ ticks_from first number n ≡ ticks_from first number (n + 1)
tick_more first number n at moment e f = ap₂ (λ a b. Tick a b ∷ ticks_from first number n) e f ∙ ap (ticks_from first number) (sym (add-one n))

pub length_behind : (first number n : ℕ) (past : List Step) → length (ticks_from first number n ++ past) ≡ n + length past
length_behind first number n past = length-append (ticks_from first number n) past ∙ ap (λ m. m + length past) (length_ticks first number n)
