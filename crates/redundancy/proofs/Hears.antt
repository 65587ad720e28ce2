-- What the session hears is what the records say
use Rattle.std.proofs.Common.{◌≡◌, ℕ, ◌+◌, Bool, true, false, cond, not, ◌&&◌, eqb, ltb, List, [], ◌∷◌, Option, Some, None, unwrap_or, refl, sym, ap, ◌∙◌, subst, inl, inr}
use Rattle.std.proofs.lemmas.Bool.{eqb-true, eqb-false, eq-eqb, ne_eqb, cond-true, cond_both, both_ways, cases_Bool}
use Rattle.tail_frame.specs.Chains.{KeyRecord}
use Rattle.redundancy.specs.Force.{last_on, is_long_after, hands_over, force_after, force, is_bus, heard, last_heard, late}
use Rattle.redundancy.specs.Hear.{hear}
use Rattle.redundancy.specs.Laws.{HeardIs}
use Rattle.redundancy.proofs.Forces.{last_on_heard}

heard_some : (b : Bool) (m : ℕ) (o : Option ℕ) → (t : ℕ) × (o ≡ Some t) → (t : ℕ) × (cond b (Some m) o ≡ Some t)
heard_some true m o x = (m, refl)
heard_some false m o x = x

heard_after : (timeout : ℕ) (r : KeyRecord) (past : List KeyRecord) (f : Option ℕ) → HeardIs f (last_heard timeout past) → HeardIs (force_after timeout r past f) (cond (is_bus (force_after timeout r past f) r.bus) (Some r.moment) (last_heard timeout past))
heard_after timeout r past None e =
    cond_both r.start (Some r.bus) None (λ f. HeardIs f (cond (is_bus f r.bus) (Some r.moment) (last_heard timeout past)))
    (λ _. (r.moment, cond-true (eqb r.bus r.bus) (Some r.moment) (last_heard timeout past) (eq-eqb r.bus r.bus refl)))
    (λ _. e)
heard_after timeout r past (Some c) e =
    cond_both (hands_over timeout c r past) (Some r.bus) (Some c) (λ f. HeardIs f (cond (is_bus f r.bus) (Some r.moment) (last_heard timeout past)))
    (λ _. heard_some (eqb r.bus r.bus) r.moment (last_heard timeout past) e)
    (λ _. heard_some (eqb c r.bus) r.moment (last_heard timeout past) e)

pub heard_is : (timeout : ℕ) (h : List KeyRecord) → HeardIs (force timeout h) (last_heard timeout h)
heard_is timeout [] = refl
heard_is timeout (r ∷ past) = heard_after timeout r past (force timeout past) (heard_is timeout past)

-- a record that isn't heard leaves the bus in force
pub unheard_force : (timeout : ℕ) (r : KeyRecord) (past : List KeyRecord) (f : Option ℕ) → is_bus (force_after timeout r past f) r.bus ≡ false → force_after timeout r past f ≡ f
unheard_force timeout r past None =
    cond_both r.start (Some r.bus) None (λ f. is_bus f r.bus ≡ false → f ≡ None) (λ _ n. absurd (both_ways (eqb r.bus r.bus) n (eq-eqb r.bus r.bus refl))) (λ _ _. refl)
unheard_force timeout r past (Some c) =
    cond_both (hands_over timeout c r past) (Some r.bus) (Some c) (λ f. is_bus f r.bus ≡ false → f ≡ Some c) (λ _ n. absurd (both_ways (eqb r.bus r.bus) n (eq-eqb r.bus r.bus refl))) (λ _ _. refl)

-- what `hear` answers, from the bus in force and the moment last heard
abbrev Answers : ℕ → KeyRecord → List KeyRecord → Option ℕ → Option ℕ → Type 0
Answers timeout r past f o =
    hear timeout f (unwrap_or o 0) r.bus r.moment r.start
    ≡ cond (is_bus (force_after timeout r past f) r.bus) (Some (is_bus (force_after timeout r past f) r.bus && is_long_after timeout o r.moment)) None

answers_none : (timeout : ℕ) (r : KeyRecord) (past : List KeyRecord) → Answers timeout r past None None
answers_none timeout r past = go r.start r.bus
  where
    go : (start : Bool) (b : ℕ) → cond start (Some false) None ≡ cond (is_bus (cond start (Some b) None) b) (Some (is_bus (cond start (Some b) None) b && false)) None
    go true b = subst (λ e. Some false ≡ cond e (Some (e && false)) None) (sym (eq-eqb b b refl)) refl
    go false b = refl

eqb_sym : (a b : ℕ) → eqb a b ≡ eqb b a
eqb_sym a b = elim (cases_Bool (eqb a b)) [ inl y ↦ y ∙ sym (eq-eqb b a (sym (eqb-true a b y))) | inr n ↦ n ∙ sym (ne_eqb b a (λ e. eqb-false a b n (sym e))) ]

eight : (e start long : Bool) → cond e (Some long) (cond (start && long) (Some true) None) ≡ cond (cond (start && (not e && long)) true e) (Some (cond (start && (not e && long)) true e && long)) None
eight true true long = refl
eight true false long = refl
eight false true true = refl
eight false true false = refl
eight false false long = refl

bus_of : (h : Bool) (b c : ℕ) → is_bus (cond h (Some b) (Some c)) b ≡ cond h true (eqb c b)
bus_of true b c = eq-eqb b b refl
bus_of false b c = refl

answers_some : (timeout : ℕ) (r : KeyRecord) (past : List KeyRecord) (c t : ℕ) → last_on c past ≡ Some t → Answers timeout r past (Some c) (Some t)
answers_some timeout r past c t on =
    let long = ltb (t + timeout) r.moment in
    let over : hands_over timeout c r past ≡ (r.start && (not (eqb c r.bus) && long)) =
    ap (λ o. r.start && (not (eqb r.bus c) && is_long_after timeout o r.moment)) on ∙ ap (λ e. r.start && (not e && long)) (eqb_sym r.bus c) in
    eight (eqb c r.bus) r.start long
    ∙ ap (λ v. cond v (Some (v && long)) None) (sym (bus_of (hands_over timeout c r past) r.bus c ∙ ap (λ h. cond h true (eqb c r.bus)) over))

answers : (timeout : ℕ) (r : KeyRecord) (past : List KeyRecord) (f o : Option ℕ) → ((c : ℕ) → f ≡ Some c → last_on c past ≡ o) → HeardIs f o → Answers timeout r past f o
answers timeout r past None o on e = subst (Answers timeout r past None) (sym e) (answers_none timeout r past)
answers timeout r past (Some c) o on e = subst (Answers timeout r past (Some c)) (sym e.1) (answers_some timeout r past c e.0 (on c refl ∙ e.1))

pub hear_is : (timeout : ℕ) (r : KeyRecord) (past : List KeyRecord) → hear timeout (force timeout past) (unwrap_or (last_heard timeout past) 0) r.bus r.moment r.start ≡ cond (heard timeout r past) (Some (late timeout r past)) None
hear_is timeout r past = answers timeout r past (force timeout past) (last_heard timeout past) (last_on_heard timeout past) (heard_is timeout past)
