-- The bus in force, and what a late record shows
use Rattle.std.proofs.Common.{◌≡◌, ℕ, ◌+◌, ◌<◌, Bool, true, false, cond, not, ◌&&◌, eqb, List, [], ◌∷◌, Option, Some, None, refl, sym, ap, ◌∙◌, subst, inl, inr}
use Rattle.std.proofs.lemmas.Bool.{eqb-true, eqb-false, eq-eqb, ltb-true, and_parts, and_from, cond-true, cond-false, cond_both, both_ways, cases_Bool, true≢false}
use Rattle.tail_frame.specs.Chains.{KeyRecord}
use Rattle.redundancy.specs.Force.{last_on, is_long_after, hands_over, force_after, force, is_bus, heard, last_heard, late}

pub is_bus-true : (f : Option ℕ) (b : ℕ) → is_bus f b ≡ true → f ≡ Some b
is_bus-true None b e = cc
is_bus-true (Some c) b e = ap (λ x. Some x) (eqb-true c b e)

-- a record that is heard is on the bus in force
pub heard_force : (timeout : ℕ) (r : KeyRecord) (past : List KeyRecord) → heard timeout r past ≡ true → force timeout (r ∷ past) ≡ Some r.bus
heard_force timeout r past e = is_bus-true (force timeout (r ∷ past)) r.bus e

pub force_heard : (timeout : ℕ) (r : KeyRecord) (past : List KeyRecord) → force timeout (r ∷ past) ≡ Some r.bus → heard timeout r past ≡ true
force_heard timeout r past e = subst (λ f. is_bus f r.bus ≡ true) (sym e) (eq-eqb r.bus r.bus refl)

pub some_inj : (a b : ℕ) → Some a ≡ Some b → a ≡ b
some_inj a b e = cc

pick_none : (b : Bool) (x c : ℕ) → cond b (Some x) None ≡ Some c → x ≡ c
pick_none true x c e = some_inj x c e
pick_none false x c e = cc

pick_some : (b : Bool) (x d c : ℕ) → cond b (Some x) (Some d) ≡ Some c → (x ≡ c → ⊥) → d ≡ c
pick_some true x d c e ne = absurd (ne (some_inj x c e))
pick_some false x d c e ne = some_inj d c e

force_same : (timeout : ℕ) (r : KeyRecord) (past : List KeyRecord) (f : Option ℕ) (c : ℕ) → force_after timeout r past f ≡ Some c → (r.bus ≡ c → ⊥) → f ≡ Some c
force_same timeout r past None c e ne = absurd (ne (pick_none r.start r.bus c e))
force_same timeout r past (Some d) c e ne = ap (λ x. Some x) (pick_some (hands_over timeout d r past) r.bus d c e ne)

-- the last record on the bus in force is the last one heard
pub last_on_heard : (timeout : ℕ) (h : List KeyRecord) (c : ℕ) → force timeout h ≡ Some c → last_on c h ≡ last_heard timeout h
last_on_heard timeout [] c e = refl
last_on_heard timeout (r ∷ past) c e =
    cond_both (eqb r.bus c) (Some r.moment) (last_on c past) (λ x. x ≡ last_heard timeout (r ∷ past))
    (λ same. sym (cond-true (heard timeout r past) (Some r.moment) (last_heard timeout past) (force_heard timeout r past (e ∙ ap (λ x. Some x) (sym (eqb-true r.bus c same))))))
    (λ other.
    last_on_heard timeout past c (force_same timeout r past (force timeout past) c e (eqb-false r.bus c other))
    ∙ sym (cond-false (heard timeout r past) (Some r.moment) (last_heard timeout past)
    (elim (cases_Bool (heard timeout r past)) [
      | inl y ↦ absurd (eqb-false r.bus c other (some_inj r.bus c (sym (heard_force timeout r past y) ∙ e)))
      | inr n ↦ n
    ])))

-- a handover is late
pub handover_late : (timeout : ℕ) (r : KeyRecord) (past : List KeyRecord) (c : ℕ) → force timeout past ≡ Some c → hands_over timeout c r past ≡ true → (r.start && late timeout r past) ≡ true
handover_late timeout r past c e h =
    let parts = and_parts r.start (not (eqb r.bus c) && is_long_after timeout (last_on c past) r.moment) h in
    let more = and_parts (not (eqb r.bus c)) (is_long_after timeout (last_on c past) r.moment) parts.1 in
    let now : force timeout (r ∷ past) ≡ Some r.bus = ap (force_after timeout r past) e ∙ cond-true (hands_over timeout c r past) (Some r.bus) (Some c) h in
    and_from r.start (late timeout r past) parts.0
    (and_from (heard timeout r past) (is_long_after timeout (last_heard timeout past) r.moment) (force_heard timeout r past now)
    (subst (λ o. is_long_after timeout o r.moment ≡ true) (last_on_heard timeout past c e) more.1))

-- the bus in force stays at a record that isn't a late start frame
pub force_kept : (timeout : ℕ) (r : KeyRecord) (past : List KeyRecord) (c : ℕ) → force timeout past ≡ Some c → (r.start && late timeout r past) ≡ false → force timeout (r ∷ past) ≡ Some c
force_kept timeout r past c e n =
    ap (force_after timeout r past) e
    ∙ cond-false (hands_over timeout c r past) (Some r.bus) (Some c)
    (elim (cases_Bool (hands_over timeout c r past)) [ inl y ↦ absurd (both_ways (r.start && late timeout r past) n (handover_late timeout r past c e y)) | inr m ↦ m ])

long_after : (timeout : ℕ) (o : Option ℕ) (now : ℕ) → is_long_after timeout o now ≡ true → (t : ℕ) × (o ≡ Some t) × (t + timeout < now)
long_after timeout None now e = absurd (true≢false (sym e))
long_after timeout (Some t) now e = (t, refl, ltb-true (t + timeout) now e)

-- a late record is more than the timeout after the last one heard
pub late_far : (timeout : ℕ) (r : KeyRecord) (past : List KeyRecord) → late timeout r past ≡ true → (t : ℕ) × (last_heard timeout past ≡ Some t) × (t + timeout < r.moment)
late_far timeout r past e = long_after timeout (last_heard timeout past) r.moment (and_parts (heard timeout r past) (is_long_after timeout (last_heard timeout past) r.moment) e).1

pub late_heard : (timeout : ℕ) (r : KeyRecord) (past : List KeyRecord) → late timeout r past ≡ true → heard timeout r past ≡ true
late_heard timeout r past e = (and_parts (heard timeout r past) (is_long_after timeout (last_heard timeout past) r.moment) e).0
