-- What is kept of three buses.
use Rattle.std.proofs.Common.{◌≡◌, ◌∙◌, ℕ, zero, suc, ◌<◌, ◌≤◌, Bool, true, false, cond, List, [], ◌∷◌, map, get_or, set, nat_eq, refl, sym, ap, arith, ne_eqb}
use Rattle.tail_frame.specs.declared.logged.Record.{Record}
use Rattle.bus_survey.specs.Buses.{on_bus, kept_records, bus_counts}
use Rattle.bus_survey.specs.declared.bus_counts.BusCounts.{BusCounts}

by_choice : {X Y : Type 0} (f : X → Y) (b : Bool) (x y : X) → f (cond b x y) ≡ cond b (f x) (f y)
by_choice f true x y = refl
by_choice f false x y = refl

pub at_bus : (past : List Record) (n : ℕ) (d : BusCounts) → n < 3 → get_or (bus_counts past) n d ≡ kept_records (on_bus n past)
at_bus past zero d low = refl
at_bus past (suc zero) d low = refl
at_bus past (suc (suc zero)) d low = refl
at_bus past (suc (suc (suc n))) d low = absurd (omega (arith, low))

-- one of three values is changed
changed : {X : Type 0} (f f' : ℕ → X) (n : ℕ) → n < 3 → set (f 0 ∷ f 1 ∷ f 2 ∷ []) n (f' n) ≡ map (λ b. cond (nat_eq n b) (f' b) (f b)) (0 ∷ 1 ∷ 2 ∷ [])
changed f f' zero low = refl
changed f f' (suc zero) low = refl
changed f f' (suc (suc zero)) low = refl
changed f f' (suc (suc (suc n))) low = absurd (omega (arith, low))

-- none of them is
same : {X : Type 0} (f f' : ℕ → X) (n : ℕ) → 3 ≤ n → (f 0 ∷ f 1 ∷ f 2 ∷ []) ≡ map (λ b. cond (nat_eq n b) (f' b) (f b)) (0 ∷ 1 ∷ 2 ∷ [])
same f f' n high = λ i. stays 0 (omega arith) i ∷ stays 1 (omega arith) i ∷ stays 2 (omega arith) i ∷ []
  where
    stays : (b : ℕ) → b < 3 → f b ≡ cond (nat_eq n b) (f' b) (f b)
    stays b low = sym (ap (λ t. cond t (f' b) (f b)) (ne_eqb n b (λ e. omega (arith, e, high, low))))

module _ (rec : Record) (past : List Record) where
  abbrev before : ℕ → BusCounts
  before b = kept_records (on_bus b past)

  abbrev more : ℕ → BusCounts
  more b = kept_records (rec ∷ on_bus b past)

  after : (b : ℕ) → cond (nat_eq rec.bus b) (more b) (before b) ≡ kept_records (on_bus b (rec ∷ past))
  after b = sym (by_choice kept_records (nat_eq rec.bus b) (rec ∷ on_bus b past) (on_bus b past))

  all_after : map (λ b. cond (nat_eq rec.bus b) (more b) (before b)) (0 ∷ 1 ∷ 2 ∷ []) ≡ bus_counts (rec ∷ past)
  all_after = λ i. after 0 i ∷ after 1 i ∷ after 2 i ∷ []

  -- with one record more on one of the buses, and on none
  pub bus_more : (old : List BusCounts) (counts : BusCounts) → old ≡ bus_counts past → rec.bus < 3 → counts ≡ kept_records (rec ∷ on_bus rec.bus past) → set old rec.bus counts ≡ bus_counts (rec ∷ past)
  bus_more old counts are low is = (λ i. set (are i) rec.bus (is i)) ∙ changed before more rec.bus low ∙ all_after

  pub bus_same : (old : List BusCounts) → old ≡ bus_counts past → 3 ≤ rec.bus → old ≡ bus_counts (rec ∷ past)
  bus_same old are high = are ∙ same before more rec.bus high ∙ all_after
