-- Where no file is ready and some are left, one reaches itself
use Rattle.std.proofs.Common.{◌≡◌, ℕ, zero, suc, ◌<◌, ◌≤◌, ◌+◌, ◌==◌, Bool, true, false, ◌&&◌, ◌||◌, not, List, [], ◌∷◌, length, inl, inr, refl, sym, ap, ◌∙◌, subst, arith, eqb}
use Rattle.std.specs.List.{list_all, IsDistinct, AllByRecursion}
use Rattle.std.proofs.lemmas.Bool.{or_cases, cases_order, false≢true, eqb-true}
use Rattle.std.proofs.lemmas.List.{get_or_past}
use Rattle.std.proofs.lemmas.Map.Steps.{length-le_from_distinct_below, le-length_from_below}
use Rattle.std.proofs.lemmas.Map.Keys.{IsDistinct-cons}
use Rattle.dsdl_links.specs.Order.{is_among, links_at, AreWithin, is_ready, Reaches, refers, through}
use Rattle.dsdl_links.proofs.Among.{decide, some_fails}
use Rattle.dsdl_links.proofs.Reaching.{further}

past_none : (links : List (List ℕ)) (i k : ℕ) → length links ≤ i → is_among (links_at links i) k ≡ true → i < length links
past_none links i k le h = absurd (false≢true (ap (λ l. is_among l k) (sym (get_or_past links i [] le)) ∙ h))

pub a_file : (links : List (List ℕ)) (i k : ℕ) → is_among (links_at links i) k ≡ true → i < length links
a_file links i k h = elim (cases_order i (length links)) [ inl e ↦ past_none links i k (omega arith) h | inr (inl e) ↦ e | inr (inr e) ↦ past_none links i k (omega arith) h ]

-- what reaches another is a file
pub from_file : {links : List (List ℕ)} {i j : ℕ} → Reaches links i j → i < length links
from_file {links} {i} {j} (refers a) = a_file links i j a
from_file {links} {i} (through {i = m} {k} {j} a r) = a_file links i k a

neither : (a b : Bool) → (a || b) ≡ false → (a ≡ false) × (b ≡ false)
neither true b h = absurd (false≢true (sym h))
neither false b h = (refl, h)

pub apart : (path : List ℕ) (i : ℕ) → is_among path i ≡ false → AllByRecursion (λ y. eqb i y ≡ false) path
apart [] i h = tt
apart (x ∷ path) i h = let p = neither (i == x) (is_among path i) h in (p.0, apart path i p.1)

module _ (links : List (List ℕ)) (order : List ℕ) (within : AreWithin links) (none_ready : (k : ℕ) → k < length links → is_ready links order k ≡ false) (no_cycle : (i : ℕ) → Reaches links i i → ⊥) where
  -- a file that is left refers to one that is left
  follow : (i : ℕ) → i < length links → is_among order i ≡ false → (j : ℕ) × (is_among (links_at links i) j ≡ true) × (is_among order j ≡ false)
  follow i lt h = some_fails (is_among order) (links_at links i) (ap (λ b. not b && list_all (is_among order) (links_at links i)) (sym h) ∙ none_ready i lt)

  -- each of these files reaches i
  abbrev Leads : List ℕ → ℕ → Type 0
  Leads path i = (k : ℕ) → is_among path k ≡ true → (k < length links) × Reaches links k i

  on_path : (i : ℕ) (path : List ℕ) → i < length links → Leads path i → (k : ℕ) → is_among (i ∷ path) k ≡ true → k < length links
  on_path i path lt leads k h = elim (or_cases (k == i) (is_among path k) h) [ inl e ↦ subst (λ n. n < length links) (sym (eqb-true k i e)) lt | inr e ↦ (leads k e).0 ]

  leads_on : (i j : ℕ) (path : List ℕ) → i < length links → Leads path i → is_among (links_at links i) j ≡ true → Leads (i ∷ path) j
  leads_on i j path lt leads a k h = elim (or_cases (k == i) (is_among path k) h) [
    | inl e ↦ subst (λ n. (n < length links) × Reaches links n j) (sym (eqb-true k i e)) (lt, refers a)
    | inr e ↦ ((leads k e).0, further links k i j (inr (leads k e).1) a)
  ]

  unless_met : (i : ℕ) (path : List ℕ) → Leads path i → (is_among path i ≡ false → ⊥) → ⊥
  unless_met i path leads new = elim (decide (is_among path i)) [ inl e ↦ no_cycle i (leads i e).1 | inr e ↦ new e ]

  walk : (left i : ℕ) (path : List ℕ) → length path + left ≡ length links → i < length links → is_among order i ≡ false → IsDistinct eqb path → Leads path i → ⊥
  walk zero i path count lt h distinct leads = unless_met i path leads (λ e.
      let few : suc (length path) ≤ length links = length-le_from_distinct_below (i ∷ path) (length links) (IsDistinct-cons eqb i path (apart path i e) distinct) (on_path i path lt leads) in
      omega arith)
  walk (suc left) i path count lt h distinct leads = unless_met i path leads (λ e.
      let (j, a, l) = follow i lt h in
      walk left j (i ∷ path) (omega arith) (within i j a) l (IsDistinct-cons eqb i path (apart path i e) distinct) (leads_on i j path lt leads a))

  from_left : (i : ℕ) → i < length links → is_among order i ≡ false → ⊥
  unfolding IsDistinct
  from_left i lt h = walk (length links) i [] (omega arith) lt h tt (λ k e. absurd (false≢true e))

  all_among : (i : ℕ) → i < length links → is_among order i ≡ true
  all_among i lt = elim (decide (is_among order i)) [ inl e ↦ e | inr e ↦ absurd (from_left i lt e) ]

  pub stuck : length order < length links → ⊥
  stuck less = let many : length links ≤ length order = le-length_from_below order (length links) all_among in omega arith
