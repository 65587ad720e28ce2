-- The first place in a list that passes a test.
use Rattle.std.proofs.Common.{◌≡◌, ◌∙◌, ℕ, ◌+◌, List, ◌∷◌, suc, Bool, true, false, cond, Option, Some, None, refl, ap, nat_lt, position, option_map, length, arith}
use Rattle.std.proofs.Math.Numerals.{one-add}
use Rattle.std.proofs.lemmas.Grind.{common_steps}
use Rattle.std.specs.List.{position_or_len}

same_lt : (q n : ℕ) → nat_lt (1 + q) (suc n) ≡ nat_lt q n
same_lt q n = go (nat_lt q n) refl (nat_lt (1 + q) (suc n)) refl
  where
    go : (a : Bool) → nat_lt q n ≡ a → (b : Bool) → nat_lt (1 + q) (suc n) ≡ b → nat_lt (1 + q) (suc n) ≡ nat_lt q n
    go a e b f = grind (arith, common_steps)

lifted : (q : ℕ) (b : Bool) → cond b (Some (1 + q)) None ≡ option_map suc (cond b (Some q) None)
lifted q true = ap Some (one-add q)
lifted q false = refl

module _ {X : Type 0} (p : X → Bool) (x : X) (xs : List X) where
  pub position-further : p x ≡ false → position p (x ∷ xs) ≡ option_map suc (position p xs)
  position-further e =
      rw e (ap (λ b. cond b (Some (1 + position_or_len p xs)) None) (same_lt (position_or_len p xs) (length xs)) ∙ lifted (position_or_len p xs) (nat_lt (position_or_len p xs) (length xs)))

  pub position-here : p x ≡ true → position p (x ∷ xs) ≡ Some 0
  position-here e = rw e (let h : nat_lt 0 (suc (length xs)) ≡ true = grind (arith, common_steps) in rw h refl)

-- one less, where the first item doesn't pass
pub position-lowered : (o : Option ℕ) (i : ℕ) → option_map suc o ≡ Some i → (j : ℕ) × (o ≡ Some j) × (i ≡ suc j)
position-lowered None i h = absurd cc
position-lowered (Some j) i h = (j, refl, cc)

pub position-none_below : (o : Option ℕ) → option_map suc o ≡ None → o ≡ None
position-none_below None h = refl
position-none_below (Some j) h = absurd cc
