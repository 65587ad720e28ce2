-- Whole numbers as constants.
use Rattle.std.proofs.Common.{◌≡◌, ℕ, zero, suc, ◌<◌, ℤ, pos, ◌*ℤ◌, List, [], ◌∷◌, AllPairs, All, sym, ap, ◌∙◌, subst, arith, Less}
use Rattle.std.proofs.Math.Nat.{mul-one}
use Rattle.std.proofs.lemmas.Grind.{common_steps}
use Rattle.std.proofs.lemmas.List.Kept.{AllPairs-cons}
use Rattle.std.specs.Ordering.{int_cmp}
use Rattle.const_expr.specs.declared.constant.Const.{Const}
use Rattle.const_expr.specs.Constants.{whole, natural, naturals, const_order, IsAscending, IsConst}
use Rattle.const_expr.specs.declared.constant.Const.TheVariants as c
use Rattle.const_expr.proofs.Keeps.{set_keeps}
use Rattle.const_expr.proofs.Layers.{number_layer}

-- whole numbers in their order
below : (m n : ℕ) → m < n → int_cmp (pos m *ℤ pos 1) (pos n *ℤ pos 1) ≡ Less
below m n lt = rw (mul-one m, mul-one n) (grind (arith, common_steps))

pub naturals_below : (m n : ℕ) → m < n → const_order (natural m) (natural n) ≡ Less
unfolding const_order
naturals_below m n lt = rw (number_layer (whole (pos m)), number_layer (whole (pos n))) (below m n lt)

naturals_behind : (n : ℕ) (ns : List ℕ) → All (λ m. n < m) ns → All (λ x. const_order (natural n) x ≡ Less) (naturals ns)
naturals_behind n [] h k d lt = absurd (omega arith)
naturals_behind n (m ∷ ns) h zero d lt = naturals_below n m (h 0 n (omega arith))
naturals_behind n (m ∷ ns) h (suc k) d lt = naturals_behind n ns (λ i e l. h (suc i) e (omega arith)) k d (omega arith)

-- ascending lengths are an ascending set of numbers
pub naturals_ascend : (ns : List ℕ) → AllPairs (λ (a b : ℕ). a < b) ns → IsAscending (naturals ns)
naturals_ascend [] asc = λ i j d lt h. absurd (omega arith)
naturals_ascend (n ∷ ns) asc =
    AllPairs-cons (λ x y. const_order x y ≡ Less) (natural n) (naturals ns)
    (naturals_behind n ns (λ k d lt. asc 0 (suc k) d (omega arith) (omega arith)))
    (naturals_ascend ns (λ i j d lt h. asc (suc i) (suc j) d (omega arith) (omega arith)))

-- listed lengths are a constant
pub naturals_keep : (xs : List Const) (ms ns : List ℕ) → xs ≡ naturals ms → ms ≡ ns → AllPairs (λ (a b : ℕ). a < b) ns → IsConst (c.Set xs)
naturals_keep xs ms ns e f asc = subst (λ ys. IsConst (c.Set ys)) (sym (e ∙ ap naturals f)) (set_keeps (naturals ns) (naturals_ascend ns asc))
