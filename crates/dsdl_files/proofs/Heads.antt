-- The first element of a list in order that passes a test.
use Rattle.std.proofs.Common.{◌≡◌, ◌∙◌, ◌⊎◌, inl, inr, ℕ, Bool, true, false, cond, List, [], ◌∷◌, refl, sym, ap, subst}
use Rattle.std.specs.List.{filter}
use Rattle.std.specs.Cmp.{both_ways}
use Rattle.dsdl_files.specs.Order.{IsAscending}
use Rattle.dsdl_files.proofs.Members.{In, true_or_false, not_both}
use Rattle.dsdl_files.proofs.Ordered.{Before, before_itself, before_both, head_before, tail_ascends}

-- tests that agree at each element keep the same
pub filter_same : (p q : List ℕ → Bool) (xs : List (List ℕ)) → ((x : List ℕ) → In x xs → p x ≡ q x) → filter p xs ≡ filter q xs
filter_same p q [] agree = refl
filter_same p q (x ∷ xs) agree = λ i. cond (agree x (inl refl) i) (x ∷ filter_same p q xs (λ y j. agree y (inr j)) i) (filter_same p q xs (λ y j. agree y (inr j)) i)

-- what two tests say of the elements of a list: `all` passes h and none before it, and `rest` passes what `all` passes behind h
pub record Splits (h : List ℕ) (all rest : List ℕ → Bool) (xs : List (List ℕ)) : Type 0 where
  pub first : all h ≡ true
  pub none : rest h ≡ false
  pub least : (x : List ℕ) → In x xs → all x ≡ true → (x ≡ h) ⊎ Before h x
  pub keeps : (x : List ℕ) → In x xs → all x ≡ true → Before h x → rest x ≡ true
  pub within : (x : List ℕ) → In x xs → rest x ≡ true → all x ≡ true

tail : (h x : List ℕ) (all rest : List ℕ → Bool) (xs : List (List ℕ)) → Splits h all rest (x ∷ xs) → Splits h all rest xs
tail h x all rest xs s = record {
  first = s.first;
  none = s.none;
  least = λ y i. s.least y (inr i);
  keeps = λ y i. s.keeps y (inr i);
  within = λ y i. s.within y (inr i);
}

at_head : (h x : List ℕ) (all rest : List ℕ → Bool) (xs : List (List ℕ)) → IsAscending (x ∷ xs) → Splits h all rest (x ∷ xs) → h ≡ x
    → filter all (x ∷ xs) ≡ h ∷ filter rest (x ∷ xs)
at_head h x all rest xs sorted s e =
    let passes : all x ≡ true = ap all (sym e) ∙ s.first in
    let fails : rest x ≡ false = ap rest (sym e) ∙ s.none in
    let agree : (y : List ℕ) → In y xs → all y ≡ rest y = λ y i. both_ways (all y) (rest y)
    (λ t. s.keeps y (inr i) t (subst (λ p. Before p y) (sym e) (head_before x xs y sorted i))) (s.within y (inr i)) in
    ap (λ b. cond b (x ∷ filter all xs) (filter all xs)) passes
    ∙ ap (λ ys. x ∷ ys) (filter_same all rest xs agree)
    ∙ ap (λ p. p ∷ filter rest xs) (sym e)
    ∙ ap (λ b. h ∷ cond b (x ∷ filter rest xs) (filter rest xs)) (sym fails)

pub filter_head : (h : List ℕ) (all rest : List ℕ → Bool) (xs : List (List ℕ)) → IsAscending xs → In h xs → Splits h all rest xs
    → filter all xs ≡ h ∷ filter rest xs
filter_head h all rest [] sorted i s = absurd i
filter_head h all rest (x ∷ xs) sorted i s = elim i [
  | inl e ↦ at_head h x all rest xs sorted s e
  | inr t ↦
      let before : Before x h = head_before x xs h sorted t in
      let fails : all x ≡ false = elim (true_or_false (all x)) [
        | inl a ↦ elim (s.least x (inl refl) a) [ inl e ↦ before_itself x h e before | inr b ↦ before_both x h before b ]
        | inr f ↦ f
      ] in
      let fails' : rest x ≡ false = elim (true_or_false (rest x)) [
        | inl a ↦ not_both (all x) (s.within x (inl refl) a) fails
        | inr f ↦ f
      ] in
      ap (λ b. cond b (x ∷ filter all xs) (filter all xs)) fails
      ∙ filter_head h all rest xs (tail_ascends x xs sorted) t (tail h x all rest xs s)
      ∙ ap (λ b. h ∷ cond b (x ∷ filter rest xs) (filter rest xs)) (sym fails')
]
