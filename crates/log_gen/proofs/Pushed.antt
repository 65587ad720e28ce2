-- A list of the values of a function, to which the next one is put.
use Rattle.std.proofs.Common.{◌≡◌, ℕ, ◌+◌, List, [], ◌∷◌, ◌++◌, map, sym, ap, ◌∙◌, arith}
use Rattle.std.specs.List.{range_with_len}
use Rattle.std.proofs.lemmas.List.FromFn.{map-range_with_len_more}

pub pushed : {X : Type 0} (f : ℕ → X) (n : ℕ) (old new : List X) (x : X) → new ≡ old ++ x ∷ [] → old ≡ map f (range_with_len 0 n) → x ≡ f n → new ≡ map f (range_with_len 0 (n + 1))
pushed f n old new x e is at =
    e ∙ ap (λ xs. xs ++ x ∷ []) is ∙ ap (λ y. map f (range_with_len 0 n) ++ y ∷ []) at
    ∙ sym (map-range_with_len_more f 0 n n (omega arith))
