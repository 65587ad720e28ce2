-- A table is held against a definition row by row, by computing.
use Rattle.std.proofs.Common.{◌≡◌, ◌∙◌, ℕ, ◌<◌, List, length, map, get_or, sym, ap, arith}
use Rattle.std.specs.List.{range_with_len}
use Rattle.std.proofs.lemmas.List.{length-map, get_or-map}
use Rattle.std.proofs.lemmas.List.FromFn.{get_or-map-range_with_len, length-map-range_with_len}

-- two functions that agree on the first n numbers
pub agree : {Y : Type 0} (f g : ℕ → Y) (n i : ℕ) → i < n → map f (range_with_len 0 n) ≡ map g (range_with_len 0 n) → f i ≡ g i
agree f g n i h e =
    sym (get_or-map-range_with_len f 0 n i i (f i) h (omega arith)) ∙ (ap (λ t. get_or t i (f i)) e ∙ get_or-map-range_with_len g 0 n i i (f i) h (omega arith))

-- what the row at a place says
pub row_says : {X Y : Type 0} (table : List X) (says : X → Y) (f : ℕ → Y) (n i : ℕ) (d : X) → i < n
    → map says table ≡ map f (range_with_len 0 n) → says (get_or table i d) ≡ f i
row_says table says f n i d h e =
    let long : length table ≡ n = sym (length-map table says) ∙ (ap length e ∙ length-map-range_with_len f 0 n) in
    sym (get_or-map says table i d (f i) (omega arith)) ∙ (ap (λ t. get_or t i (f i)) e ∙ get_or-map-range_with_len f 0 n i i (f i) h (omega arith))
