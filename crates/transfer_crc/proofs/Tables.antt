-- A table that is held against a function at each of the 256 bytes, by computing.
use Rattle.std.proofs.Common.{◌≡◌, ℕ, ◌<◌, List, get_or, map, ap, ◌∙◌, arith}
use Rattle.std.specs.List.{range_with_len}
use Rattle.std.proofs.lemmas.List.FromFn.{get_or-map-range_with_len}

pub from_table : (table : List ℕ) (f : ℕ → ℕ) (b : ℕ) → b < 256 → table ≡ map f (range_with_len 0 256) → get_or table b 0 ≡ f b
from_table table f b l e = ap (λ t. get_or t b 0) e ∙ get_or-map-range_with_len f 0 256 b b 0 l (omega arith)
