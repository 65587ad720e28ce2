-- What stands behind what was written.
use Rattle.std.specs.Prelude.{◌≡◌, ◌++◌, ℕ, List, Option, Some, None}

-- what was written, with these bytes behind it, where that is told
abbrev pub behind : Option (List ℕ) → List ℕ → Option (List ℕ)
behind None bytes = None
behind (Some written) bytes = Some (written ++ bytes)

-- a front of these bytes was written behind what stood before
pub record Begins (bytes : List ℕ) (before after : Option (List ℕ)) : Type 0 where
  pub front : List ℕ
  pub rest : List ℕ
  pub whole : bytes ≡ front ++ rest
  pub written : after ≡ behind before front
