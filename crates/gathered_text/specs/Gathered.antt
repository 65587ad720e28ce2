-- Text that is gathered before it is written.
use Rattle.std.specs.Prelude.{◌≡◌, ◌++◌, ℕ, List, Option}
use Rattle.cy_outside.specs.Written.{behind}

-- a text stands behind what was written before, but for its end, which is gathered
pub record Gathered (whole gathered : List ℕ) (before after : Option (List ℕ)) : Type 0 where
  pub front : List ℕ
  pub parts : whole ≡ front ++ gathered
  pub written : after ≡ behind before front
