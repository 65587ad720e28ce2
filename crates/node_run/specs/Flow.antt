-- What went in and what came out.
use Rattle.std.specs.Prelude.{ℕ, List, Option}

-- what an input tells that it has left, and what is written on an output, before a call and after
-- it
pub record Flow : Type 0 where
  pub left : Option (List ℕ)
  pub new : Option (List ℕ)
  pub before : Option (List ℕ)
  pub after : Option (List ℕ)

abbrev pub flow : Option (List ℕ) → Option (List ℕ) → Option (List ℕ) → Option (List ℕ) → Flow
flow left new before after =
    record { left = left; new = new; before = before; after = after }
