-- The buses of a log that is heard without a plan.
use Rattle.std.specs.Prelude.{ℕ, List, [], ◌∷◌, codes}

abbrev pub bus_names : List (List ℕ)
bus_names = codes "can0" ∷ codes "can1" ∷ codes "can2" ∷ []
