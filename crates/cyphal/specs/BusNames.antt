-- The names of buses in a word.
use Rattle.std.specs.Prelude.{ℕ, Bool, true, ◌==◌, nat_le, ◌&&◌, not, List, [], ◌∷◌, length, Option}
use Rattle.std.specs.Prelude.{Some, None, if◌then◌else◌}
use Rattle.std.specs.List.{list_all, list_any, slice_split}
use Rattle.std.specs.Str.{bytes_eq}
use Rattle.node_plan.specs.Names.{is_bus_name}

-- a bus has a name of 1 to 15 letters, digits and `_`
abbrev pub is_bus : List ℕ → Bool
is_bus name = nat_le 1 (length name) && is_bus_name name

-- no name stands twice
abbrev pub all_differ : List (List ℕ) → Bool
all_differ [] = true
all_differ (name ∷ names) = not (list_any (bytes_eq name) names) && all_differ names

-- one to three buses, all different
abbrev pub are_buses : List (List ℕ) → Bool
are_buses names = nat_le (length names) 3 && (list_all is_bus names && all_differ names)

abbrev pub buses_among : List (List ℕ) → Option (List (List ℕ))
buses_among names = if are_buses names then Some names else None

-- the buses of a word are the names in it, with `,` between
abbrev pub buses_given : List ℕ → Option (List (List ℕ))
buses_given word = buses_among (slice_split (λ byte. byte == 44) word)
