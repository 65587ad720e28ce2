-- The types that references mean.
use Rattle.std.specs.Prelude.{ℕ, List, [], ◌∷◌, ◌++◌, Option, Some, None}
use Rattle.dsdl_names.specs.Parts.{dotted, cut_last}

-- a short name in the namespace of a type, whose full name is cut at its last point
abbrev pub in_namespace : Option (List ℕ × List ℕ) → List ℕ → List ℕ
in_namespace (Some p) short = p.0 ++ 46 ∷ short
in_namespace None short = short

-- the full name that the names of a reference mean in the definition of a type: a short name alone
-- is one of the type's own namespace, no name means none
abbrev pub beside : List ℕ → List (List ℕ) → Option (List ℕ)
beside own [] = None
beside own (short ∷ []) = Some (in_namespace (cut_last 46 own) short)
beside own (name ∷ next ∷ names) = Some (dotted (name ∷ next ∷ names))
