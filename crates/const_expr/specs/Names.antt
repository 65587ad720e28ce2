-- Where constants stand among others.
use Rattle.std.specs.Prelude.{◌≡◌, ℕ, List, Option}
use Rattle.std.specs.List.{position_from}
use Rattle.std.specs.Str.{bytes_eq}
use Rattle.const_expr.specs.declared.scope.NamedConst.{NamedConst}

-- of each name the place of its first constant is known, counted from 0, and of no other one
abbrev pub AreNamePlaces : List NamedConst → (List ℕ → Option ℕ) → Type 0
AreNamePlaces ks place_of = (name : List ℕ) → place_of name ≡ position_from (λ (k : NamedConst). bytes_eq k.name name) 0 ks
