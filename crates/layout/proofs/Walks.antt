-- What is known on the way through the fields of a composite.
use Rattle.std.specs.Prelude.{◌≡◌, ℕ, ◌+◌, ◌^◌, ◌≤◌, ◌↔◌, ◌⊎◌, List, [], ◌++◌, length, Option, MatchOption}
use Rattle.bit_length.specs.Lengths.{Has, Same, Only, Sums}
use Rattle.dsdl_types.specs.Schemas.{Sch, Flds, Outline, Struct, Union, tag_bits, variants}
use Rattle.dsdl_types.specs.Greatest.{longest_fields, longest_variant}
use Rattle.dsdl_types.specs.Lengths.{EndsAt, VariantLength, StandsAt}
use Rattle.dsdl_types.specs.Rules.{AreFormed, NoPadding}
use Rattle.layout.specs.declared.row.Row.{Row}
use Rattle.layout.specs.Layouts.{typed_fields, AreRows}
use Rattle.layout.specs.Sets.{HasIn}

-- Of a structure's fields some have their rows and can end at some places, and the rest are left.
pub record Walks (fs : Flds) (o : Outline) (rest : Flds) (rows : List Row) (ends : List ℕ) : Type 0 where
  pub done : List (List ℕ × Sch)
  pub split : typed_fields fs ≡ done ++ typed_fields rest
  pub each : AreRows (Struct fs o) 0 done rows
  pub stands : (k n : ℕ) → StandsAt fs (length rows + k) 0 n ↔ ((p : ℕ) × Has ends p × StandsAt rest k p n)
  pub arrives : (n : ℕ) → EndsAt fs 0 n ↔ ((p : ℕ) × Has ends p × EndsAt rest p n)
  pub farthest : ℕ
  pub within : (p : ℕ) → Has ends p → p ≤ farthest
  pub short : longest_fields rest farthest ≤ 2 ^ 32
  pub formed : AreFormed rest

-- Of a union's variants some have their rows and some lengths, and the rest are left.
pub record Joins (fs : Flds) (o : Outline) (rest : Flds) (rows : List Row) (lengths : Option (List ℕ)) : Type 0 where
  pub done : List (List ℕ × Sch)
  pub split : typed_fields fs ≡ done ++ typed_fields rest
  pub each : AreRows (Union fs o) 0 done rows
  pub none : MatchOption lengths (done ≡ []) (λ _. Unit {0})
  pub joined : (n : ℕ) → VariantLength fs n ↔ (HasIn lengths n ⊎ VariantLength rest n)
  pub short : tag_bits (variants fs) + longest_variant rest ≤ 2 ^ 32
  pub formed : AreFormed rest
  pub no_padding : NoPadding rest

-- Of a structure's fields some are passed, behind which the rest begin at some places.
pub record Passes (fs rest : Flds) (ends : List ℕ) : Type 0 where
  pub arrives : (n : ℕ) → EndsAt fs 0 n ↔ ((p : ℕ) × Has ends p × EndsAt rest p n)
  pub farthest : ℕ
  pub within : (p : ℕ) → Has ends p → p ≤ farthest
  pub short : longest_fields rest farthest ≤ 2 ^ 32
  pub formed : AreFormed rest

-- The rest begins so many bits behind some places.
pub record PassesBehind (fs rest : Flds) (places : List ℕ) (behind : ℕ) : Type 0 where
  pub ends : List ℕ
  pub are : Same (Has ends) (Sums (Has places) (Only behind))
  pub passes : Passes fs rest ends
  pub small : behind ≤ 2 ^ 32
