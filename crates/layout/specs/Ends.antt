-- Where fields end behind other fields of a structure.
use Rattle.std.specs.Prelude.{◌≡◌, ℕ, ◌+◌, ◌↔◌, List}
use Rattle.bit_length.specs.Lengths.{Numbers}
use Rattle.dsdl_types.specs.Schemas.{Flds, End}
use Rattle.dsdl_types.specs.Lengths.{EndsAt}
use Rattle.dsdl_types.specs.Views.{Kind, with_field}

-- a field, or padding, and no other
abbrev pub alone : List ℕ × Kind → Flds
alone f = with_field f.0 f.1 End

-- where fields can end that begin behind one of these places
abbrev pub EndsBehind : Flds → Numbers → Numbers
EndsBehind fs S n = (p : ℕ) × S p × EndsAt fs p n

-- a field of this kind, or padding, ends k bits behind wherever it begins
abbrev pub IsBits : Kind → ℕ → Type 0
IsBits kind k = (name : List ℕ) (p n : ℕ) → EndsAt (with_field name kind End) p n ↔ (n ≡ p + k)
