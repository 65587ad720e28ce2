-- How far past the end of its bits reading goes.
use Rattle.std.specs.Prelude.{◌≡◌, ℕ, ◌+◌, ◌*◌, ◌-◌, ◌≤◌, max, Bool, true, false, List, length}
use Rattle.dsdl_types.specs.Schemas.{Prim, Sch, Flds, Simple, Fixed, Var, Struct, Union, End, Pad}
use Rattle.dsdl_types.specs.Schemas.{Field, is_delimited, length_field_bits, tag_bits, width}
use Rattle.dsdl_types.specs.Schemas.{variants}
use Rattle.dsdl_types.specs.Reading.{Read, Got}

-- of a delimited part the header, since its window lies within the bits
abbrev pub header_or : Bool → ℕ → ℕ
header_or false m = m
header_or true m = 32

-- at most so many bits past the end
abbrev mutual
  pub reach : Sch → ℕ
  reach (Simple t) = width t
  reach (Fixed s n) = n * header_or (is_delimited s) (reach s)
  reach (Var s c) = length_field_bits c + c * header_or (is_delimited s) (reach s)
  reach (Struct fs o) = reach_fields fs + 7
  reach (Union fs o) = tag_bits (variants fs) + (reach_variant fs + 7)

  pub reach_fields : Flds → ℕ
  reach_fields End = 0
  reach_fields (Pad n fs) = n + reach_fields fs
  reach_fields (Field name s fs) = 7 + header_or (is_delimited s) (reach s) + reach_fields fs

  pub reach_variant : Flds → ℕ
  reach_variant End = 0
  reach_variant (Pad n fs) = reach_variant fs
  reach_variant (Field name s fs) = max (header_or (is_delimited s) (reach s)) (reach_variant fs)

-- what is read ends at most so many bits past the end of the bits
abbrev pub Reaches : {A : Type 0} → (ℕ → List Bool → Read A) → ℕ → Type 0
Reaches {A = A} f m = (p : ℕ) (x : List Bool) (v : A) (q : ℕ) (y : List Bool) → f p x ≡ Got v q y → q + length y ≤ p + length x + m
