-- Sets of places on the way through the fields of a composite.
use Rattle.std.specs.Prelude.{◌≡◌, ℕ, ◌^◌, ◌≤◌, Bool, List, Option, Some, None}
use Rattle.bit_length.specs.Lengths.{Numbers, Has}
use Rattle.dsdl_types.specs.Schemas.{Sch, is_delimited, extent_of}
use Rattle.dsdl_types.specs.Greatest.{from_lead, longest, as_part}

-- where a part begins that stands behind one of these places, and may have to begin at a multiple
-- of 8
abbrev pub Leads : Bool → Numbers → Numbers
Leads aligned S n = (p : ℕ) × S p × (n ≡ from_lead aligned p)

-- no number is above 2^32
abbrev pub IsShort : Numbers → Type 0
IsShort S = (n : ℕ) → S n → n ≤ 2 ^ 32

-- no length of the type as a part of another is above 2^32
abbrev pub IsShortPart : Sch → Type 0
IsShortPart s = as_part (is_delimited s) (extent_of s) (longest s) ≤ 2 ^ 32

-- the members of a set that may be absent
abbrev pub HasIn : Option (List ℕ) → Numbers
HasIn None n = ⊥
HasIn (Some s) n = Has s n
