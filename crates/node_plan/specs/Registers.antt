-- Registers of a plan: their names, the texts of their values, and what limits keep numbers within.
use Rattle.std.specs.Prelude.{◌≡◌, ◌≤◌, ℕ, Bool, true, ◌&&◌, List, Option, Some, None, IsTrue}
use Rattle.std.specs.Prelude.{length, nat_le}
use Rattle.std.specs.List.{list_all}
use Rattle.std_types.specs.Limits.{is_whole, lie_within}
use Rattle.std_types.specs.RegisterValues.{FitsRegisterValue, variant_value}
use Rattle.std_types.specs.Schemas.{register_value}
use Rattle.std_types.specs.declared.register_value.RegisterValue.{RegisterValue}
use Rattle.std_types.specs.declared.registers.Limits.{Limits}
use Rattle.std_types.specs.declared.registers.Register.{Register}
use Rattle.value_text.specs.Texts.{value_text}

-- a byte from 21 to 7E hex
abbrev pub is_register_byte : ℕ → Bool
is_register_byte b = nat_le 33 b && nat_le b 126

-- a name of a register has at most 255 such bytes
abbrev pub is_register_name : List ℕ → Bool
is_register_name name = nat_le (length name) 255 && list_all is_register_byte name

-- a text of a value of uavcan.register.Value whose numbers lie in the ranges of their types
abbrev pub IsTextOf : RegisterValue → List ℕ → Type 0
IsTextOf r text = FitsRegisterValue r × (value_text register_value (variant_value r) ≡ text)

-- the value of which this is the text, or that there is none
abbrev pub Reads : List ℕ → Option RegisterValue → Type 0
Reads text (Some r) = IsTextOf r text
Reads text None = (r : RegisterValue) → IsTextOf r text → ⊥

-- whether limits can be set to a value: it is of an integer or natural variant, and each of its
-- items lies within them
abbrev pub can_limit : Limits → RegisterValue → Bool
can_limit limits v = is_whole v && lie_within limits v

-- a value may have no limits; those that it has are of numbers, and it is within them
abbrev pub is_limited : Option Limits → RegisterValue → Bool
is_limited None v = true
is_limited (Some limits) v = can_limit limits v

-- a register in its ranges
pub record IsRegister (r : Register) : Type 0 where
  pub some_byte : 1 ≤ length r.name
  pub bytes : IsTrue (is_register_name r.name)
  pub value : FitsRegisterValue r.value
  pub within : IsTrue (is_limited r.limits r.value)
