-- The limits of registers.
use Rattle.std.specs.Prelude.{ℕ, Bool, true, false, List, Option, Some, None, map, not, ◌≡◌}
use Rattle.std.specs.Prelude.{slice_get}
use Rattle.std.specs.List.{position}
use Rattle.std_types.specs.Limits.{lie_within}
use Rattle.std_types.specs.declared.register_value.RegisterValue.{RegisterValue}
use Rattle.std_types.specs.declared.registers.Limits.{Limits}
use Rattle.std_types.specs.declared.registers.Register.{Register}
use Rattle.register_service.specs.declared.open_error.OpenError.{OpenError}
use Rattle.register_service.specs.declared.open_error.OpenError.TheVariants as E

-- whether a value is within a register's limits, where it has any
abbrev pub is_within : Option Limits → RegisterValue → Bool
is_within None v = true
is_within (Some limits) v = lie_within limits v

-- the number of the first register whose value isn't within its limits
abbrev pub first_outside : List Register → Option ℕ
first_outside registers = position (λ r. not (is_within r.limits r.value)) registers

-- an error that names this number
abbrev pub IsOutside : OpenError → Option ℕ → Type 0
IsOutside (E.Outside index) number = number ≡ Some index
IsOutside E.NoMemory number = ⊥

-- the limits of registers, in their order
abbrev pub limits_of : List Register → List (Option Limits)
limits_of registers = map (λ r. r.limits) registers

-- the answer of a guard that keeps registers within these limits: where there is a register of that
-- number, and the value is within its limits
abbrev pub is_allowed_by : Option (Option Limits) → RegisterValue → Bool
is_allowed_by None v = false
is_allowed_by (Some limits) v = is_within limits v

abbrev pub is_allowed : List (Option Limits) → ℕ → RegisterValue → Bool
is_allowed limits number v = is_allowed_by (slice_get limits number) v
