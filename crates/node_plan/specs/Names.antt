-- Names of buses.
use Rattle.std.specs.Prelude.{ℕ, Bool, List, ◌==◌, ◌&&◌, ◌||◌, length, nat_le}
use Rattle.std.specs.List.{list_all}
use Rattle.std.specs.Char.{is_ascii_alphanumeric}

-- a letter, a digit or `_`
abbrev pub is_name_byte : ℕ → Bool
is_name_byte b = is_ascii_alphanumeric b || (b == 95)

-- a name of a bus has at most 15 letters, digits and `_`
abbrev pub is_bus_name : List ℕ → Bool
is_bus_name name = nat_le (length name) 15 && list_all is_name_byte name
